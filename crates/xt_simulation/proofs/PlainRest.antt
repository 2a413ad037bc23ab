-- A judged step outside nested interrupts that executes no instruction: an interrupt, a turn of waiting, or a failed fetch.
use Rattle.std.specs.Prelude.{is_some}
use Rattle.std.proofs.Common.{◌≡◌, ℕ, ◌≤◌, Bool, true, false, ◌||◌, not, eqb, ltb, List, [], ◌∷◌, Option, None, sym, ap, ◌∙◌, refl, arith, subst, cond}
use Rattle.std.proofs.lemmas.Bool.{cond-true, or_left, or_right}
use Rattle.xt_map.specs.declared.contents.MemoryContents.{MemoryContents}
use Rattle.xt_map.specs.Memory.{byte_at}
use Rattle.xt_map.specs.Touching.{IsMemory}
use Rattle.xt_special.specs.declared.ps.Ps.{Ps}
use Rattle.xt_special.specs.Numbers as number
use Rattle.xt_special.specs.Control.{special_of}
use Rattle.xt_special.specs.Interrupts.{pending_of}
use Rattle.xt_map.specs.Fetching.{Fetched, fetch_at}
use Rattle.xt_map.specs.Code.{AreBytes}
use Rattle.xt_rows.specs.Settling.{settled_interrupt, settled_wait}
use Rattle.xt_exec.specs.State.{State}
use Rattle.xt_exec.specs.TurnLaws.{IsShaped}
use Rattle.xt_exec.specs.Turn.{planned_turn}
use Rattle.xt_exec.proofs.Specials.{level_small}
use Rattle.xt_trace.specs.declared.record.StepRecord.{StepRecord}
use Rattle.xt_frames.specs.declared.holes.Nested.{Nested}
use Rattle.xt_frames.specs.Frames.{Frame, FrameState}
use Rattle.xt_frames.specs.FrameStep.{FrameTurn, fetched_step, in_frame, with_inputs, step_with_inputs, exception_in_frame}
use Rattle.xt_frames.specs.HandlerSteps.{is_window}
use Rattle.xt_frames.specs.Nesting.{unset_after}
use Rattle.xt_frames.specs.SaveAreas.{is_live}
use Rattle.xt_frames.specs.Breaches.{Bounds, first_shown, fetched_tests, inputs_of, laid_breach, other_tests, touches_save_area, vector_test}
use Rattle.xt_frames.proofs.Lengths.{laid_stays}
use Rattle.xt_frames.proofs.Shown.{NoneShown}
use Rattle.xt_frames.proofs.StackSteps.{breach_fetches, step_fetches, step_taken, step_waits}
use Rattle.xt_simulation.specs.Cores.{Related}
use Rattle.xt_simulation.specs.JudgedSteps.{plain_after}
use Rattle.xt_simulation.specs.Relation.{inputs, lost_at}
use Rattle.xt_simulation.specs.Steps.{record_now, reply_now}
use Rattle.xt_simulation.proofs.Evenly.{same_pending}
use Rattle.xt_simulation.proofs.Judges.{record_reply, same_laid}
use Rattle.xt_uses.specs.UseBreaches.{nowhere, swaps_unknown, use_tests}
use Rattle.xt_uses.specs.UseState.{UseState}
use Rattle.xt_uses.specs.UseStep.{step_insn, fetched_movsp, full_step, movsp_of, reply_mask, use_turn}
use Rattle.xt_simulation.specs.Knowing.{Follows, Knows, NowFit, with_pointer}
use Rattle.xt_simulation.proofs.Following.{now_plain, quiet_follows, with_unset}
use Rattle.xt_simulation.proofs.PlainStep.{JudgedUse, finish, use_plain}
use Rattle.xt_simulation.proofs.Rows.{Quiet, raise_quiet, taken_quiet, waits_quiet}
use Rattle.xt_simulation.proofs.Tests.{nowhere_loads, nowhere_saves, shown_none}

-- the tests where nothing is fetched
others_too : (b : Bounds) (live : ℕ → Bool) (kb : ℕ → ℕ) (rec : StepRecord) (g h : FrameState) (u v : FrameTurn) → NoneShown (use_tests false (swaps_unknown kb rec.access) false (other_tests b live nowhere rec h v))
    → g.control.pc ≡ h.control.pc → g.nested ≡ None → u.after.control.ps.woe ≡ v.after.control.ps.woe → special_of u.after.control number.vecbase ≡ special_of v.after.control number.vecbase
    → (first_shown (other_tests b nowhere nowhere rec g u) ≡ None) × ((touches_save_area live rec.access ≡ false) × (swaps_unknown kb rec.access ≡ false))
others_too b live kb rec g h u v (saves, (loads, (woe, (vectors, (vector, more))))) pc none ps base = (
  shown_none (other_tests b nowhere nowhere rec g u) (
    nowhere_saves rec.access,
    (
      nowhere_loads rec.access,
      (
        ap not ps ∙ woe,
        (
          ap (λ n. not (eqb n b.vecbase)) base ∙ vectors,
          (
            ap (λ pc. (vector_test b (record g { control = record g.control { pc = pc } })).shown) pc ∙ vector,
            (ap (λ (o : Option Nested). is_some o) none, tt),
          ),
        ),
      ),
    ),
  ),
  (saves, loads),
)

module _ (code : ℕ → ℕ) (bytes : AreBytes code) (b : Bounds) (fresh : Bool) (s : State) (m : MemoryContents) (shaped : IsShaped s) (real : IsMemory m) (nowindow : is_window (planned_turn code s).kind ≡ false)
    (us : UseState) (sn : us.frame.nested ≡ None) (live : ℕ → Bool) (own : (a : ℕ) → is_live b.range us.frame a ≡ true → live a ≡ true) (kb : ℕ → ℕ)
    {f : FrameState} {ring spilled : List Frame} (l : Related (byte_at m) b (lost_at fresh f) s f ring spilled) (kn : Knows f us) (fn : f.nested ≡ None) where
  abbrev rec : StepRecord
  rec = record_now code m s

  abbrev h : FrameState
  h = with_inputs (inputs_of rec) us.frame

  abbrev g : FrameState
  g = with_inputs (inputs_of rec) f

  now : NowFit us g h
  now = now_plain kn fn sn (inputs_of rec)

  same_g : g ≡ with_inputs (inputs 0 s) f
  same_g = same_laid code s (reply_now code m s) f shaped.control.ps.owb_fits

  abbrev turn_of_f : FrameTurn
  turn_of_f = with_unset (unset_after (step_with_inputs code rec.reply g).kind (fetch_at code g.control.pc) f.unset) (step_with_inputs code rec.reply g)

  abbrev v : FrameTurn
  v = step_with_inputs code rec.reply h

  plain_is : plain_after code (reply_now code m s) (with_inputs (inputs 0 s) f) ≡ turn_of_f
  plain_is = ap (plain_after code (reply_now code m s)) (sym same_g) ∙ ap (λ z. plain_after code z g) (sym (record_reply code m s))

  -- both states are quiet, and the frame state shows nothing
  quiet_judged : Quiet us g h (step_with_inputs code rec.reply g) v → movsp_of code h ≡ None → laid_breach b fresh code nowhere nowhere rec g ≡ None → touches_save_area live rec.access ≡ false → swaps_unknown kb rec.access ≡ false → JudgedUse code b fresh m s live kb (full_step code false rec kb us)
  quiet_judged q none quiet saves swaps =
      let at = fetch_at code h.control.pc in
      let k = reply_mask kb rec.access in
      let here : Follows (use_turn (step_insn v.kind at) k us h (with_unset (unset_after v.kind at us.frame.unset) v)) (with_unset (unset_after (step_with_inputs code rec.reply g).kind at f.unset) (step_with_inputs code rec.reply g)) =
      quiet_follows kn fn sn (inputs_of rec) at k (step_with_inputs code rec.reply g) v q in
      let same : fetch_at code g.control.pc ≡ at = ap (fetch_at code) now.control.even.pc in
      let there : Follows (use_turn (step_insn v.kind at) k us h (with_unset (unset_after v.kind at us.frame.unset) v)) turn_of_f =
      subst (λ z. Follows (use_turn (step_insn v.kind at) k us h (with_unset (unset_after v.kind at us.frame.unset) v)) (with_unset (unset_after (step_with_inputs code rec.reply g).kind z f.unset) (step_with_inputs code rec.reply g))) (sym same) here in
      let follows : Follows (full_step code false rec kb us) (plain_after code (reply_now code m s) (with_inputs (inputs 0 s) f)) =
      subst (λ z. Follows z (plain_after code (reply_now code m s) (with_inputs (inputs 0 s) f))) (sym (use_plain code rec kb us sn none)) (subst (Follows (use_turn (step_insn v.kind at) k us h (with_unset (unset_after v.kind at us.frame.unset) v))) (sym plain_is) there) in
      finish code bytes b fresh s m shaped real nowindow l fn quiet live kb kn own saves swaps follows (ap (λ (z : FrameTurn). z.after.nested) plain_is ∙ ((laid_stays code rec.reply g).0 ∙ fn))

  same_wait : pending_of g.control ≡ pending_of h.control
  same_wait = same_pending g.control (with_pointer g.control.threadptr h.control) now.control.even

  -- ---- an interrupt
  pub taken_judged : ltb 0 (pending_of h.control) ≡ true → (vector_test b h).shown ≡ false → touches_save_area live rec.access ≡ false → swaps_unknown kb rec.access ≡ false → JudgedUse code b fresh m s live kb (full_step code false rec kb us)
  unfolding laid_breach
  taken_judged pends vector saves swaps =
      let yes_g : ltb 0 (pending_of g.control) ≡ true = ap (λ n. ltb 0 n) same_wait ∙ pends in
      let level = pending_of g.control in
      let small : level ≤ 5 = level_small (special_of g.control number.interrupt) (special_of g.control number.intenable) g.control.ps in
      let eg = step_taken code rec.reply g yes_g in
      let eh : v ≡ in_frame (settled_interrupt level h.control) rec.reply h = step_taken code rec.reply h pends ∙ ap (λ n. in_frame (settled_interrupt n h.control) rec.reply h) (sym same_wait) in
      let q : Quiet us g h (step_with_inputs code rec.reply g) v = subst (λ (z : FrameTurn). Quiet us g h z v) (sym eg) (subst (Quiet us g h (in_frame (settled_interrupt level g.control) rec.reply g)) (sym eh) (taken_quiet now level rec.reply (omega arith))) in
      let none : movsp_of code h ≡ None = cond-true (is_some us.frame.nested || (ltb 0 (pending_of h.control) || h.control.waits)) None _ (or_right _ _ (or_left _ _ pends)) in
      let quiet : laid_breach b fresh code nowhere nowhere rec g ≡ None =
      cond-true (ltb 0 (pending_of g.control) || g.control.waits) _ _ (or_left _ _ yes_g) ∙ shown_none (vector_test b g ∷ []) (ap (λ pc. (vector_test b (record g { control = record g.control { pc = pc } })).shown) now.control.even.pc ∙ vector, tt) in
      quiet_judged q none quiet saves swaps

  -- ---- a turn of waiting
  pub waits_judged : ltb 0 (pending_of h.control) ≡ false → h.control.waits ≡ true → (vector_test b h).shown ≡ false → touches_save_area live rec.access ≡ false → swaps_unknown kb rec.access ≡ false → JudgedUse code b fresh m s live kb (full_step code false rec kb us)
  unfolding laid_breach
  waits_judged none_pends w vector saves swaps =
      let no_g : ltb 0 (pending_of g.control) ≡ false = ap (λ n. ltb 0 n) same_wait ∙ none_pends in
      let w_g : g.control.waits ≡ true = now.control.even.waits ∙ w in
      let eg = step_waits code rec.reply g no_g w_g in
      let eh = step_waits code rec.reply h none_pends w in
      let q : Quiet us g h (step_with_inputs code rec.reply g) v = subst (λ (z : FrameTurn). Quiet us g h z v) (sym eg) (subst (Quiet us g h (in_frame (settled_wait g.control) rec.reply g)) (sym eh) (waits_quiet now rec.reply)) in
      let none : movsp_of code h ≡ None = cond-true (is_some us.frame.nested || (ltb 0 (pending_of h.control) || h.control.waits)) None _ (or_right _ _ (or_right _ _ w)) in
      let quiet : laid_breach b fresh code nowhere nowhere rec g ≡ None =
      cond-true (ltb 0 (pending_of g.control) || g.control.waits) _ _ (or_right _ _ w_g) ∙ shown_none (vector_test b g ∷ []) (ap (λ pc. (vector_test b (record g { control = record g.control { pc = pc } })).shown) now.control.even.pc ∙ vector, tt) in
      quiet_judged q none quiet saves swaps

  -- ---- nothing is fetched
  pub fails_judged : ltb 0 (pending_of h.control) ≡ false → h.control.waits ≡ false → (at : Fetched) → fetch_at code h.control.pc ≡ at → ((f : FrameState) → fetched_movsp at f ≡ None) → (cause : ℕ) (addr : Option ℕ) → ((x : FrameState) → fetched_step at code rec.reply x ≡ exception_in_frame cause addr x)
      → ((x : FrameState) (w : FrameTurn) (live : ℕ → Bool) → fetched_tests b fresh live nowhere at rec x w ≡ other_tests b live nowhere rec x w)
      → NoneShown (use_tests false (swaps_unknown kb rec.access) false (other_tests b live nowhere rec h v)) → JudgedUse code b fresh m s live kb (full_step code false rec kb us)
  fails_judged none_pends w at is movsp cause addr raise tests shown =
      let no_g : ltb 0 (pending_of g.control) ≡ false = ap (λ n. ltb 0 n) same_wait ∙ none_pends in
      let w_g : g.control.waits ≡ false = now.control.even.waits ∙ w in
      let at_g : fetch_at code g.control.pc ≡ at = ap (fetch_at code) now.control.even.pc ∙ is in
      let eg : step_with_inputs code rec.reply g ≡ exception_in_frame cause addr g = step_fetches code rec.reply g no_g w_g ∙ (ap (λ z. fetched_step z code rec.reply g) at_g ∙ raise g) in
      let eh : v ≡ exception_in_frame cause addr h = step_fetches code rec.reply h none_pends w ∙ (ap (λ z. fetched_step z code rec.reply h) is ∙ raise h) in
      let q : Quiet us g h (step_with_inputs code rec.reply g) v = subst (λ (z : FrameTurn). Quiet us g h z v) (sym eg) (subst (Quiet us g h (exception_in_frame cause addr g)) (sym eh) (raise_quiet now cause addr)) in
      let none : movsp_of code h ≡ None = by_test (is_some us.frame.nested || (ltb 0 (pending_of h.control) || h.control.waits)) in
      let t = others_too b live kb rec g h (step_with_inputs code rec.reply g) v shown now.control.even.pc fn (ap (λ (p : Ps). p.woe) q.control.even.ps) (q.control.even.special.at 231 refl) in
      let quiet : laid_breach b fresh code nowhere nowhere rec g ≡ None =
      breach_fetches b fresh code nowhere nowhere rec g no_g w_g
      ∙ (ap (λ z. first_shown (fetched_tests b fresh nowhere nowhere z rec g (step_with_inputs code rec.reply g))) at_g
      ∙ (ap first_shown (tests g (step_with_inputs code rec.reply g) nowhere) ∙ t.0)) in
      quiet_judged q none quiet t.1.0 t.1.1
    where
      by_test : (t : Bool) → cond t None (fetched_movsp (fetch_at code h.control.pc) h) ≡ None
      by_test true = refl
      by_test false = ap (λ z. fetched_movsp z h) is ∙ movsp h
