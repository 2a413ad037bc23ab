-- A judged step of the machine of uses that shows no breach keeps the chain of stack pointers.
use Rattle.std.proofs.Common.{◌≡◌, ℕ, ◌<◌, Bool, true, false, ltb, List, ◌∷◌, Option, Some, None, refl, sym, ◌∙◌, ap, subst}
use Rattle.std.proofs.lemmas.Bool.{cond-false}
use Rattle.xt_isa.specs.declared.Insn.{Insn}
use Rattle.xt_isa.specs.Ranges.{in_range}
use Rattle.xt_special.specs.Interrupts.{pending_of}
use Rattle.xt_trace.specs.declared.record.StepKind.{StepKind}
use Rattle.xt_trace.specs.declared.record.StepRecord.{StepRecord}
use Rattle.xt_map.specs.Fetching.{Fetches, fetch_at}
use Rattle.xt_frames.specs.declared.holes.Nested.{Nested}
use Rattle.xt_frames.specs.Frames.{Frame, FrameState, value_or_zero}
use Rattle.xt_frames.specs.FrameStep.{FrameTurn, with_inputs, step_with_inputs}
use Rattle.xt_frames.specs.Nesting.{begins, current, current_in, nested_view, nested_fetched}
use Rattle.xt_frames.specs.Breaches.{Bounds, inputs_of, is_sp}
use Rattle.xt_frames.specs.Judging.{value_in}
use Rattle.xt_frames.specs.Stacks.{Stack}
use Rattle.xt_frames.proofs.Inside.{kind_inside, still_fetched}
use Rattle.xt_uses.specs.UseState.{UseState, special_operand}
use Rattle.xt_uses.specs.UseStep.{UseTurn, step_insn, full_step, left_after, movsp_of, reply_mask, turn_or, use_step, use_turn, value_step}
use Rattle.xt_uses.proofs.Returning.{left_stack}
use Rattle.xt_uses.specs.UseBreaches.{laid_use}
use Rattle.xt_uses.specs.UseParts.{UseMoves, Stands, Calls, Leaves}
use Rattle.xt_uses.proofs.UseSteps.{fetched_register, no_movsp, numbered, value_nested, value_plain}
use Rattle.xt_uses.proofs.UseChains.{plain_chain}
use Rattle.xt_uses.proofs.UseCuts.{is_sp_same, turn_stack, whole_written}

moves_past : (f g a t : FrameState) → f.frames ≡ g.frames → f.seen ≡ g.seen → t.frames ≡ a.frames → value_or_zero t.seen 1 ≡ value_or_zero a.seen 1 → UseMoves g a → UseMoves f t
moves_past f g a t old seen same sp (Stands e) = Stands (same ∙ (e ∙ sym old))
moves_past f g a t old seen same sp (Calls c e k) = Calls c (same ∙ (e ∙ ap (λ (fs : List Frame). c ∷ fs) (sym old))) (k ∙ ap (λ (xs : List (Option ℕ)). value_or_zero xs 1) (sym seen))
moves_past f g a t old seen same sp (Leaves c e k) = Leaves c (old ∙ (e ∙ ap (λ (fs : List Frame). c ∷ fs) (sym same))) (sp ∙ k)

abbrev KeepsAll : ℕ → ℕ → FrameState → FrameState → Type 0
KeepsAll lo hi f t = Stack lo hi t.seen t.frames × UseMoves f t

-- a step with these values, past the cut
module _ (b : Bounds) (fresh : Bool) (code : ℕ → ℕ) (live : ℕ → Bool) (bytes : ℕ → ℕ) (nested : Bool) (rec : StepRecord) (s : UseState) (off : begins nested rec.kind s.frame ≡ false) (k : Stack b.range.lo b.range.hi s.frame.seen s.frame.frames) where
  abbrev lo : ℕ
  lo = b.range.lo

  abbrev hi : ℕ
  hi = b.range.hi

  past_cut : (g : FrameState) → g ≡ with_inputs (inputs_of rec) (current s.frame) → (u : FrameTurn) → u ≡ value_step code false (value_in rec.write) (inputs_of rec) s.frame
      → Stack lo hi u.after.seen u.after.frames → ((a : FrameState) → a.frames ≡ u.after.frames → value_or_zero a.seen 1 ≡ value_or_zero u.after.seen 1 → UseMoves s.frame a)
      → laid_use b fresh code live bytes rec s g ≡ None
      → step_insn u.kind (fetch_at code g.control.pc) ≡ step_insn (turn_or (movsp_of code g) (step_with_inputs code rec.reply g)).kind (fetch_at code g.control.pc)
      → is_sp u.write ≡ is_sp (turn_or (movsp_of code g) (step_with_inputs code rec.reply g)).write
      → KeepsAll lo hi s.frame (full_step code nested rec bytes s).after.frame
  past_cut g is u values stack moves none kinds writes =
      let r = reply_mask bytes rec.access in
      let i = step_insn u.kind (fetch_at code g.control.pc) in
      let T : FrameState → FrameTurn → UseTurn = λ x v. use_turn (step_insn v.kind (fetch_at code x.control.pc)) r s x v in
      let step : T g u ≡ full_step code nested rec bytes s = ap (λ (v : FrameTurn). T g v) values ∙ (ap (λ (x : FrameState). T x (value_step code false (value_in rec.write) (inputs_of rec) s.frame)) is ∙ sym (cond-false (begins nested rec.kind s.frame) _ _ off)) in
      let cut = turn_stack lo hi i r s g u stack (λ j e sp. whole_written b fresh live bytes rec code s g none j (sym kinds ∙ e) (sym writes ∙ sp) (special_operand j s g) s.masks.threadptr r) in
      subst (λ (t : UseTurn). KeepsAll lo hi s.frame t.after.frame) step (cut.0.0, moves (T g u).after.frame cut.1 cut.0.1)

  plain_keeps : s.frame.nested ≡ None → (let g = with_inputs (inputs_of rec) s.frame in g.control.ps.callinc < 4
      → ((i : Insn) (len : ℕ) → ltb 0 (pending_of g.control) ≡ false → g.control.waits ≡ false → fetch_at code g.control.pc ≡ Fetches i len → in_range i ≡ true)
      → laid_use b fresh code live bytes rec s g ≡ None → KeepsAll lo hi s.frame (full_step code nested rec bytes s).after.frame)
  plain_keeps plain calls ok none =
      let f = s.frame in
      let g = with_inputs (inputs_of rec) f in
      let V = turn_or (movsp_of code g) (step_with_inputs code rec.reply g) in
      let chain = plain_chain b fresh code live bytes rec s g k calls plain ok none in
      past_cut g (ap (λ (o : Option Nested). with_inputs (inputs_of rec) (current_in o f)) (sym plain)) (numbered (fetch_at code g.control.pc) f.unset V) (value_plain code (value_in rec.write) rec f plain) chain.0
      (λ a fs sp. moves_past f g V.after a refl refl fs sp chain.1) none refl refl

  nested_keeps : (x : Nested) → s.frame.nested ≡ Some x → laid_use b fresh code live bytes rec s (with_inputs (inputs_of rec) (nested_view x s.frame)) ≡ None → KeepsAll lo hi s.frame (full_step code nested rec bytes s).after.frame
  nested_keeps x some none =
      let f = s.frame in
      let g = with_inputs (inputs_of rec) (nested_view x f) in
      let L = step_with_inputs code rec.reply g in
      let at = fetch_at code g.control.pc in
      let u = nested_fetched at (value_in rec.write) x f L in
      let still = still_fetched at (value_in rec.write) x f L in
      let stack : Stack lo hi u.after.seen u.after.frames = subst (λ (xs : List (Option ℕ)). Stack lo hi xs u.after.frames) (sym still.0) (subst (λ (fs : List Frame). Stack lo hi f.seen fs) (sym still.1) k) in
      let off_movsp = no_movsp code g x some in
      let same : turn_or (movsp_of code g) L ≡ L = ap (λ (o : Option FrameTurn). turn_or o L) off_movsp in
      past_cut g (ap (λ (o : Option Nested). with_inputs (inputs_of rec) (current_in o f)) (sym some)) u (value_nested code (value_in rec.write) rec f x some) stack
      (λ a fs sp. Stands (fs ∙ still.1)) none
      (ap (λ (n : StepKind). step_insn n at) (kind_inside at (value_in rec.write) x f L) ∙ sym (ap (λ (v : FrameTurn). step_insn v.kind at) same))
      (is_sp_same u.write L.write (fetched_register at (value_in rec.write) x f L) ∙ sym (ap (λ (v : FrameTurn). is_sp v.write) same))

  keeps_full : (o : Option Nested) → s.frame.nested ≡ o → (let g = with_inputs (inputs_of rec) (current s.frame) in g.control.ps.callinc < 4
      → ((i : Insn) (len : ℕ) → ltb 0 (pending_of g.control) ≡ false → g.control.waits ≡ false → fetch_at code g.control.pc ≡ Fetches i len → in_range i ≡ true)
      → laid_use b fresh code live bytes rec s g ≡ None → KeepsAll lo hi s.frame (full_step code nested rec bytes s).after.frame)
  keeps_full None e calls ok none =
      let same : with_inputs (inputs_of rec) (current s.frame) ≡ with_inputs (inputs_of rec) s.frame = ap (λ (o : Option Nested). with_inputs (inputs_of rec) (current_in o s.frame)) e in
      let P : FrameState → Type 0 = λ g. (i : Insn) (len : ℕ) → ltb 0 (pending_of g.control) ≡ false → g.control.waits ≡ false → fetch_at code g.control.pc ≡ Fetches i len → in_range i ≡ true in
      plain_keeps e (subst (λ (g : FrameState). g.control.ps.callinc < 4) same calls) (subst P same ok) (subst (λ (g : FrameState). laid_use b fresh code live bytes rec s g ≡ None) same none)
  keeps_full (Some x) e calls ok none =
      let same : with_inputs (inputs_of rec) (current s.frame) ≡ with_inputs (inputs_of rec) (nested_view x s.frame) = ap (λ (o : Option Nested). with_inputs (inputs_of rec) (current_in o s.frame)) e in
      nested_keeps x e (subst (λ (g : FrameState). laid_use b fresh code live bytes rec s g ≡ None) same none)

  -- and past a return that forgets registers
  keeps_left : (i : Option Insn) (u : UseState) → KeepsAll lo hi s.frame u.frame → KeepsAll lo hi s.frame (left_after i s u).frame
  keeps_left i u all =
      let left = left_stack lo hi i s u k.shaped all.0 in
      (left.0, moves_past s.frame s.frame u.frame (left_after i s u).frame refl refl left.1 left.2 all.1)

  pub keeps_all : (o : Option Nested) → s.frame.nested ≡ o → (let g = with_inputs (inputs_of rec) (current s.frame) in g.control.ps.callinc < 4
      → ((i : Insn) (len : ℕ) → ltb 0 (pending_of g.control) ≡ false → g.control.waits ≡ false → fetch_at code g.control.pc ≡ Fetches i len → in_range i ≡ true)
      → laid_use b fresh code live bytes rec s g ≡ None → KeepsAll lo hi s.frame (use_step code nested rec bytes s).after.frame)
  keeps_all o e calls ok none = keeps_left _ (full_step code nested rec bytes s).after (keeps_full o e calls ok none)
