-- A step of the machine of uses that shows no breach keeps the chain of stack pointers.
use Rattle.std.proofs.Common.{◌≡◌, ◌≢◌, ◌&&◌, ℕ, ◌+◌, ◌%◌, ◌^◌, ◌≤◌, ◌<◌, Bool, true, false, not, eqb, leb, List, [], ◌∷◌, Option, Some, None, refl, sym, ◌∙◌, ap, arith, get_or, subst}
use Rattle.std.proofs.Math.ListN.{set}
use Rattle.std.proofs.lemmas.Bool.{and_parts, eqb-true, eqb-false, leb-true, not-false}
use Rattle.std.proofs.lemmas.List.{get_or-set_same, get_or-set_other, length-set, set-get_or}
use Rattle.xt_isa.specs.declared.Insn.{Insn}
use Rattle.xt_isa.specs.declared.Insn.TheVariants as insn
use Rattle.xt_isa.specs.declared.shift.Shift.TheVariants as shift
use Rattle.xt_trace.specs.declared.record.RegWrite.{RegWrite}
use Rattle.xt_trace.specs.declared.record.StepKind.{StepKind}
use Rattle.xt_trace.specs.declared.record.StepRecord.{StepRecord}
use Rattle.xt_frames.specs.Frames.{Frame, FrameState, value_or_zero}
use Rattle.xt_frames.specs.FrameStep.{FrameTurn}
use Rattle.xt_frames.specs.SaveAreas.{Range, sp_of}
use Rattle.xt_frames.specs.Breaches.{Bounds, insn_tests, is_movsp, is_sp}
use Rattle.xt_frames.specs.Stacks.{Chain, Stack}
use Rattle.xt_frames.proofs.Shown.{Keeping, NoneShown}
use Rattle.xt_frames.proofs.Stacked.{known_is}
use Rattle.xt_uses.specs.Words.{all_bits, masked}
use Rattle.xt_uses.specs.UseStep.{cut_number, cut_seen}
use Rattle.xt_uses.proofs.Wholes.{whole_value}
use Rattle.xt_uses.specs.UseBreaches.{breaks_stack, is_insn, keeps_stack, nowhere, use_tests}

-- a1 of the newest frame is another, as ENTRY may leave it
pub moved_stack : (lo hi : ℕ) (seen : List (Option ℕ)) (f : Frame) (fs : List Frame) (sp : ℕ) → Stack lo hi seen (f ∷ fs)
    → sp % 16 ≡ 0 → lo + 16 ≤ sp → sp + 16 ≤ sp_of f → Stack lo hi (set seen 1 (Some sp)) (f ∷ fs)
moved_stack lo hi seen f fs sp k align low under =
    let wide = k.wide in
    let same = get_or-set_same seen 1 (Some sp) None (omega arith) in
    let at = known_is (set seen 1 (Some sp)) 1 sp same in
    record {
      range = k.range;
      wide = length-set seen 1 (Some sp) ∙ k.wide;
      shaped = k.shaped;
      sp = same ∙ sym (ap Some at);
      chain = rw at (record { aligned = align; low = low; under = under; large = k.chain.0.large; kept = k.chain.0.kept }, k.chain.1);
    }

-- the tests that keep it are those of the stack discipline
pub use_keeping : (unset stale movsp : Bool) (b : Bounds) (fresh : Bool) (live : ℕ → Bool) (i : Insn) (rec : StepRecord) (g : FrameState) (u : FrameTurn)
    → is_movsp i ≡ false → NoneShown (use_tests unset stale movsp (insn_tests b fresh live nowhere i rec g u)) → Keeping b i rec g u
use_keeping unset stale movsp b fresh live i rec g u m (a0, (written, (size, (low, (align, (opens, more)))))) =
    record { written = written; size = size; low = low; align = align; opens = opens; movsp = m }

pub use_movsp : (unset stale movsp : Bool) (b : Bounds) (fresh : Bool) (live : ℕ → Bool) (i : Insn) (rec : StepRecord) (g : FrameState) (u : FrameTurn)
    → NoneShown (use_tests unset stale movsp (insn_tests b fresh live nowhere i rec g u)) → movsp ≡ false
use_movsp unset stale movsp b fresh live i rec g u (a0, (a1, (a2, (a3, (a4, (a5, (a6, (a7, (a8, (a9, (a10, (a11, (a12, (a13, (a14, (a15, (moves, more))))))))))))))))) = moves

-- ---- a MOVSP that keeps the stack
pub record KeepsStack (r : Range) (t s : ℕ) (g : FrameState) : Type 0 where
  pub to_sp : t ≡ 1
  pub frame : Frame
  pub rest : List Frame
  pub frames_are : g.frames ≡ frame ∷ rest
  pub aligned : value_or_zero g.seen s % 16 ≡ 0
  pub low : r.lo + 16 ≤ value_or_zero g.seen s
  pub under : value_or_zero g.seen s + 16 ≤ sp_of frame

kept_by : (r : Range) (t s : ℕ) (g : FrameState) (frames : List Frame) → g.frames ≡ frames → t ≡ 1 → keeps_stack r (value_or_zero g.seen s) frames ≡ true → KeepsStack r t s g
kept_by r t s g [] e one k = absurd cc
kept_by r t s g (f ∷ fs) e one k =
    let p = and_parts (eqb (value_or_zero g.seen s % 16) 0) (leb (r.lo + 16) (value_or_zero g.seen s) && leb (value_or_zero g.seen s + 16) (sp_of f)) k in
    let q = and_parts (leb (r.lo + 16) (value_or_zero g.seen s)) (leb (value_or_zero g.seen s + 16) (sp_of f)) p.1 in
    record { to_sp = one; frame = f; rest = fs; frames_are = e; aligned = eqb-true _ _ p.0; low = leb-true _ _ q.0; under = leb-true _ _ q.1 }

pub keeps_by_movsp : (r : Range) (t s : ℕ) (kind : StepKind) (g : FrameState) → breaks_stack r (insn.Shift (shift.Movsp t s)) kind g ≡ false → KeepsStack r t s g
unfolding breaks_stack
keeps_by_movsp r t s kind g e =
    let a = and_parts (is_insn kind) (eqb t 1 && (not g.control.ps.excm && keeps_stack r (value_or_zero g.seen s) g.frames)) (not-false _ e) in
    let b = and_parts (eqb t 1) (not g.control.ps.excm && keeps_stack r (value_or_zero g.seen s) g.frames) a.1 in
    let c = and_parts (not g.control.ps.excm) (keeps_stack r (value_or_zero g.seen s) g.frames) b.1 in
    kept_by r t s g g.frames refl (eqb-true _ _ b.0) c.1

-- ---- the cut leaves a1 as it is
cut_whole : (n : ℕ) → n < 2 ^ 32 → masked all_bits n ≡ n
cut_whole n low = whole_value n (record { value = masked all_bits n; mask = all_bits }) refl low refl

chain_top : (lo hi sp : ℕ) (frames : List Frame) → Chain lo hi sp frames → sp ≤ hi
chain_top lo hi sp [] k = omega (arith, k)
chain_top lo hi sp (f ∷ fs) (l, k) = let u = l.under in let t = chain_top lo hi (sp_of f) fs k in omega (arith, u, t)

abbrev pub SameStack : ℕ → ℕ → List (Option ℕ) → List (Option ℕ) → List Frame → Type 0
SameStack lo hi old new frames = Stack lo hi new frames × (value_or_zero new 1 ≡ value_or_zero old 1)

pub cut_stack : (lo hi : ℕ) (seen : List (Option ℕ)) (frames : List Frame) (mask : ℕ) (w : Option RegWrite) → Stack lo hi seen frames → (is_sp w ≡ true → mask ≡ all_bits) → SameStack lo hi seen (cut_seen mask w seen) frames
cut_stack lo hi seen frames mask None k whole = (k, refl)
cut_stack lo hi seen frames mask (Some w) k whole = by_register (eqb w.reg 1) refl
  where
    by_register : (b : Bool) → eqb w.reg 1 ≡ b → SameStack lo hi seen (cut_seen mask (Some w) seen) frames
    by_register true e =
        let one : w.reg ≡ 1 = eqb-true w.reg 1 e in
        let top = chain_top lo hi (value_or_zero seen 1) frames k.chain in
        let end = k.range.top in
        let low : value_or_zero seen 1 < 2 ^ 32 = omega (arith, top, end) in
        let same : cut_number mask (get_or seen w.reg None) ≡ get_or seen w.reg None =
        ap (λ n. cut_number n (get_or seen w.reg None)) (whole e)
        ∙ (ap (λ n. cut_number all_bits (get_or seen n None)) one
        ∙ (ap (cut_number all_bits) k.sp
        ∙ (ap Some (cut_whole (value_or_zero seen 1) low)
        ∙ (sym k.sp ∙ ap (λ n. get_or seen n None) (sym one))))) in
        let kept : cut_seen mask (Some w) seen ≡ seen = ap (set seen w.reg) same ∙ set-get_or seen w.reg None in
        subst (λ (xs : List (Option ℕ)). SameStack lo hi seen xs frames) (sym kept) (k, refl)
    by_register false e =
        let apart : 1 ≢ w.reg = λ p. eqb-false w.reg 1 e (sym p) in
        let same = get_or-set_other seen w.reg 1 (cut_number mask (get_or seen w.reg None)) None apart in
        let at = known_is (cut_seen mask (Some w) seen) 1 (value_or_zero seen 1) (same ∙ k.sp) in (
          record {
            range = k.range;
            wide = length-set seen w.reg (cut_number mask (get_or seen w.reg None)) ∙ k.wide;
            shaped = k.shaped;
            sp = rw at (same ∙ k.sp);
            chain = rw at k.chain;
          },
          at,
        )
