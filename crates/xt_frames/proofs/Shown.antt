-- A step that shows no breach: none of its tests is shown, and what follows of a1.
use Rattle.std.specs.Prelude.{unwrap_or}
use Rattle.std.proofs.Common.{◌||◌, ◌&&◌, ◌≡◌, ℕ, ◌≢◌, ℤ, Bool, true, false, not, eqb, List, [], ◌∷◌, Option, Some, None, sym, refl, ap, cond}
use Rattle.std.proofs.lemmas.Bool.{eqb-false, eqb-true, not-false, or_parts}
use Rattle.std.proofs.lemmas.List.{get_or-set_other}
use Rattle.xt_isa.specs.declared.Insn.{Insn}
use Rattle.xt_isa.specs.declared.Insn.TheVariants as insn
use Rattle.xt_isa.specs.declared.control.Control.TheVariants as control
use Rattle.xt_isa.specs.declared.shift.Shift.TheVariants as shift
use Rattle.xt_special.specs.Numbers as number
use Rattle.xt_special.specs.Control.{special_of}
use Rattle.xt_trace.specs.declared.record.RegWrite.{RegWrite}
use Rattle.xt_trace.specs.declared.record.StepRecord.{StepRecord}
use Rattle.xt_rows.specs.Kinds.{is_entry}
use Rattle.xt_frames.specs.Frames.{FrameState, value_or_zero, seen_after_write}
use Rattle.xt_frames.specs.FrameStep.{FrameTurn}
use Rattle.xt_frames.specs.SaveAreas.{Range}
use Rattle.xt_frames.specs.Breaches.{Bounds, Test, first_shown, insn_tests, reads_none, is_sp, writes_sp, may_write_sp, other_frame_size, leaves_range, misaligns_sp, opens_nothing, returns_elsewhere, has_no_caller, touches_save_area, loads_stale, names_high, is_windowing, names_window_register, loses_epc1, is_movsp, breaks_nested}

-- ---- no test is shown
if_none : {X : Type 0} (b : Bool) (x : X) (o : Option X) → cond b (Some x) o ≡ None → (b ≡ false) × (o ≡ None)
if_none true x o e = absurd (cc)
if_none false x o e = (refl, e)

abbrev pub NoneShown : List Test → Type 0
NoneShown [] = Unit {0}
NoneShown (t ∷ ts) = (t.shown ≡ false) × NoneShown ts

pub none_shown : (ts : List Test) → first_shown ts ≡ None → NoneShown ts
none_shown [] e = tt
none_shown (t ∷ ts) e = let p = if_none t.shown t.kind (first_shown ts) e in (p.0, none_shown ts p.1)

-- what each test denies
pub record Sound (b : Bounds) (fresh : Bool) (live stale : ℕ → Bool) (i : Insn) (rec : StepRecord) (g : FrameState) (u : FrameTurn) : Type 0 where
  pub unset : reads_none i g ≡ false
  pub written : writes_sp i rec.write u.write ≡ false
  pub size : other_frame_size b.range i g ≡ false
  pub low : leaves_range b.range i g ≡ false
  pub align : misaligns_sp i g ≡ false
  pub opens : opens_nothing i g ≡ false
  pub mismatch : returns_elsewhere i g ≡ false
  pub caller : has_no_caller i g ≡ false
  pub saves : touches_save_area live rec.access ≡ false
  pub loads : loads_stale live stale rec.access ≡ false
  pub high : names_high i g ≡ false
  pub windowing : is_windowing i ≡ false
  pub window_register : names_window_register i ≡ false
  pub woe : u.after.control.ps.woe ≡ true
  pub vectors : special_of u.after.control number.vecbase ≡ b.vecbase
  pub lost : loses_epc1 g.nested fresh i ≡ false
  pub movsp : is_movsp i ≡ false
  pub nested : breaks_nested g.nested i u ≡ false

pub sound : (b : Bounds) (fresh : Bool) (live stale : ℕ → Bool) (i : Insn) (rec : StepRecord) (g : FrameState) (u : FrameTurn) → NoneShown (insn_tests b fresh live stale i rec g u) → Sound b fresh live stale i rec g u
sound b fresh live stale i rec g u (unset, (written, (size, (low, (align, (opens, (mismatch, (caller, (saves, (loads, (high, (windowing, (window_register, (woe, (vectors, (lost, (movsp, (vector, (nested, more))))))))))))))))))) =
    record { unset = unset; written = written; size = size; low = low; align = align; opens = opens; mismatch = mismatch; caller = caller; saves = saves; loads = loads; high = high; windowing = windowing; window_register = window_register; woe = not-false _ woe; vectors = eqb-true _ _ (not-false _ vectors); lost = lost; movsp = movsp; nested = nested }

-- those of them that keep the chain of stack pointers
pub record Keeping (b : Bounds) (i : Insn) (rec : StepRecord) (g : FrameState) (u : FrameTurn) : Type 0 where
  pub written : writes_sp i rec.write u.write ≡ false
  pub size : other_frame_size b.range i g ≡ false
  pub low : leaves_range b.range i g ≡ false
  pub align : misaligns_sp i g ≡ false
  pub opens : opens_nothing i g ≡ false
  pub movsp : is_movsp i ≡ false

pub keeping_of : (b : Bounds) (fresh : Bool) (live stale : ℕ → Bool) (i : Insn) (rec : StepRecord) (g : FrameState) (u : FrameTurn) → Sound b fresh live stale i rec g u → Keeping b i rec g u
keeping_of b fresh live stale i rec g u s = record { written = s.written; size = s.size; low = s.low; align = s.align; opens = s.opens; movsp = s.movsp }

-- ---- a1 is as it was
abbrev pub KeepsSp : Option RegWrite → Type 0
KeepsSp None = Unit {0}
KeepsSp (Some w) = w.reg ≡ 1 → ⊥

may_write_is : (i : Insn) → is_entry i ≡ false → is_movsp i ≡ false → may_write_sp i ≡ false
unfolding may_write_sp is_entry is_movsp
may_write_is (insn.Control (control.Entry number size)) e m = e
may_write_is (insn.Shift (shift.Movsp t s)) e m = m
may_write_is _ e m = refl

pub sp_kept : (o : Option RegWrite) → is_sp o ≡ false → KeepsSp o
sp_kept None h = tt
sp_kept (Some w) h = eqb-false _ _ h

pub keeps_sp : (i : Insn) (shown : Option RegWrite) (o : Option RegWrite) → is_entry i ≡ false → is_movsp i ≡ false → writes_sp i shown o ≡ false → KeepsSp o
keeps_sp i shown o e m h =
    let z : (true && (is_sp shown || is_sp o)) ≡ false = (let x = may_write_is i e m in rw x at h) in
    sp_kept o (or_parts (is_sp shown) (is_sp o) z).1

pub entry_number : (number : ℕ) (size : ℤ) → (range : Range) (g : FrameState) → other_frame_size range (insn.Control (control.Entry number size)) g ≡ false → number ≡ 1
unfolding other_frame_size
entry_number number size range g h = eqb-true _ _ (not-false _ (or_parts (not (eqb number 1)) _ h).0)

pub sp_written : (seen : List (Option ℕ)) (o : Option RegWrite) → KeepsSp o → value_or_zero (seen_after_write o seen) 1 ≡ value_or_zero seen 1
sp_written seen None h = refl
sp_written seen (Some w) h =
    let apart : 1 ≢ w.reg = λ e. h (sym e) in
    ap (λ o. unwrap_or o 0) (get_or-set_other seen w.reg 1 (Some w.value) None apart)
