-- A step that shows no breach of uses shows none of the stack discipline either, where each register that it reads has a number, and where
-- live and stale bytes are not looked at.
use Rattle.std.proofs.Common.{◌≡◌, ℕ, zero, suc, ◌+◌, ◌/◌, ◌^◌, Bool, true, false, ◌&&◌, not, eqb, leb, List, [], ◌∷◌, Option, Some, None, sym, ap, ◌∙◌, refl, ⊎_elim}
use Rattle.std.proofs.lemmas.Bool.{and_right, cases_Bool, cond-false, or_from}
use Rattle.xt_isa.specs.declared.Insn.{Insn}
use Rattle.xt_isa.specs.declared.Insn.TheVariants as insn
use Rattle.xt_isa.specs.declared.control.Control.TheVariants as control
use Rattle.xt_map.specs.declared.access.Access.{Access}
use Rattle.xt_special.specs.declared.ps.Ps.{Ps}
use Rattle.xt_special.specs.Numbers as number
use Rattle.xt_special.specs.Control.{special_of}
use Rattle.xt_trace.specs.declared.record.RegWrite.{RegWrite}
use Rattle.xt_trace.specs.declared.record.StepRecord.{StepRecord}
use Rattle.xt_rows.specs.Kinds.{is_movsp, is_return, is_windowing, names_window_register}
use Rattle.xt_rows.specs.Operands.{highest_register}
use Rattle.xt_frames.specs.declared.holes.Nested.{Nested}
use Rattle.xt_frames.specs.Frames.{Frame, FrameState, value_or_zero}
use Rattle.xt_frames.specs.FrameStep.{FrameTurn}
use Rattle.xt_frames.specs.SaveAreas.{Range, before}
use Rattle.xt_frames.specs.Breaches.{Bounds, Test, breaks_nested, first_shown, has_no_caller, insn_tests, is_empty, leaves_range, loads_stale, loses_epc1, mismatches, misaligns_sp, moves_vectors, names_high, opens_nothing, other_frame_size, reads_none, returns_elsewhere, some_byte, touches_save_area, vector_test, writes_sp}
use Rattle.xt_frames.proofs.Shown.{NoneShown, none_shown}
use Rattle.xt_uses.specs.UseBreaches.{breaks_stack, nowhere, swaps_unknown, use_tests, uses_unknown}
use Rattle.xt_uses.specs.UseState.{UseState}
use Rattle.xt_simulation.specs.Knowing.{FramesFit}

pub shown_none : (ts : List Test) → NoneShown ts → first_shown ts ≡ None
shown_none [] h = refl
shown_none (t ∷ ts) h = cond-false t.shown (Some t.kind) (first_shown ts) h.0 ∙ shown_none ts h.1

pub nowhere_byte : (addr size : ℕ) → some_byte nowhere addr size ≡ false
nowhere_byte addr zero = refl
nowhere_byte addr (suc n) = nowhere_byte (addr + 1) n

pub nowhere_saves : (o : Option Access) → touches_save_area nowhere o ≡ false
nowhere_saves None = refl
nowhere_saves (Some a) = and_right _ _ (nowhere_byte a.addr a.size)

pub nowhere_loads : (o : Option Access) → loads_stale nowhere nowhere o ≡ false
nowhere_loads None = refl
nowhere_loads (Some a) = and_right _ _ (or_from _ _ (nowhere_byte a.addr a.size) (and_right _ _ (nowhere_byte a.addr a.size)))

-- ---- what a step of the machine of uses denies
pub record Denied (b : Bounds) (fresh : Bool) (live : ℕ → Bool) (bytes : ℕ → ℕ) (i : Insn) (rec : StepRecord) (s : UseState) (h : FrameState) (v : FrameTurn) : Type 0 where
  pub unset : uses_unknown i s h ≡ false
  pub written : writes_sp i rec.write v.write ≡ false
  pub size : other_frame_size b.range i h ≡ false
  pub low : leaves_range b.range i h ≡ false
  pub align : misaligns_sp i h ≡ false
  pub opens : opens_nothing i h ≡ false
  pub mismatch : returns_elsewhere i h ≡ false
  pub caller : has_no_caller i h ≡ false
  pub saves : touches_save_area live rec.access ≡ false
  pub loads : swaps_unknown bytes rec.access ≡ false
  pub high : names_high i h ≡ false
  pub windowing : is_windowing i ≡ false
  pub window_register : names_window_register i ≡ false
  pub woe : not v.after.control.ps.woe ≡ false
  pub vectors : moves_vectors b v ≡ false
  pub lost : loses_epc1 h.nested fresh i ≡ false
  pub stack : breaks_stack b.range i rec.kind h ≡ false
  pub vector : (vector_test b h).shown ≡ false
  pub nested : breaks_nested h.nested i v ≡ false

pub denied : (b : Bounds) (fresh : Bool) (live : ℕ → Bool) (bytes : ℕ → ℕ) (i : Insn) (rec : StepRecord) (s : UseState) (h : FrameState) (v : FrameTurn)
    → first_shown (use_tests (uses_unknown i s h) (swaps_unknown bytes rec.access) (breaks_stack b.range i rec.kind h) (insn_tests b fresh live nowhere i rec h v)) ≡ None
    → Denied b fresh live bytes i rec s h v
denied b fresh live bytes i rec s h v none = by_tests (none_shown (use_tests (uses_unknown i s h) (swaps_unknown bytes rec.access) (breaks_stack b.range i rec.kind h) (insn_tests b fresh live nowhere i rec h v)) none)
  where
    by_tests : NoneShown (use_tests (uses_unknown i s h) (swaps_unknown bytes rec.access) (breaks_stack b.range i rec.kind h) (insn_tests b fresh live nowhere i rec h v)) → Denied b fresh live bytes i rec s h v
    by_tests (unset, (written, (size, (low, (align, (opens, (mismatch, (caller, (saves, (loads, (high, (windowing, (window_register, (woe, (vectors, (lost, (movsp, (vector, (nested, more))))))))))))))))))) =
        record { unset = unset; written = written; size = size; low = low; align = align; opens = opens; mismatch = mismatch; caller = caller; saves = saves; loads = loads; high = high; windowing = windowing; window_register = window_register; woe = woe; vectors = vectors; lost = lost; stack = movsp; vector = vector; nested = nested }

-- ---- both states
pub record Tested (i : Insn) (g h : FrameState) (u v : FrameTurn) : Type 0 where
  pub ps : g.control.ps ≡ h.control.ps
  pub pc : g.control.pc ≡ h.control.pc
  pub sp : value_or_zero g.seen 1 ≡ value_or_zero h.seen 1
  pub a0 : is_return i ≡ true → value_or_zero g.seen 0 ≡ value_or_zero h.seen 0
  pub masks : List (List ℕ)
  pub frames : FramesFit masks g.frames h.frames
  pub nested : g.nested ≡ None
  pub nested_too : h.nested ≡ None
  pub write : (o : Option RegWrite) → writes_sp i o v.write ≡ false → writes_sp i o u.write ≡ false
  pub woe : u.after.control.ps.woe ≡ v.after.control.ps.woe
  pub vectors : special_of u.after.control number.vecbase ≡ special_of v.after.control number.vecbase

pub before_same : (hi : ℕ) (ms : List (List ℕ)) (fs gs : List Frame) → FramesFit ms fs gs → before hi fs ≡ before hi gs
before_same hi [] [] [] h = refl
before_same hi (m ∷ ms) (f ∷ fs) (g ∷ gs) h = h.1.0
before_same hi [] [] (g ∷ gs) h = absurd h
before_same hi [] (f ∷ fs) gs h = absurd h
before_same hi (m ∷ ms) [] gs h = absurd h
before_same hi (m ∷ ms) (f ∷ fs) [] h = absurd h

mismatch_same : (a0 : ℕ) (ms : List (List ℕ)) (fs gs : List Frame) → FramesFit ms fs gs → mismatches fs a0 ≡ mismatches gs a0
mismatch_same a0 [] [] [] h = refl
mismatch_same a0 (m ∷ ms) (f ∷ fs) (g ∷ gs) h = ap (λ n. not (eqb (a0 / 2 ^ 30) n)) h.0
mismatch_same a0 [] [] (g ∷ gs) h = absurd h
mismatch_same a0 [] (f ∷ fs) gs h = absurd h
mismatch_same a0 (m ∷ ms) [] gs h = absurd h
mismatch_same a0 (m ∷ ms) (f ∷ fs) [] h = absurd h

empty_same : (ms : List (List ℕ)) (fs gs : List Frame) → FramesFit ms fs gs → is_empty fs ≡ is_empty gs
empty_same [] [] [] h = refl
empty_same (m ∷ ms) (f ∷ fs) (g ∷ gs) h = refl
empty_same [] [] (g ∷ gs) h = absurd h
empty_same [] (f ∷ fs) gs h = absurd h
empty_same (m ∷ ms) [] gs h = absurd h
empty_same (m ∷ ms) (f ∷ fs) [] h = absurd h

pub size_row : (r : Range) (j : Insn) (g h : FrameState) → g.control.ps.callinc ≡ h.control.ps.callinc → value_or_zero g.seen 1 ≡ value_or_zero h.seen 1 → before r.hi g.frames ≡ before r.hi h.frames → other_frame_size r j h ≡ false → other_frame_size r j g ≡ false
unfolding other_frame_size
size_row r (insn.Control (control.Entry number size)) g h n sp q e = rw (sp, n, q) e
size_row r _ g h n sp q e = refl

low_row : (r : Range) (j : Insn) (g h : FrameState) → value_or_zero g.seen 1 ≡ value_or_zero h.seen 1 → leaves_range r j h ≡ false → leaves_range r j g ≡ false
unfolding leaves_range
low_row r (insn.Control (control.Entry number size)) g h sp e = rw sp e
low_row r _ g h sp e = refl

align_row : (j : Insn) (g h : FrameState) → value_or_zero g.seen 1 ≡ value_or_zero h.seen 1 → misaligns_sp j h ≡ false → misaligns_sp j g ≡ false
unfolding misaligns_sp
align_row (insn.Control (control.Entry number size)) g h sp e = rw sp e
align_row _ g h sp e = refl

opens_row : (j : Insn) (g h : FrameState) → g.control.ps ≡ h.control.ps → opens_nothing j h ≡ false → opens_nothing j g ≡ false
unfolding opens_nothing
opens_row (insn.Control (control.Entry number size)) g h p e = rw p e
opens_row _ g h p e = refl

pub mismatch_row : (i : Insn) (ms : List (List ℕ)) (g h : FrameState) → FramesFit ms g.frames h.frames → (is_return i ≡ true → value_or_zero g.seen 0 ≡ value_or_zero h.seen 0) → returns_elsewhere i h ≡ false → returns_elsewhere i g ≡ false
mismatch_row i ms g h frames a0 e = ⊎_elim
    (λ is.
    let a : mismatches g.frames (value_or_zero g.seen 0) ≡ mismatches h.frames (value_or_zero h.seen 0) = ap (mismatches g.frames) (a0 is) ∙ mismatch_same (value_or_zero h.seen 0) ms g.frames h.frames frames in
    ap (λ z. is_return i && z) a ∙ e)
    (λ isnt. ap (λ z. z && mismatches g.frames (value_or_zero g.seen 0)) isnt)
    (cases_Bool (is_return i))

pub caller_row : (i : Insn) (ms : List (List ℕ)) (g h : FrameState) → FramesFit ms g.frames h.frames → has_no_caller i h ≡ false → has_no_caller i g ≡ false
caller_row i ms g h frames e = ap (λ z. is_return i && z) (empty_same ms g.frames h.frames frames) ∙ e

module _ {i : Insn} {g h : FrameState} {u v : FrameTurn} (t : Tested i g h u v) (r : Range) where
  size_same : other_frame_size r i h ≡ false → other_frame_size r i g ≡ false
  size_same e = size_row r i g h (ap (λ (p : Ps). p.callinc) t.ps) t.sp (before_same r.hi t.masks g.frames h.frames t.frames) e

  low_same : leaves_range r i h ≡ false → leaves_range r i g ≡ false
  low_same e = low_row r i g h t.sp e

  align_same : misaligns_sp i h ≡ false → misaligns_sp i g ≡ false
  align_same e = align_row i g h t.sp e

  opens_same : opens_nothing i h ≡ false → opens_nothing i g ≡ false
  opens_same e = opens_row i g h t.ps e

  mismatch_too : returns_elsewhere i h ≡ false → returns_elsewhere i g ≡ false
  mismatch_too e = mismatch_row i t.masks g h t.frames t.a0 e

  pub caller_too : has_no_caller i h ≡ false → has_no_caller i g ≡ false
  caller_too e = caller_row i t.masks g h t.frames e

  high_too : names_high i h ≡ false → names_high i g ≡ false
  high_too e = ap (λ (p : Ps). p.excm && leb 4 (highest_register i)) t.ps ∙ e

-- so the tests of the stack discipline show nothing
pub tests_too : {b : Bounds} {fresh : Bool} {live : ℕ → Bool} {bytes : ℕ → ℕ} {i : Insn} {rec : StepRecord} {s : UseState} {g h : FrameState} {u v : FrameTurn}
    → Denied b fresh live bytes i rec s h v → Tested i g h u v → reads_none i g ≡ false → is_movsp i ≡ false → NoneShown (insn_tests b fresh nowhere nowhere i rec g u)
tests_too {b = b} {fresh = fresh} {i = i} {rec = rec} {g = g} {h = h} {u = u} d t read movsp = (
  read,
  (
    t.write rec.write d.written,
    (
      size_same t b.range d.size,
      (
        low_same t b.range d.low,
        (
          align_same t b.range d.align,
          (
            opens_same t b.range d.opens,
            (
              mismatch_too t b.range d.mismatch,
              (
                caller_too t b.range d.caller,
                (
                  nowhere_saves rec.access,
                  (
                    nowhere_loads rec.access,
                    (
                      high_too t b.range d.high,
                      (
                        d.windowing,
                        (
                          d.window_register,
                          (
                            ap not t.woe ∙ d.woe,
                            (
                              ap (λ n. not (eqb n b.vecbase)) t.vectors ∙ d.vectors,
                              (
                                ap (λ (o : Option Nested). loses_epc1 o fresh i) t.nested ∙ (ap (λ (o : Option Nested). loses_epc1 o fresh i) (sym t.nested_too) ∙ d.lost),
                                (
                                  movsp,
                                  (
                                    ap (λ pc. (vector_test b (record g { control = record g.control { pc = pc } })).shown) t.pc ∙ d.vector,
                                    (ap (λ (o : Option Nested). breaks_nested o i u) t.nested, tt),
                                  ),
                                ),
                              ),
                            ),
                          ),
                        ),
                      ),
                    ),
                  ),
                ),
              ),
            ),
          ),
        ),
      ),
    ),
  ),
)
