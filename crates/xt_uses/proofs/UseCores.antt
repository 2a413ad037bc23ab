-- A core of the machine of uses, beside what its functions find of it.
use Rattle.std.proofs.Common.{◌≡◌, ℕ, ◌+◌, Bool, true, false, eqb, List, Option, Some, None, sym, ◌∙◌, ap, get_or, subst}
use Rattle.std.proofs.lemmas.Bool.{cond-true, cond-false}
use Rattle.xt_trace.specs.declared.record.StepRecord.{StepRecord}
use Rattle.xt_map.specs.Fetching.{fetch_at}
use Rattle.xt_frames.specs.declared.breach.Case.{Case}
use Rattle.xt_frames.specs.declared.kinds.BreachKind.{BreachKind}
use Rattle.xt_frames.specs.Frames.{Frame, FrameState, value_or_zero}
use Rattle.xt_frames.specs.FrameStep.{with_inputs}
use Rattle.xt_frames.specs.Nesting.{current}
use Rattle.xt_frames.specs.SaveAreas.{before}
use Rattle.xt_frames.specs.Breaches.{Bounds, inputs_of}
use Rattle.xt_frames.specs.KeptFrameState.{IsNewest, frames_after}
use Rattle.xt_frames.specs.Walked.{bounds_of}
use Rattle.xt_uses.specs.declared.lacking.Lack.{Lack}
use Rattle.xt_uses.specs.declared.stepping.Done.{Done}
use Rattle.xt_uses.specs.declared.testing.Touched.{Touched}
use Rattle.xt_uses.specs.Words.{all_bits}
use Rattle.xt_uses.specs.UseState.{UseState, current_masks}
use Rattle.xt_uses.specs.UseStep.{carries, use_step}
use Rattle.xt_uses.specs.UseBreaches.{fetched_return_use, underflows, use_breach, window_use}
use Rattle.xt_uses.specs.Lacks.{lack_of, mark_in}
use Rattle.xt_uses.specs.UseParts.{IsTaken, IsUseCase, IsUsed, UseWalked, fresh_at, fresh_use, kept_after, use_found_by, use_past}

-- ---- what a record is tested by
pub use_case : (case : Case) (touched : Touched) (v w : UseWalked) → v ≡ w → case.saves ≡ touched.saves → IsNewest case.newest w.state.frame.frames → case.under ≡ before case.limits.hi w.state.frame.frames
    → IsUseCase case touched v.state.frame.frames
use_case case touched v w e saves newest under = record {
  saves = saves;
  newest = subst (λ (x : UseWalked). IsNewest case.newest x.state.frame.frames) (sym e) newest;
  under = subst (λ (x : UseWalked). case.under ≡ before case.limits.hi x.state.frame.frames) (sym e) under;
}

-- ---- what the record shows, and what it leaves
module _ (code : ℕ → ℕ) (nested : Bool) (rec : StepRecord) (bytes : ℕ → ℕ) (index : ℕ) (v w : UseWalked) (e : v ≡ w) where
  pub use_found : (case : Case) (live : ℕ → Bool) (found : Option BreachKind) → bounds_of case.limits ≡ w.bounds → case.fresh ≡ fresh_at w index → use_found_by case code live bytes nested rec v.state ≡ found
      → use_breach w.bounds (fresh_at w index) code live bytes nested rec w.state ≡ found
  use_found case live found bounds fresh by =
      let B : Bounds → Bool → UseState → Option BreachKind = λ b x s. use_breach b x code live bytes nested rec s in
      ap (λ (b : Bounds). B b (fresh_at w index) w.state) (sym bounds)
      ∙ (ap (λ (x : Bool). B (bounds_of case.limits) x w.state) (sym fresh)
      ∙ (ap (λ (x : UseWalked). B (bounds_of case.limits) case.fresh x.state) (sym e) ∙ by))

  pub use_left : (fresh : Bool) (done : Done) (new : List Frame → List (List ℕ) → UseState) (frames : List Frame) (kept : List (List ℕ)) (n : ℕ) → fresh ≡ fresh_at w index
      → frames ≡ frames_after done.call v.state.frame.frames → kept ≡ kept_after done.keep v.state.masks.kept → n ≡ index → IsTaken fresh code nested rec bytes v.state done new
      → record { core = v.core; bounds = v.bounds; state = new frames kept; fresh = done.fresh; next = n + 1 } ≡ use_past w code index nested rec bytes
  use_left fresh done new frames kept n here on at is taken =
      let R : UseState → Bool → ℕ → UseWalked = λ s x m. record { core = v.core; bounds = v.bounds; state = s; fresh = x; next = m + 1 } in
      let after = (use_step code nested rec bytes v.state).after in
      ap (λ (fs : List Frame). R (new fs kept) done.fresh n) on
      ∙ (ap (λ (ks : List (List ℕ)). R (new (frames_after done.call v.state.frame.frames) ks) done.fresh n) at
      ∙ (ap (λ (s : UseState). R s done.fresh n) taken.state
      ∙ (ap (λ (x : Bool). R after x n) (taken.epc1 ∙ ap (λ (x : Bool). fresh_use x code nested rec bytes v.state) here)
      ∙ (ap (λ (m : ℕ). R after (fresh_use (fresh_at w index) code nested rec bytes v.state) m) is
      ∙ ap (λ (x : UseWalked). record x { state = (use_step code nested rec bytes x.state).after; fresh = fresh_use (fresh_at w index) code nested rec bytes x.state; next = index + 1 }) e))))

  pub use_told : (fresh : Bool) (done : Done) (new : List Frame → List (List ℕ) → UseState) → IsTaken fresh code nested rec bytes v.state done new → IsUsed code nested rec bytes w.state (record { stored = done.stored; carries = done.carries })
  use_told fresh done new taken = record {
    stores = taken.stores ∙ ap (λ (x : UseWalked). (use_step code nested rec bytes x.state).stored) e;
    unknown = taken.unknown ∙ ap (λ (x : UseWalked). carries code rec x.state (use_step code nested rec bytes x.state)) e;
  }

-- ---- the record of an underflow
pub other_window : (code : ℕ → ℕ) (rec : StepRecord) (s : UseState) → underflows rec.kind ≡ false → window_use code rec s ≡ None
unfolding window_use
other_window code rec s off =
    let f = with_inputs (inputs_of rec) (current s.frame) in
    cond-false (underflows rec.kind) (fetched_return_use (fetch_at code f.control.pc) s f) None off

pub tested_window : (code : ℕ → ℕ) (rec : StepRecord) (v w : UseWalked) (f : FrameState) (found : Option BreachKind) → v ≡ w → f ≡ with_inputs (inputs_of rec) (current w.state.frame) → underflows rec.kind ≡ true
    → found ≡ fetched_return_use (fetch_at code f.control.pc) v.state f → window_use code rec w.state ≡ found
unfolding window_use
tested_window code rec v w f found e is on by =
    let g = with_inputs (inputs_of rec) (current w.state.frame) in
    cond-true (underflows rec.kind) (fetched_return_use (fetch_at code g.control.pc) w.state g) None on
    ∙ (ap (λ (x : FrameState). fetched_return_use (fetch_at code x.control.pc) w.state x) (sym is)
    ∙ (ap (λ (x : UseWalked). fetched_return_use (fetch_at code f.control.pc) x.state f) (sym e) ∙ sym by))

-- ---- a register of which not every bit is known
pub no_lack : (v w : UseWalked) (f : FrameState) (n mask : ℕ) → v ≡ w → mask ≡ get_or (current_masks v.state) n 0 → mask ≡ all_bits → None ≡ lack_of w.state f n
no_lack v w f n mask e is all =
    let here : get_or (current_masks w.state) n 0 ≡ all_bits = ap (λ (x : UseWalked). get_or (current_masks x.state) n 0) (sym e) ∙ (sym is ∙ all) in
    sym (cond-true (eqb (get_or (current_masks w.state) n 0) all_bits) _ _ (ap (λ (m : ℕ). eqb m all_bits) here))

pub one_lack : (v w : UseWalked) (f : FrameState) (seen : List (Option ℕ)) (n mask value : ℕ) (mark : Option ℕ) → v ≡ w → mask ≡ get_or (current_masks v.state) n 0 → eqb mask all_bits ≡ false
    → f.seen ≡ seen → value ≡ value_or_zero seen n → mark ≡ mark_in v.state.frame.nested n → Some (record { number = n; value = value; mask = mask; mark = mark }) ≡ lack_of w.state f n
one_lack v w f seen n mask value mark e is off same at marked =
    let here : mask ≡ get_or (current_masks w.state) n 0 = is ∙ ap (λ (x : UseWalked). get_or (current_masks x.state) n 0) e in
    let L : ℕ → ℕ → Option ℕ → Option Lack = λ x m k. Some (record { number = n; value = x; mask = m; mark = k }) in
    ap (λ (x : ℕ). L x mask mark) (at ∙ ap (λ (xs : List (Option ℕ)). value_or_zero xs n) (sym same))
    ∙ (ap (λ (m : ℕ). L (value_or_zero f.seen n) m mark) here
    ∙ (ap (L (value_or_zero f.seen n) (get_or (current_masks w.state) n 0)) (marked ∙ ap (λ (x : UseWalked). mark_in x.state.frame.nested n) e)
    ∙ sym (cond-false (eqb (get_or (current_masks w.state) n 0) all_bits) _ _ (ap (λ (m : ℕ). eqb m all_bits) (sym here) ∙ off))))
