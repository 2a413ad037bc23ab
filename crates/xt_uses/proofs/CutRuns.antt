-- Before each turn of a run up to the first use of what is not known, the values of both cores are cut to their known bits.
use Rattle.std.proofs.Common.{◌≡◌, ℕ, zero, suc, ◌-◌, ◌^◌, ◌<◌, ◌≤◌, Bool, false, not, Option, Some, None, length, get_or, replicate, refl, sym, ◌∙◌, ⊎_elim, subst, arith}
use Rattle.std.proofs.Math.ListN.{set}
use Rattle.std.proofs.lemmas.Bool.{cond-true, true≢false}
use Rattle.std.proofs.lemmas.List.{length-replicate}
use Rattle.xt_special.specs.Opening.{no_special, opening_special, prid_of}
use Rattle.xt_trace.specs.declared.record.StepRecord.{StepRecord}
use Rattle.xt_frames.specs.declared.kinds.BreachKind.{BreachKind}
use Rattle.xt_frames.specs.Frames.{all_set, opening_frame, opening_seen}
use Rattle.xt_frames.specs.Verdict.{is_nested}
use Rattle.xt_frames.specs.FirstBreach.{Course, IsJudgedTurn, is_judged, phase_before}
use Rattle.xt_uses.specs.Words.{all_bits, masked}
use Rattle.xt_uses.specs.Disciplines.{Discipline}
use Rattle.xt_uses.specs.UseState.{UseState, whole_masks}
use Rattle.xt_uses.specs.UseBreaches.{use_breach}
use Rattle.xt_uses.specs.FirstUse.{History, IsHistory, Shows, handler_use, live_at}
use Rattle.xt_uses.specs.UseLaws.{AreCut, IsOpening, IsUnused, ValuesAreCut}
use Rattle.xt_uses.proofs.CutControl.{Spared, spared_same, spared_set}
use Rattle.xt_uses.proofs.CutLists.{cut_set}
use Rattle.xt_uses.proofs.CutStates.{IsCut, state_cut}
use Rattle.xt_uses.proofs.CutTurns.{cut_kept}
use Rattle.xt_uses.proofs.LaterHistories.{judged_or_idle}
use Rattle.xt_uses.proofs.WholeLists.{replicated}
use Rattle.xt_uses.proofs.WholeRows.{and_all}

-- ---- the opening
zeros_cut : (n : ℕ) → AreCut (replicate n (Some 0)) (replicate n all_bits)
zeros_cut zero = tt
zeros_cut (suc n) = (refl, zeros_cut n)

opening_cut : (stack_end : ℕ) → stack_end < 2 ^ 32 → AreCut (opening_seen stack_end) (replicate 16 all_bits)
unfolding opening_seen
opening_cut stack_end small =
    cut_set (set (replicate 16 (Some 0)) 1 (Some (stack_end - 64))) (replicate 16 all_bits)
    (cut_set (replicate 16 (Some 0)) (replicate 16 all_bits) (zeros_cut 16) 1 (Some (stack_end - 64)) all_bits (and_all (stack_end - 64) (omega arith)))
    8 (Some (2 ^ 31)) all_bits refl

special_spared : (prid vecbase : ℕ) → Spared (replicate 256 0) (opening_special prid vecbase)
unfolding opening_special no_special
special_spared prid vecbase = spared_set (replicate 256 0) (set (replicate 256 0) 235 prid) 231 vecbase refl (spared_set (replicate 256 0) (replicate 256 0) 235 prid refl (spared_same (replicate 256 0)))

wide_opening : (stack_end : ℕ) → 16 ≤ length (opening_seen stack_end)
unfolding opening_seen
wide_opening stack_end = omega arith

pub cut_opens : (core pc vecbase stack_end : ℕ) → stack_end < 2 ^ 32 → (d : Discipline) → IsCut (opening_frame core pc vecbase stack_end) (whole_masks d)
unfolding all_set
cut_opens core pc vecbase stack_end small d =
    let s = special_spared (prid_of core) vecbase in
    record {
      seen_cut = opening_cut stack_end small;
      kept = tt;
      special_cut = λ n h. subst (λ v. masked (get_or (replicate 256 all_bits) n 0) v ≡ v) (sym (s.at n h ∙ replicated 256 n 0)) refl;
      lost = λ n h e. absurd (true≢false (sym e ∙ replicated 256 n false));
      pointer = refl;
      inner = tt;
      count = length-replicate {A = ℕ} 256 all_bits;
      values = s.size ∙ length-replicate {A = ℕ} 256 0;
      holes = length-replicate {A = Bool} 256 false;
      wide = wide_opening stack_end;
      full = tt;
      inside = tt;
    }

-- ---- before each turn
module _ (r : Course) (h : History) (opens : (core : ℕ) → IsOpening (r.opening core)) (d : Discipline) (is : IsHistory d r h) where
  step_cut : (p core : ℕ) (rec : StepRecord) → IsJudgedTurn r p core rec → Shows r h p core rec None → IsCut (h.state core p).frame (h.state core p).masks → IsCut (h.state core (suc p)).frame (h.state core (suc p)).masks
  step_cut p core rec j shows w =
      let found : Option BreachKind = use_breach (r.bounds core) (not shows.lost) r.code (live_at r h p) (h.mask p) (is_nested (phase_before r core p)) rec (h.state core p) in
      let none : found ≡ None = sym (cond-true (is_judged (phase_before r core p) rec.kind) found (handler_use r.code (phase_before r core p) rec (h.state core p)) j.judged) ∙ shows.shown in
      subst (λ (s : UseState). IsCut s.frame s.masks) (sym (is.steps p core rec j))
      (cut_kept r.code (r.bounds core) (not shows.lost) (live_at r h p) (is_nested (phase_before r core p)) rec (h.mask p) (h.state core p).masks (h.state core p).frame w none)

  pub cut_before : (p : ℕ) → IsUnused r h p → (core : ℕ) → IsCut (h.state core p).frame (h.state core p).masks
  cut_before zero none core =
      let o = opens core in
      subst (λ (s : UseState). IsCut s.frame s.masks) (sym (is.opens core)) (subst (λ f. IsCut f (whole_masks d)) (sym o.opens) (cut_opens o.core o.pc o.vecbase o.stack_end o.stack_word d))
  cut_before (suc p) none core = ⊎_elim
      (λ j. step_cut p core j.0 j.1 (none p core j.0 (omega arith) j.1.turn) (cut_before p (λ i c q l t. none i c q (omega (arith, l)) t) core))
      (λ idle. subst (λ (s : UseState). IsCut s.frame s.masks) (sym (is.stays p core idle)) (cut_before p (λ i c q l t. none i c q (omega (arith, l)) t) core))
      (judged_or_idle r p core)

pub values_cut : ValuesAreCut
values_cut d r h p core ordinary is none = state_cut (h.state core p).frame (h.state core p).masks (cut_before r h ordinary.opens d is p none core)
