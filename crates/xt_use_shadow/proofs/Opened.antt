-- Both cores as a run of an image opens.
use Rattle.std.proofs.Common.{◌≡◌, ℕ, ◌≤◌, Bool, length, refl, sym, ◌∙◌, ap, subst, arith}
use Rattle.std.proofs.lemmas.Bool.{true≢false}
use Rattle.xt_image.specs.declared.image.Image.{Image}
use Rattle.xt_special.specs.Opening.{prid_of}
use Rattle.xt_trace.specs.declared.run.Run.{Run}
use Rattle.xt_trace.specs.Traces.{trace_over}
use Rattle.xt_exec.specs.Chips.{processor}
use Rattle.xt_core.specs.Runs.{IsRunOf, code_of, entry_of, opening_at, records_of}
use Rattle.xt_core.specs.Runs as runs
use Rattle.xt_frames.specs.Frames.{FrameState, opening_frame}
use Rattle.xt_frames.specs.Walked.{stack_of}
use Rattle.xt_discipline.proofs.Opens.{stack_valid}
use Rattle.xt_shadow.specs.InStep.{IsPlain}
use Rattle.xt_shadow.proofs.Opened.{special_count, state_count}
use Rattle.xt_shadow.proofs.Saw.{is_nested}
use Rattle.xt_uses.specs.declared.discipline.Discipline.{Discipline}
use Rattle.xt_uses.specs.UseParts.{opened_use}
use Rattle.xt_use_walk.specs.declared.side.Side.{Side}
use Rattle.xt_use_walk.specs.Sides.{IsUseSide}
use Rattle.xt_use_walk.specs.Walks.{AreOpened}
use Rattle.xt_use_walk.proofs.Openings.{opens, side_at}
use Rattle.xt_use_shadow.specs.declared.cores.UseShadow.{UseShadow}
use Rattle.xt_use_shadow.specs.declared.walk.UseShadowWalk.{UseShadowWalk}
use Rattle.xt_use_shadow.specs.Shadows.{IsCore, IsOpenedCore, IsOpenedWalk, records_left, shown_walk}
use Rattle.xt_use_shadow.proofs.Turning.{shown_whole}

nothing_less : (n : ℕ) → 0 ≤ n
nothing_less n = omega arith

module _ (d : Discipline) (image : Image) (r : Run) (is : IsRunOf image r) (core : ℕ) (may_step : Bool) (c : UseShadow) (o : IsOpenedCore d image r core may_step c) where
  core_opened : IsCore c
  core_opened =
      let s = stack_valid core r.options is.valid in
      let f : FrameState = opening_frame core (entry_of core image r.options) r.options.vecbase (stack_of core r.options).hi in
      let plain : IsPlain f = record { nested = refl; numbers = refl; count = special_count (prid_of core) r.options.vecbase } in
      record {
        side = subst IsUseSide (sym o.side) (record { core_is = refl; end_is = refl; low = s.low; high = s.high; past = nothing_less 0; counted = nothing_less 0 });
        vectors = o.vectors ∙ ap (λ (x : Side). x.uses.bounds.vecbase) (sym o.side);
        count = ap (λ s. length s.control.special) o.state ∙ state_count core (entry_of core image r.options) r.options.vecbase (runs.stack_of core r.options).hi;
        plain = λ e. subst (λ (x : Side). IsPlain x.uses.state.frame) (sym o.side) plain;
        nested = λ e. absurd (subst is_nested (sym e ∙ ap (λ (x : Side). x.phase) o.side) tt);
        level = λ e. absurd (true≢false (sym e ∙ o.level));
      }

  all_left : records_left (code_of image) c ≡ (records_of core image r).records
  all_left = λ i. (trace_over (processor (code_of image)) (o.state i) (o.left i) (o.replies i)).records

pub walk_opened : (d : Discipline) (image : Image) (r : Run) (may_step : Bool) (w : UseShadowWalk) → IsRunOf image r → w.code ≡ image.segments → IsOpenedCore d image r 0 may_step w.side0 → IsOpenedCore d image r 1 may_step w.side1
    → AreOpened d w.bytes r.options.stack0 r.options.stack1 → IsOpenedWalk d image r may_step w
walk_opened d image r may_step w is code zero one bytes =
    let a : (shown_walk w).side0 ≡ side_at 0 r.options.stack0.hi (opened_use d 0 image.entry r.options) = shown_whole w.side0 zero.level ∙ zero.side in
    let b : (shown_walk w).side1 ≡ side_at 1 r.options.stack1.hi (opened_use d 1 r.options.entry1 r.options) = shown_whole w.side1 one.level ∙ one.side in
    record {
      cores = record { zero = core_opened d image r is 0 may_step w.side0 zero; one = core_opened d image r is 1 may_step w.side1 one };
      never = λ e. record { zero = zero.may_step ∙ e; one = one.may_step ∙ e };
      opened = opens d (shown_walk w) image.segments image.entry r.options is.valid code a b bytes;
      records0 = all_left d image r is 0 may_step w.side0 zero;
      records1 = all_left d image r is 1 may_step w.side1 one;
    }
