-- Both cores as a run of an image opens.
use Rattle.std.proofs.Common.{◌≡◌, ℕ, ◌≤◌, List, length, replicate, refl, sym, ◌∙◌, ap, subst, arith}
use Rattle.std.proofs.Math.ListN.{set}
use Rattle.std.proofs.lemmas.Bool.{true≢false}
use Rattle.std.proofs.lemmas.List.{length-replicate, length-set}
use Rattle.xt_map.specs.Memory.{constant_byte}
use Rattle.xt_map.specs.declared.segment.Segment.{Segment}
use Rattle.xt_image.specs.declared.image.Image.{Image}
use Rattle.xt_special.specs.Opening.{no_special, opening_special, prid_of}
use Rattle.xt_trace.specs.declared.run.Run.{Run}
use Rattle.xt_trace.specs.Traces.{trace_over}
use Rattle.xt_exec.specs.Chips.{processor}
use Rattle.xt_exec.specs.State.{opening_state}
use Rattle.xt_core.specs.Runs.{IsRunOf, code_of, entry_of, opening_at, records_of}
use Rattle.xt_core.specs.Runs as runs
use Rattle.xt_frames.specs.declared.kinds.HandlerPhase.{HandlerPhase}
use Rattle.xt_frames.specs.declared.kinds.HandlerPhase.TheVariants.{Nested}
use Rattle.xt_frames.specs.Frames.{FrameState, opening_frame}
use Rattle.xt_frames.specs.Walked.{opening_walked, stack_of}
use Rattle.xt_discipline.specs.declared.side.Side.{Side}
use Rattle.xt_discipline.specs.ByteMarks.{AreOpened}
use Rattle.xt_discipline.specs.Sides.{IsSide}
use Rattle.xt_discipline.proofs.Openings.{opens, side_at}
use Rattle.xt_discipline.proofs.Opens.{stack_valid}
use Rattle.xt_shadow.specs.declared.cores.ShadowCore.{ShadowCore}
use Rattle.xt_shadow.specs.declared.walk.ShadowWalk.{ShadowWalk}
use Rattle.xt_shadow.specs.InStep.{IsPlain}
use Rattle.xt_shadow.specs.Shadows.{IsCore, IsOpenedCore, IsOpenedWalk, records_left, shown_walk}
use Rattle.xt_shadow.proofs.Turning.{shown_whole}

pub special_count : (prid vecbase : ℕ) → length (opening_special prid vecbase) ≡ 256
unfolding opening_special no_special
special_count prid vecbase =
    length-set (set (replicate 256 0) 235 prid) 231 vecbase
    ∙ (length-set (replicate 256 0) 235 prid ∙ length-replicate {A = ℕ} 256 0)

pub state_count : (core pc vecbase stack_end : ℕ) → length (opening_state core pc vecbase stack_end).control.special ≡ 256
unfolding opening_state
state_count core pc vecbase stack_end = special_count (prid_of core) vecbase

abbrev is_nested : HandlerPhase → Type 0
is_nested Nested = Unit {0}
is_nested _ = ⊥

nothing_less : (n : ℕ) → 0 ≤ n
nothing_less n = omega arith

module _ (image : Image) (r : Run) (is : IsRunOf image r) (core : ℕ) (c : ShadowCore) (o : IsOpenedCore image r core c) where
  pub core_opened : IsCore c
  core_opened =
      let s = stack_valid core r.options is.valid in
      let f : FrameState = opening_frame core (entry_of core image r.options) r.options.vecbase (stack_of core r.options).hi in
      let plain : IsPlain f = record { nested = refl; numbers = refl; count = special_count (prid_of core) r.options.vecbase } in
      record {
        side = subst IsSide (sym o.side) (record { core_is = refl; end_is = refl; low = s.low; high = s.high; past = nothing_less 0 });
        vectors = o.vectors ∙ ap (λ (x : Side). x.frames.bounds.vecbase) (sym o.side);
        count = ap (λ s. length s.control.special) o.state ∙ state_count core (entry_of core image r.options) r.options.vecbase (runs.stack_of core r.options).hi;
        plain = λ e. subst (λ (x : Side). IsPlain x.frames.state) (sym o.side) plain;
        nested = λ e. absurd (subst is_nested (sym e ∙ ap (λ (x : Side). x.phase) o.side) tt);
        level = λ e. absurd (true≢false (sym e ∙ o.level));
      }

  pub all_left : records_left (code_of image) c ≡ (records_of core image r).records
  all_left = λ i. (trace_over (processor (code_of image)) (o.state i) (o.left i) (o.replies i)).records

pub walk_opened : (image : Image) (r : Run) (w : ShadowWalk) → IsRunOf image r → w.code ≡ image.segments → IsOpenedCore image r 0 w.side0 → IsOpenedCore image r 1 w.side1
    → length w.marks.items ≡ 0x52000 → AreOpened w.marks.items r.options.stack0.hi r.options.stack1.hi → IsOpenedWalk image r w
walk_opened image r w is code first second len marks =
    let a : (shown_walk w).side0 ≡ side_at 0 r.options.stack0.hi (opening_walked 0 image.entry r.options) = shown_whole w.side0 first.level ∙ first.side in
    let b : (shown_walk w).side1 ≡ side_at 1 r.options.stack1.hi (opening_walked 1 r.options.entry1 r.options) = shown_whole w.side1 second.level ∙ second.side in
    let all = opens (shown_walk w) image.segments image.entry r.options is.valid code a b len marks in
    record {
      code_is = ap (λ (x : List Segment). constant_byte x) code;
      both = record { cores = record { zero = core_opened image r is 0 w.side0 first; one = core_opened image r is 1 w.side1 second }; knows = all.knows };
      steps0 = all.steps0;
      steps1 = all.steps1;
      records0 = all_left image r is 0 w.side0 first;
      records1 = all_left image r is 1 w.side1 second;
    }
