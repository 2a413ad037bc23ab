-- The lines of the places of memory, one by one, and the end of a run.
use Rattle.std.proofs.Common.{◌≡◌, ◌<◌, ◌≤◌, ◌+◌, ℕ, List, ◌++◌, length, drop, get_or, Result, Ok, Err, arith, sym, ap, ◌∙◌, append_assoc}
use Rattle.std.specs.Prelude.{MatchResult}
use Rattle.std.specs.List.{flat_map}
use Rattle.std.proofs.lemmas.List.{drop_more}
use Rattle.xt_image.specs.declared.image.Image.{Image}
use Rattle.xt_trace.specs.declared.run.Run.{Run}
use Rattle.xt_core.specs.Positions.{schedule_in}
use Rattle.xt_replay.specs.Shown.{ReplayState, replay_at, shown_at}
use Rattle.xt_command_line.specs.declared.spans.Span.{Span}
use Rattle.xt_runs.specs.Memory.{shown_last}

-- a line more
pub line_more : (f : Span → List ℕ) (old new whole : List ℕ) (k : ℕ) (spans : List Span) (d : Span) → k < length spans
    → new ≡ old ++ f (get_or spans k d) → old ++ flat_map f (drop k spans) ≡ whole → new ++ flat_map f (drop (k + 1) spans) ≡ whole
line_more f old new whole k spans d here printed so_far =
    ap (λ t. t ++ flat_map f (drop (k + 1) spans)) printed
    ∙ append_assoc old (f (get_or spans k d)) (flat_map f (drop (k + 1) spans))
    ∙ ap (λ xs. old ++ flat_map f xs) (sym (drop_more spans k d here))
    ∙ so_far

-- a replay that was told to stand at the end stands there
pub stood : {T E : Type 0} (old new : ReplayState) (r : Result T E) (end : ℕ) → end ≡ length (schedule_in old.run)
    → MatchResult r (λ _. (end ≤ length (schedule_in old.run)) × (new ≡ replay_at old end)) (λ _. (length (schedule_in old.run) < end) × (new ≡ old))
    → new ≡ replay_at old (length (schedule_in old.run))
stood old new (Ok u) end is (within, same) = same ∙ ap (replay_at old) is
stood old new (Err e) end is (beyond, same) = absurd (omega (arith, is, beyond))

pub shows_last : (image : Image) (run : Run) (old new : ReplayState) → old ≡ record { image = image; run = run; position = 0 } → new ≡ replay_at old (length (schedule_in old.run))
    → shown_at new.image new.run new.position ≡ shown_last image run
shows_last image run old new is stands =
    ap (λ (s : ReplayState). shown_at s.image s.run s.position) stands
    ∙ ap (λ (s : ReplayState). shown_at s.image s.run (length (schedule_in s.run))) is
