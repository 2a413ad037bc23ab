-- What was read, before what the other texts say, is what all texts say.
use Rattle.std.proofs.Common.{◌≡◌, ◌+◌, ◌≤◌, ◌^◌, map, drop}
use Rattle.std.specs.Prelude.{All}
use Rattle.xt_command_line.specs.Outcomes.{place_of}
use Rattle.xt_command_line.specs.Parts.{all_said}
use Rattle.xt_command_line.proofs.TurnTexts.{before}
use Rattle.xt_command_line.proofs.outcomes.places_of.Given as goal

abbrev pub invariant-loop-text : goal.invariant-loop-text
invariant-loop-text l = record {
  places : before l.words.items (all_said place_of (map (λ text. text.now) (drop l.text-index l.texts))) ≡ all_said place_of (map (λ text. text.now) l.texts);
  low : All (λ a. a + 4 ≤ 2 ^ 32) l.words.items;
}
