-- What a search keeps of the world in which the runs of an image open.
use Rattle.std.proofs.Common.{◌≡◌, ◌∙◌, ap, sym, Bool, false, List, [], ℕ}
use Rattle.xt_map.specs.declared.contents.MemoryContents.{MemoryContents}
use Rattle.xt_bus.proofs.Opening.{opening_sends_none}
use Rattle.xt_search.specs.Changed.{ChangesState, contents_of}
use Rattle.xt_image.specs.declared.image.Image.{Image}
use Rattle.xt_trace.specs.declared.options.Options.{Options}
use Rattle.xt_trace.specs.Runs.{world_at_start}
use Rattle.xt_core.specs.Runs.{memory_of, opening_at, opening_of, stack_words}
use Rattle.xt_exec.specs.State.{State}
use Rattle.xt_outcomes.specs.Spots.{Side, Spot, left_kept, spot_in, state_kept}

nothing_changed : (m : MemoryContents) → m.sent ≡ [] → contents_of m (record { bytes = []; sent = [] }) ≡ m
nothing_changed m e = ap (λ (l : List ℕ). let n : MemoryContents = record m { sent = l } in n) (sym e)

abbrev pub side_open : ℕ → ℕ → Options → Bool → ℕ → Side State
side_open core pc o timed turns = record { state = state_kept timed (opening_at core pc o); left = left_kept timed turns false; stopped = false }

-- with so many turns of each core
pub opens : (image : Image) (o : Options) (timed : Bool) (turns0 turns1 : ℕ) (a b : Side State) (k : ChangesState)
    → a ≡ side_open 0 image.entry o timed turns0 → b ≡ side_open 1 o.entry1 o timed turns1 → k ≡ record { bytes = []; sent = [] }
    → ◌≡◌ {A = Spot State} (record { side0 = a; side1 = b; memory = contents_of (memory_of image o) k }) (spot_in timed (world_at_start (record (opening_of image o) { turns0 = turns0; turns1 = turns1 })))
opens image o timed turns0 turns1 a b k e f g =
    let m = memory_of image o in
    let make : Side State → Side State → MemoryContents → Spot State = λ x y n. record { side0 = x; side1 = y; memory = n } in
    (λ i. make (e i) (f i) (contents_of m (g i))) ∙ ap (make (side_open 0 image.entry o timed turns0) (side_open 1 o.entry1 o timed turns1)) (nothing_changed m (opening_sends_none image.segments (stack_words o)))
