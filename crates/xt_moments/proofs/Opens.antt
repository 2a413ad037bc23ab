-- The world in which the runs of an image open.
use Rattle.std.proofs.Common.{◌≡◌, ◌∙◌, ap, sym, ℕ, List, []}
use Rattle.xt_map.specs.declared.contents.MemoryContents.{MemoryContents}
use Rattle.xt_bus.proofs.Opening.{opening_sends_none}
use Rattle.xt_search.specs.Changed.{ChangesState, contents_of}
use Rattle.xt_image.specs.declared.image.Image.{Image}
use Rattle.xt_trace.specs.declared.options.Options.{Options}
use Rattle.xt_core.specs.Runs.{memory_of, opening_at, opening_of, stack_words}
use Rattle.xt_moments.specs.Moments.{MomentCore, MomentWorld, opening_core, opening_world}

nothing_changed : (m : MemoryContents) → m.sent ≡ []
    → contents_of m (record { bytes = []; sent = [] }) ≡ m
nothing_changed m e = ap (λ (l : List ℕ). let n : MemoryContents = record m { sent = l } in
    n) (sym e)

pub opens : (image : Image) (o : Options) (a b : MomentCore) (k : ChangesState)
    → a ≡ opening_core (opening_at 0 image.entry o) → b ≡ opening_core (opening_at 1 o.entry1 o)
    → k ≡ record { bytes = []; sent = [] }
    → ◌≡◌ {A = MomentWorld}
    (record { core0 = a; core1 = b; memory = contents_of (memory_of image o) k })
    (opening_world (opening_of image o))
opens image o a b k e f g =
    let m = memory_of image o in
    let make : MomentCore → MomentCore → MemoryContents → MomentWorld =
    λ x y n. record { core0 = x; core1 = y; memory = n } in
    (λ i. make (e i) (f i) (contents_of m (g i)))
    ∙ ap (make (opening_core (opening_at 0 image.entry o)) (opening_core (opening_at 1 o.entry1 o)))
    (nothing_changed m (opening_sends_none image.segments (stack_words o)))
