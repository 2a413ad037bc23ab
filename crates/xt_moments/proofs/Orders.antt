-- The moves of an order, one after another.
use Rattle.std.proofs.Common.{◌≡◌, ℕ, zero, suc, ◌+◌, ◌<◌, ◌≤◌, List, [], ◌∷◌, length, get_or}
use Rattle.std.proofs.Common.{drop, refl, sym, ap, ◌∙◌, arith}
use Rattle.xt_map.specs.declared.contents.MemoryContents.{MemoryContents}
use Rattle.xt_map.specs.declared.segment.Segment.{Segment}
use Rattle.xt_map.specs.Memory.{constant_byte}
use Rattle.xt_image.specs.declared.image.Image.{Image}
use Rattle.xt_trace.specs.declared.options.Options.{Options}
use Rattle.xt_core.specs.Runs.{code_of, memory_of, opening_of}
use Rattle.xt_moments.specs.Made.{world_of}
use Rattle.xt_moments.specs.Moments.{MomentWorld, moved, opening_world, world_past}
use Rattle.xt_moments.specs.Outcomes.{world_after}
use Rattle.xt_moments.specs.declared.worlds.Actors.{Actors}
use Rattle.xt_moments.specs.declared.moves.Move.{Move}

drop_at : (ms : List Move) (at : ℕ) (d : Move) → at < length ms
    → drop at ms ≡ get_or ms at d ∷ drop (suc at) ms
drop_at [] at d h = absurd (omega (arith, h))
drop_at (y ∷ ys) zero d h = refl
drop_at (y ∷ ys) (suc at) d h = drop_at ys at d (let g : suc at < suc (length ys) = h in
    omega arith)

pub drop_all : (ms : List Move) (at : ℕ) → length ms ≤ at → drop at ms ≡ []
drop_all [] zero h = refl
drop_all [] (suc at) h = refl
drop_all (y ∷ ys) zero h = absurd (omega arith)
drop_all (y ∷ ys) (suc at) h = drop_all ys at (let g : suc (length ys) ≤ suc at = h in omega arith)

-- one move more, at which CCOUNT is 0
pub move_more : (code : ℕ → ℕ) (ms : List Move) (at : ℕ) (d : Move) (u v w : MomentWorld)
    → at < length ms → v ≡ moved code 0 (get_or ms at d) u
    → world_past code (λ k. 0) (drop at ms) u ≡ w → world_past code (λ k. 0) (drop (at + 1) ms) v ≡
    w
move_more code ms at d u v w here e h =
    let g : at + 1 ≡ suc at = omega arith in
    ap (λ (k : ℕ). world_past code (λ k. 0) (drop k ms) v) g
    ∙ ap (world_past code (λ k. 0) (drop (suc at) ms)) e
    ∙ sym (ap (λ (l : List Move). world_past code (λ k. 0) l u) (drop_at ms at d here)) ∙ h

-- where code and memory are those of the image, the world is the one after the order
pub after_is : (image : Image) (o : Options) (order : List Move) (segments : List Segment)
    (m : MemoryContents) (first last : Actors) → segments ≡ image.segments → m ≡ memory_of image o
    → world_of (memory_of image o) first ≡ opening_world (opening_of image o)
    → world_of m last ≡ world_past (constant_byte segments) (λ k. 0) order (world_of m first)
    → world_of m last ≡ world_after (code_of image) (opening_of image o) (λ k. 0) order
after_is image o order segments m first last e f g h =
    h ∙ (λ i. world_past (constant_byte (e i)) (λ k. 0) order (world_of (f i) first))
    ∙ ap (world_past (code_of image) (λ k. 0) order) g
