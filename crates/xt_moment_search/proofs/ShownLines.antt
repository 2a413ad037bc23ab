-- The lines of an order's turns, one after another, and the order that is shown.
use Rattle.std.proofs.Common.{◌≡◌, ℕ, zero, suc, ◌+◌, ◌-◌, ◌<◌, List, [], ◌∷◌, ◌++◌, length, get_or}
use Rattle.std.proofs.Common.{drop, sym, ap, ◌∙◌, append_assoc}
use Rattle.std.specs.Prelude.{slice_get}
use Rattle.std.specs.List.{All}
use Rattle.std.specs.Option.{option_map_or}
use Rattle.std.proofs.lemmas.List.Elements.{All-head, All-nil, All-tail}
use Rattle.xt_map.specs.declared.contents.MemoryContents.{MemoryContents}
use Rattle.xt_map.specs.declared.segment.Segment.{Segment}
use Rattle.xt_map.specs.Memory.{constant_byte}
use Rattle.xt_trace.specs.Runs.{Opening}
use Rattle.xt_trace.specs.declared.options.Options.{Options}
use Rattle.xt_image.specs.declared.image.Image.{Image}
use Rattle.xt_exec.specs.State.{State}
use Rattle.xt_core.specs.Runs.{code_of, memory_of, opening_of}
use Rattle.xt_moments.specs.Made.{world_of}
use Rattle.xt_moments.specs.Moments.{IsMove, MomentWorld, moved, opening_world}
use Rattle.xt_moments.specs.declared.moves.Move.{Move}
use Rattle.xt_moments.specs.declared.worlds.Actors.{Actors}
use Rattle.xt_command_line.specs.declared.outcomes.Shown.{Shown}
use Rattle.xt_command_line.specs.declared.outcomes.Shown.TheVariants as shown
use Rattle.xt_moment_search.specs.ShownTurns.{Numbers, move_line, move_lines, numbers_past}
use Rattle.xt_moment_search.specs.ShownTurns.{order_lines, shown_order, stuck_order}
use Rattle.xt_moment_search.specs.Told.{AreReal, IsReal, IsStuckOf}
use Rattle.xt_moment_search.specs.declared.answers.Answers.{Answers}
use Rattle.xt_moment_search.specs.declared.found.Found.{Found}
use Rattle.xt_moment_search.specs.declared.stuck.Stuck.{Stuck}
use Rattle.xt_moment_search.specs.declared.stuck.Stuck.TheVariants as stuck
use Rattle.xt_moment_search.proofs.Rows.{at_place}

-- ---- the loop over an order

pub lines_more : (whole out out2 : List ℕ) (code : ℕ → ℕ) (ms : List Move) (at : ℕ) (d : Move)
    (n n2 : Numbers) (u v : MomentWorld) → at < length ms
    → out2 ≡ out ++ move_line code n (get_or ms at d) u → n2 ≡ numbers_past (get_or ms at d) n
    → v ≡ moved code 0 (get_or ms at d) u
    → out ++ move_lines code n (drop at ms) u ≡ whole
    → out2 ++ move_lines code n2 (drop (at + 1) ms) v ≡ whole
lines_more whole out out2 code ms at d n n2 u v here is is2 is3 before =
    let x = get_or ms at d in
    let left = move_lines code (numbers_past x n) (drop (at + 1) ms) (moved code 0 x u) in
    rw (is, is2, is3)
    (append_assoc out (move_line code n x u) left
    ∙ sym (ap (λ (l : List Move). out ++ move_lines code n l u) (at_place ms at d here)) ∙ before)

-- where code and memory are those of the image, the lines are those of its order
pub lines_are : (image : Image) (o : Options) (order : List Move) (segments : List Segment)
    (m : MemoryContents) (first : Actors) → segments ≡ image.segments → m ≡ memory_of image o
    → world_of (memory_of image o) first ≡ opening_world (opening_of image o)
    → move_lines (constant_byte segments) (0, 0) order (world_of m first)
    ≡ order_lines image o order
lines_are image o order segments m first e f g =
    (λ i. move_lines (constant_byte (e i)) (0, 0) order (world_of (f i) first))
    ∙ ap (move_lines (code_of image) (0, 0) order) g

-- ---- the order that is shown

at_moves : (code : ℕ → ℕ) (o : Opening State) (words : List ℕ) (xs : List Found)
    → All (IsReal code o words) xs → (n : ℕ)
    → All IsMove (option_map_or (λ (x : Found). x.order.items) (slice_get xs n) [])
at_moves code o words [] all n = All-nil IsMove
at_moves code o words (x ∷ xs) all zero = (All-head (IsReal code o words) x xs all).moves
at_moves code o words (x ∷ xs) all (suc n) =
    at_moves code o words xs (All-tail (IsReal code o words) x xs all) n

stuck_moves : (code : ℕ → ℕ) (o : Opening State) (s : Stuck) → IsStuckOf code o s
    → All IsMove (stuck_order s)
stuck_moves code o stuck.Never h = All-nil IsMove
stuck_moves code o (stuck.Order order) h = h.0
stuck_moves code o stuck.Unknown h = All-nil IsMove

pub shown_moves : (image : Image) (o : Options) (words : List ℕ) (which : Shown) (a : Answers)
    → AreReal image o words a.found.items
    → IsStuckOf (code_of image) (opening_of image o) a.stuck → All IsMove (shown_order which a)
shown_moves image o words shown.Nothing a real stuck_is = All-nil IsMove
shown_moves image o words (shown.Outcome number) a real stuck_is =
    at_moves (code_of image) (opening_of image o) words a.found.items real (number - 1)
shown_moves image o words shown.Stuck a real stuck_is =
    stuck_moves (code_of image) (opening_of image o) a.stuck stuck_is
