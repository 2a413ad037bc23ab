-- What is known of the bytes keeps up with the frames of a core.
use Rattle.std.proofs.Common.{◌≡◌, ℕ, ◌+◌, ◌<◌, ◌≤◌, ◌^◌, Bool, true, ◌||◌, ◌&&◌, leb, ltb, cond, Option, List, ◌∷◌, length, sym, ◌∙◌, ap, arith, subst}
use Rattle.std.proofs.lemmas.Bool.Decides.{nat_tests}
use Rattle.xt_map.specs.declared.access.Access.{Access}
use Rattle.xt_frames.specs.Frames.{Frame, FrameState, value_or_zero}
use Rattle.xt_frames.specs.SaveAreas.{Range, areas, covers_byte, is_live}
use Rattle.xt_frames.specs.Breaches.{stale_after, stores_at}
use Rattle.xt_frames.specs.Stacks.{Calls, Moves, Stack, Stays}
use Rattle.xt_frames.specs.Stacks as moves
use Rattle.xt_discipline.specs.declared.bytes.Held.{Held}
use Rattle.xt_discipline.specs.declared.bytes.Change.{Change}
use Rattle.xt_discipline.specs.declared.bytes.Change.TheVariants.{Stored}
use Rattle.xt_discipline.specs.ByteMarks.{AreChanged, KnowsOf, byte_after_change, first, held_at, is_marked, opened_at}
use Rattle.xt_discipline.specs.Sides.{IsFollowed}
use Rattle.xt_discipline.proofs.Lives.{live_more, opened_apart, opened_inside}
use Rattle.xt_discipline.proofs.Known.{known_calls, known_returns, known_stays}

pub in_marks : (a : ℕ) → first ≤ a → a < 2 ^ 30 → (leb first a && ltb a (first + 0x52000)) ≡ true
in_marks a l h = grind (arith, nat_tests)

pub marked_in : (marks : List Held) (lo hi a : ℕ) → length marks ≡ 0x52000 → first ≤ lo → hi ≤ 2 ^ 30 → (lo ≤ a) × (a < hi) → is_marked marks a ≡ true
marked_in marks lo hi a len low high i =
    let l = i.0 in
    let h = i.1 in
    ap (λ (n : ℕ). leb first a && ltb a (first + n)) len ∙ in_marks a (omega arith) (omega arith)

pub known_moves : (core : ℕ) (r : Range) (g u : FrameState) (m : Moves g u) (old mid new : List Held) (others stale : ℕ → Bool) (access : Option Access)
    → first ≤ r.lo → r.hi ≤ 2 ^ 30 → length mid ≡ 0x52000 → Stack r.lo r.hi g.seen g.frames → Stack r.lo r.hi u.seen u.frames
    → KnowsOf core old (is_live r g) others stale → AreChanged Stored (stores_at access) old mid → IsFollowed core r.hi g u m mid new
    → KnowsOf core new (is_live r u) others (stale_after (λ a. is_live r u a || others a) (λ a. is_live r g a || others a) stale access)
known_moves core r g u (Stays e s) old mid new others stale access low high len kg ku k c d =
    let same : (a : ℕ) → is_live r u a ≡ is_live r g a = λ a. ap (λ (sp : ℕ). covers_byte (areas r.hi sp 1 u.frames) a) s ∙ ap (λ (fs : List Frame). covers_byte (areas r.hi (value_or_zero g.seen 1) 1 fs) a) e in
    subst (λ (x : List Held). KnowsOf core x (is_live r u) others (stale_after (λ a. is_live r u a || others a) (λ a. is_live r g a || others a) stale access)) (sym d)
    (known_stays core old mid (is_live r g) (is_live r u) others stale access k c same)
known_moves core r g u (Calls f e s) old mid new others stale access low high len kg ku k c d =
    let sp = value_or_zero u.seen 1 in
    let stack : Stack r.lo r.hi u.seen (f ∷ g.frames) = subst (λ (fs : List Frame). Stack r.lo r.hi u.seen fs) e ku in
    let more : (a : ℕ) → is_live r u a ≡ (opened_at r.hi sp f g.frames a || is_live r g a) = λ a.
    ap (λ (fs : List Frame). covers_byte (areas r.hi sp 1 fs) a) e ∙ (live_more r.hi sp f g.frames a ∙ ap (λ (x : ℕ). opened_at r.hi sp f g.frames a || covers_byte (areas r.hi x 1 g.frames) a) s) in
    known_calls core old mid new (is_live r g) (is_live r u) others stale (opened_at r.hi sp f g.frames) access k c d
    (λ a o. marked_in mid r.lo r.hi a len low high (opened_inside r.lo r.hi u.seen f g.frames a stack o)) more
known_moves core r g u (moves.Leaves f e s) old mid new others stale access low high len kg ku k c d =
    let sp = value_or_zero g.seen 1 in
    let stack : Stack r.lo r.hi g.seen (f ∷ u.frames) = subst (λ (fs : List Frame). Stack r.lo r.hi g.seen fs) e kg in
    let less : (a : ℕ) → is_live r g a ≡ (opened_at r.hi sp f u.frames a || is_live r u a) = λ a.
    ap (λ (fs : List Frame). covers_byte (areas r.hi sp 1 fs) a) e ∙ (live_more r.hi sp f u.frames a ∙ ap (λ (x : ℕ). opened_at r.hi sp f u.frames a || covers_byte (areas r.hi x 1 u.frames) a) (sym s)) in
    known_returns core old mid new (is_live r g) (is_live r u) others stale (opened_at r.hi sp f u.frames) access k c d
    (λ a o. marked_in mid r.lo r.hi a len low high (opened_inside r.lo r.hi g.seen f u.frames a stack o))
    (λ a o. ap (λ (x : ℕ). covers_byte (areas r.hi x 1 u.frames) a) s ∙ opened_apart r.lo r.hi g.seen f u.frames a stack o) less

-- ---- of the same bytes
pub changed_same : (change : Change) (t u : ℕ → Bool) (old new : List Held) → ((a : ℕ) → t a ≡ u a) → AreChanged change t old new → AreChanged change u old new
changed_same change t u old new same c a = c a ∙ ap (λ (b : Bool). cond (b && is_marked old a) (byte_after_change change (held_at old a)) (held_at old a)) (same a)
