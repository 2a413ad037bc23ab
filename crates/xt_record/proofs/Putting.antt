-- Words and bytes that are written one by one.
use Rattle.std.proofs.Common.{◌≡◌, ℕ, ◌+◌, ◌*◌, ◌/◌, ◌%◌, ◌<◌, ◌≤◌, List, [], ◌∷◌, ◌++◌, length, map, refl, sym, ap, ◌∙◌, append_assoc, arith}
use Rattle.std.specs.Prelude.{slice_index}
use Rattle.std.specs.List.{concat, flat_map, range_with_len}
use Rattle.std.specs.Int.{w32, to_le_bytes}
use Rattle.std.proofs.lemmas.List.{append-nil}
use Rattle.std.proofs.lemmas.List.FromFn.{map-range_with_len_more}
use Rattle.std.proofs.lemmas.Grind.{flat_map-append}
use Rattle.xt_isa.specs.Numbers.{br}
use Rattle.xt_window.specs.Ring.{place, visible}
use Rattle.xt_special.specs.Control.{bit_of, ps_word}
use Rattle.xt_exec.specs.State.{State}
use Rattle.xt_record.specs.Checkpoints.{file_bytes, last_numbers, loop_numbers, saved_numbers, special_bytes, state_bytes}
use Rattle.xt_trace.specs.declared.run.Run.{Run}
use Rattle.xt_record.specs.Fields.{magic, words}
use Rattle.xt_record.specs.Joined.{joined_parts}
use Rattle.xt_record.specs.RecordingParts.{entry_bytes, options_bytes}

-- a word after those of a list
word_more : (values values' : List ℕ) (v w : ℕ) (old now new : List ℕ) → values' ≡ values ++ w ∷ [] → v ≡ w → now ≡ old ++ words values
    → new ≡ now ++ to_le_bytes w32 v → new ≡ old ++ words values'
word_more values values' v w old now new more at is grown =
    let before = words values in
    grown ∙ ap (λ (l : List ℕ). l ++ to_le_bytes w32 v) is ∙ append_assoc old before (to_le_bytes w32 v)
    ∙ ap (λ (l : List ℕ). old ++ l)
    (ap (λ (k : ℕ). before ++ to_le_bytes w32 k) at ∙ ap (λ (l : List ℕ). before ++ l) (sym (append-nil (to_le_bytes w32 w)))
    ∙ sym (flat_map-append (to_le_bytes w32) values (w ∷ [])) ∙ ap words (sym more))

place_is : (i : ℕ) → i < 64 → place (4 * (i / 16)) (i % 16) ≡ i
place_is i lt = omega arith

-- the next physical register, in the window that begins at a multiple of 16
pub register_more : (regs : List ℕ) (i base v : ℕ) (old now new : List ℕ) → i < 64 → base ≡ 4 * (i / 16) → v ≡ visible regs base (i % 16)
    → now ≡ old ++ words (map (slice_index regs) (range_with_len 0 i)) → new ≡ now ++ to_le_bytes w32 v
    → new ≡ old ++ words (map (slice_index regs) (range_with_len 0 (i + 1)))
register_more regs i base v old now new lt at is =
    let f = slice_index regs in
    word_more (map f (range_with_len 0 i)) (map f (range_with_len 0 (i + 1))) v (f i) old now new
    (map-range_with_len_more f 0 i i (omega arith))
    (is ∙ ap (λ (b : ℕ). visible regs b (i % 16)) at ∙ ap f (place_is i lt))

-- all of them
pub registers_all : (regs : List ℕ) (i : ℕ) (old now : List ℕ) → 64 ≤ i → i ≤ 64 → now ≡ old ++ words (map (slice_index regs) (range_with_len 0 i))
    → now ≡ old ++ file_bytes regs
unfolding file_bytes
registers_all regs i old now from to is =
    is ∙ ap (λ (k : ℕ). old ++ words (map (slice_index regs) (range_with_len 0 k))) (let e : i ≡ 64 = omega (arith, from, to) in e)

-- one part more after those that are written
joined : (now part next behind new : List ℕ) → next ≡ now ++ part → new ≡ next ++ behind → new ≡ now ++ (part ++ behind)
joined now part next behind new is after = after ∙ ap (λ (l : List ℕ). l ++ behind) is ∙ append_assoc now part behind

-- those before PS
abbrev pub first_numbers : List ℕ
first_numbers = loop_numbers ++ br ∷ saved_numbers

first_parts : (special : List ℕ) → special_bytes special first_numbers ≡ special_bytes special loop_numbers ++ (words (slice_index special br ∷ []) ++ special_bytes special saved_numbers)
unfolding special_bytes
first_parts special = refl

regrouped : (a b l x s p t u : List ℕ) → ((((a ++ b) ++ (l ++ (x ++ s))) ++ p) ++ t) ++ u ≡ a ++ b ++ l ++ x ++ s ++ p ++ t ++ u
regrouped a b l x s p t u = simp append_assoc

pub state_joined : (step : ℕ) (s : State) (old l1 l2 l3 l4 l5 l6 : List ℕ)
    → l1 ≡ old ++ words (s.control.pc ∷ bit_of s.control.waits ∷ step ∷ s.base ∷ s.start ∷ [])
    → l2 ≡ l1 ++ file_bytes s.regs
    → l3 ≡ l2 ++ special_bytes s.control.special first_numbers
    → l4 ≡ l3 ++ words (ps_word s.control.ps ∷ [])
    → l5 ≡ l4 ++ special_bytes s.control.special last_numbers
    → l6 ≡ l5 ++ words (s.control.threadptr ∷ [])
    → l6 ≡ old ++ state_bytes step s
unfolding state_bytes
state_joined step s old l1 l2 l3 l4 l5 l6 e1 e2 e3 e4 e5 e6 =
    let special = s.control.special in
    let loops = special_bytes special loop_numbers in
    let booleans = words (slice_index special br ∷ []) in
    let saved = special_bytes special saved_numbers in
    let first : l3 ≡ l2 ++ (loops ++ (booleans ++ saved)) = e3 ∙ ap (λ (l : List ℕ). l2 ++ l) (first_parts special) in
    let to2 = joined old _ l1 _ l2 e1 e2 in
    let to3 = joined old _ l2 _ l3 to2 first in
    let to5 = joined old _ l4 _ l5 (joined old _ l3 _ l4 to3 e4) e5 in
    let opening = words (s.control.pc ∷ bit_of s.control.waits ∷ step ∷ s.base ∷ s.start ∷ []) in
    let ps = words (ps_word s.control.ps ∷ []) in
    let last = special_bytes special last_numbers in
    let thread = words (s.control.threadptr ∷ []) in
    let same : ((((opening ++ file_bytes s.regs) ++ (loops ++ (booleans ++ saved))) ++ ps) ++ last) ++ thread ≡ state_bytes step s =
    regrouped opening (file_bytes s.regs) loops booleans saved ps last thread in
    joined old _ l5 _ l6 to5 e6 ∙ ap (λ (l : List ℕ). old ++ l) same

pub recording_joined : (file : List ℕ) (r : Run) (points : List (List ℕ)) (old l1 l2 l3 l4 l5 l6 l7 l8 : List ℕ)
    → l1 ≡ old ++ magic
    → l2 ≡ l1 ++ words (2 ∷ length file ∷ [])
    → l3 ≡ l2 ++ file
    → l4 ≡ l3 ++ options_bytes r.options
    → l5 ≡ l4 ++ words (length r.history ∷ [])
    → l6 ≡ l5 ++ flat_map entry_bytes r.history
    → l7 ≡ l6 ++ words (length points ∷ [])
    → l8 ≡ l7 ++ concat points
    → l8 ≡ old ++ joined_parts file r points
recording_joined file r points old l1 l2 l3 l4 l5 l6 l7 l8 e1 e2 e3 e4 e5 e6 e7 e8 =
    let to3 = joined old _ l2 _ l3 (joined old _ l1 _ l2 e1 e2) e3 in
    let to5 = joined old _ l4 _ l5 (joined old _ l3 _ l4 to3 e4) e5 in
    let to7 = joined old _ l6 _ l7 (joined old _ l5 _ l6 to5 e6) e7 in joined old _ l7 _ l8 to7 e8
