-- Where the code of well placed segments lies.
use Rattle.std.proofs.Common.{◌≡◌, ℕ, ◌+◌, ◌-◌, ◌<◌, ◌≤◌, Bool, true, false, ◌&&◌, ◌||◌, List, [], ◌∷◌, length, Option, Some, None, ⊎_elim, refl, sym, ap, subst, ◌∙◌, arith, drop, find}
use Rattle.std.specs.Prelude.{◌==◌, if◌then◌else◌, nat_le, nat_lt, not, is_some, All}
use Rattle.std.specs.Option.{option_map_or}
use Rattle.std.specs.List.{list_any}
use Rattle.std.proofs.lemmas.Bool.{and_parts, eqb-true, leb-true, ltb-true, or_cases}
use Rattle.std.proofs.lemmas.List.Elements.{All-head, All-tail}
use Rattle.xt_map.specs.declared.segment.Segment.{Segment}
use Rattle.xt_map.specs.Memory.{is_loaded}
use Rattle.xt_map.specs.Placing.{end_of_segment, is_device, is_well_placed, takes}
use Rattle.xt_map.specs.Regions.{Range, holds, is_executable, ranges, region_in, region_of}
use Rattle.xt_disasm.specs.Listing.{front, is_code}
use Rattle.xt_flow.specs.Following.{code_from, has_code, insn_at}
use Rattle.xt_flow.specs.FlowTables.{first_place, table_size}

-- a test of each range
abbrev all_of : (Range → Bool) → List Range → Bool
all_of test [] = true
all_of test (r ∷ rs) = test r && all_of test rs

abbrev pub last_place : ℕ
last_place = 0x40400000

-- an executable range lies between the first place and the last
abbrev is_between : Range → Bool
is_between r = not (is_executable (Some r.region)) || (nat_le 0x40070000 r.first && nat_le r.last 0x403FFFFF)

between : (b : Bool) (first last a : ℕ) → (not b || (nat_le 0x40070000 first && nat_le last 0x403FFFFF)) ≡ true → b ≡ true → (nat_le first a && nat_le a last) ≡ true → (0x40070000 ≤ a) × (a < last_place)
between false first last a h e held = absurd cc
between true first last a h e held =
    let parts = and_parts (nat_le 0x40070000 first) (nat_le last 0x403FFFFF) h in
    let inside = and_parts (nat_le first a) (nat_le a last) held in
    let one : 0x40070000 ≤ first = leb-true 0x40070000 first parts.0 in
    let two : last ≤ 0x403FFFFF = leb-true last 0x403FFFFF parts.1 in
    let three : first ≤ a = leb-true first a inside.0 in
    let four : a ≤ last = leb-true a last inside.1 in
    (omega arith, omega arith)

executable_in : (rs : List Range) (a : ℕ) → all_of is_between rs ≡ true → is_executable (region_in rs a) ≡ true → (0x40070000 ≤ a) × (a < last_place)
executable_in [] a h e = absurd cc
executable_in (r ∷ rs) a h e =
    let parts = and_parts (is_between r) (all_of is_between rs) h in
    let by : (b : Bool) → holds r a ≡ b → is_executable (if b then Some r.region else region_in rs a) ≡ true → (0x40070000 ≤ a) × (a < last_place) =
    λ (b : Bool). elim b as (λ b. holds r a ≡ b → is_executable (if b then Some r.region else region_in rs a) ≡ true → (0x40070000 ≤ a) × (a < last_place)) [
      | true ↦ λ held here. between (is_executable (Some r.region)) r.first r.last a parts.0 here held
      | false ↦ λ held there. executable_in rs a parts.1 there
    ] in
    by (holds r a) refl e

pub executable_between : (a : ℕ) → is_executable (region_of a) ≡ true → (0x40070000 ≤ a) × (a < last_place)
unfolding region_of
executable_between a e = executable_in ranges a refl e

-- a range that begins before the last place ends before it too
abbrev is_aside : Range → Bool
is_aside r = nat_le r.last 0x403FFFFF || nat_le last_place r.first

ends_by : (rs : List Range) (s : Segment) → all_of is_aside rs ≡ true → list_any (takes s) rs ≡ true → s.addr < last_place → end_of_segment s ≤ last_place
ends_by [] s h e low = absurd cc
ends_by (r ∷ rs) s h e low =
    let parts = and_parts (is_aside r) (all_of is_aside rs) h in
    ⊎_elim
    (λ (here : takes s r ≡ true).
    let inside = and_parts (nat_le r.first s.addr) (nat_le (end_of_segment s) (r.last + 1)) (and_parts (not (is_device r.region)) (nat_le r.first s.addr && nat_le (end_of_segment s) (r.last + 1)) here).1 in
    let begins : r.first ≤ s.addr = leb-true r.first s.addr inside.0 in
    let ends : end_of_segment s ≤ r.last + 1 = leb-true (end_of_segment s) (r.last + 1) inside.1 in
    ⊎_elim
    (λ (low' : nat_le r.last 0x403FFFFF ≡ true). let l : r.last ≤ 0x403FFFFF = leb-true r.last 0x403FFFFF low' in omega arith)
    (λ (high : nat_le last_place r.first ≡ true). let l : last_place ≤ r.first = leb-true last_place r.first high in absurd (omega arith))
    (or_cases (nat_le r.last 0x403FFFFF) (nat_le last_place r.first) parts.0))
    (λ (later : list_any (takes s) rs ≡ true). ends_by rs s parts.1 later low)
    (or_cases (takes s r) (list_any (takes s) rs) e)

-- the code of a well placed segment lies between the first place and the last
pub code_between : (s : Segment) → is_well_placed s ≡ true → is_code s ≡ true → (0x40070000 ≤ s.addr) × (s.addr + length s.bytes ≤ last_place)
code_between s placed code =
    let parts = and_parts (is_loaded s) (is_executable (region_of s.addr)) code in
    let first = executable_between s.addr parts.1 in
    let some : (length s.bytes == 0 || list_any (takes s) ranges) ≡ true = sym (ap (λ b. not b || (length s.bytes == 0 || list_any (takes s) ranges)) parts.0) ∙ placed in
    let low = first.1 in (
      first.0,
      ⊎_elim
          (λ (none : (length s.bytes == 0) ≡ true). let zero : length s.bytes ≡ 0 = eqb-true (length s.bytes) 0 none in omega arith)
          (λ (one : list_any (takes s) ranges ≡ true). ends_by ranges s refl one low)
          (or_cases (length s.bytes == 0) (list_any (takes s) ranges) some),
    )

-- ---- the code of segments

found_in : {X : Type 0} (p : X → Bool) (P : X → Type 0) (xs : List X) → All P xs → (x : X) → find p xs ≡ Some x → (p x ≡ true) × P x
found_in p P [] all x e = absurd cc
found_in {X} p P (y ∷ ys) all x e =
    let by : (b : Bool) → p y ≡ b → (if b then Some y else find p ys) ≡ Some x → (p x ≡ true) × P x =
    λ (b : Bool). elim b as (λ b. p y ≡ b → (if b then Some y else find p ys) ≡ Some x → (p x ≡ true) × P x) [
      | true ↦ λ held is. (let same : y ≡ x = cc in (ap p (sym same) ∙ held, subst P same (All-head P y ys all)))
      | false ↦ λ failed is. found_in p P ys (All-tail P y ys all) x is
    ] in
    by (p y) refl e

pub code_within : (segments : List Segment) → All (λ s. is_well_placed s ≡ true) segments → (a : ℕ) → 0 < length (code_from segments a) → (first_place ≤ a) × (a < first_place + table_size)
unfolding code_from
code_within segments placed a =
    let by : (o : Option Segment) → find (has_code a) segments ≡ o → 0 < length (option_map_or (λ (s : Segment). drop (a - s.addr) s.bytes) o []) → (first_place ≤ a) × (a < first_place + table_size) =
    λ (o : Option Segment). elim o as (λ o. find (has_code a) segments ≡ o → 0 < length (option_map_or (λ (s : Segment). drop (a - s.addr) s.bytes) o []) → (first_place ≤ a) × (a < first_place + table_size)) [
      | None ↦ λ is some. absurd (omega arith)
      | Some s ↦ λ is some.
          let here = found_in (has_code a) (λ s. is_well_placed s ≡ true) segments placed s is in
          let code = and_parts (is_code s) (nat_le s.addr a && nat_lt (a - s.addr) (length s.bytes)) here.0 in
          let inside = and_parts (nat_le s.addr a) (nat_lt (a - s.addr) (length s.bytes)) code.1 in
          let begins : s.addr ≤ a = leb-true s.addr a inside.0 in
          let ends : a - s.addr < length s.bytes = ltb-true (a - s.addr) (length s.bytes) inside.1 in
          let between = code_between s here.1 code.0 in
          let low = between.0 in
          let high = between.1 in
          (omega arith, omega arith)
    ] in
    by (find (has_code a) segments) refl

-- where an instruction lies there is code
pub insn_has_code : (bytes : List ℕ) → is_some (front bytes) ≡ true → 0 < length bytes
unfolding front
insn_has_code [] h = absurd cc
insn_has_code (b ∷ bytes) h = omega arith

pub insn_within : (segments : List Segment) → All (λ s. is_well_placed s ≡ true) segments → (a : ℕ) → is_some (insn_at segments a) ≡ true → (first_place ≤ a) × (a < first_place + table_size)
insn_within segments placed a h = code_within segments placed a (insn_has_code (code_from segments a) h)
