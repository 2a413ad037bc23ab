-- What is known of program headers that no rule refuses.
use Rattle.std.proofs.Common.{◌≡◌, ℕ, ◌+◌, ◌≤◌, ◌<◌, Bool, true, false, ◌&&◌, ◌||◌, List, [], ◌∷◌, get_or, Some, None, refl, arith}
use Rattle.std.specs.Prelude.{All, ◌==◌, nat_lt, not, option_map, position}
use Rattle.std.specs.List.{AllPairs, list_any}
use Rattle.std.proofs.lemmas.Bool.Decides.{nat_tests}
use Rattle.xt_map.specs.Regions.{is_executable, ranges, region_of}
use Rattle.xt_image.specs.Findings.{fails, first}
use Rattle.xt_image.proofs.Findings.{neither, no_place, none_passes, not_failed}
use Rattle.xt_image.proofs.Overlapping.{none_meet}
use Rattle.xt_elf.specs.declared.header.Header.{Header}
use Rattle.xt_elf.specs.declared.fault.ElfFault.{ElfFault}
use Rattle.xt_elf.specs.declared.fault.ElfFault.TheVariants.{Count, Entry, Overlap, Place, SegmentEnd, Sizes}
use Rattle.xt_elf.specs.Headers.{entry_of, is_loaded_header}
use Rattle.xt_elf.specs.Rules.{Finding, do_overlap, ends_behind, entry_rules, first_overlap, header_rules, is_larger_in_file, is_misplaced, loaded_count, padded_end, takes}

-- ---- nothing was found

record Five (x y z w : Finding) (b : Bool) : Type 0 where
  one : x ≡ None
  two : y ≡ None
  three : z ≡ None
  four : w ≡ None
  five : b ≡ false

five_passed : (x y z w : Finding) (b : Bool) (f : ElfFault) → first (x ∷ y ∷ z ∷ w ∷ fails b f ∷ []) ≡ None → Five x y z w b
five_passed (Some g) y z w b f h = absurd cc
five_passed None (Some g) z w b f h = absurd cc
five_passed None None (Some g) w b f h = absurd cc
five_passed None None None (Some g) b f h = absurd cc
five_passed None None None None true f h = absurd cc
five_passed None None None None false f h = record { one = refl; two = refl; three = refl; four = refl; five = refl }

-- ---- what each rule says of a loaded header

not_below : (a b : ℕ) → nat_lt a b ≡ false → b ≤ a
not_below a b h = grind (arith, nat_tests)

count_in : (n : ℕ) → (n == 0 || nat_lt 16 n) ≡ false → (0 < n) × (n ≤ 16)
count_in n h = grind (arith, nat_tests)

where_it_holds : (h t : Bool) → (h && t) ≡ false → h ≡ true → t ≡ false
where_it_holds true t e p = e
where_it_holds false t e p = absurd cc

not_false : (b : Bool) → not b ≡ false → b ≡ true
not_false true h = refl
not_false false h = absurd cc

-- program headers of a file of so many bytes that no rule refuses
pub record IsPassed (len : ℕ) (hs : List Header) : Type 0 where
  pub within : All (λ h. is_loaded_header h ≡ true → h.offset + h.file_size ≤ len) hs
  pub placed : All (λ h. is_loaded_header h ≡ true → list_any (takes h.addr (padded_end h)) ranges ≡ true) hs
  pub apart : AllPairs (λ h k. do_overlap h k ≡ false) hs
  pub some : 0 < loaded_count hs
  pub few : loaded_count hs ≤ 16

pub passed : (len : ℕ) (hs : List Header) → first (header_rules len hs) ≡ None → IsPassed len hs
passed len hs h =
    let five = five_passed (option_map SegmentEnd (position (ends_behind len) hs)) (option_map Sizes (position is_larger_in_file hs)) (option_map Place (position is_misplaced hs)) (first_overlap [] hs)
    (loaded_count hs == 0 || nat_lt 16 (loaded_count hs)) (Count (loaded_count hs)) h in
    let count = count_in (loaded_count hs) five.five in
    record {
      within = λ k d lt loaded. not_below len ((get_or hs k d).offset + (get_or hs k d).file_size)
          (where_it_holds (is_loaded_header (get_or hs k d)) _ (none_passes (ends_behind len) hs (no_place SegmentEnd _ five.one) k d lt) loaded);
      placed = λ k d lt loaded. not_false (list_any (takes (get_or hs k d).addr (padded_end (get_or hs k d))) ranges)
          (where_it_holds (is_loaded_header (get_or hs k d)) _ (none_passes is_misplaced hs (no_place Place _ five.three) k d lt) loaded);
      apart = λ i j d lt within. none_meet do_overlap Overlap [] hs five.four i j d lt (omega arith) within;
      some = count.0;
      few = count.1;
    }

pub entry_passed : (bytes : List ℕ) → first (entry_rules bytes) ≡ None → is_executable (region_of (entry_of bytes)) ≡ true
entry_passed bytes h =
    not_false (is_executable (region_of (entry_of bytes)))
    (not_failed (not (is_executable (region_of (entry_of bytes)))) (Entry (entry_of bytes)) (neither (fails (not (is_executable (region_of (entry_of bytes)))) (Entry (entry_of bytes))) None h).0)
