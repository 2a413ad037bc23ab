-- Headers at the front that share no byte.
use Rattle.std.proofs.Common.{◌≡◌, ℕ, zero, suc, ◌+◌, ◌≤◌, ◌<◌, List, [], length, take, drop, get_or, refl, sym, ap, ◌∙◌, arith, length-take-le, false}
use Rattle.std.specs.Prelude.{All}
use Rattle.std.proofs.lemmas.List.{get_or-take, get_or_default}
use Rattle.xt_image.proofs.Findings.{none_found}
use Rattle.xt_image.proofs.Overlapping.{no_pair}
use Rattle.xt_elf.specs.declared.header.Header.{Header}
use Rattle.xt_elf.specs.declared.fault.ElfFault.TheVariants.{Overlap}
use Rattle.xt_elf.specs.Rules.{do_overlap, first_overlap}
use Rattle.xt_elf.specs.Spans.{AreApart}

no_header : Header
no_header = record { kind = 0; offset = 0; addr = 0; file_size = 0; memory_size = 0 }

none_before : (xs : List Header) (n : ℕ) → n < length xs → AreApart (suc n) xs → All (λ t. do_overlap t (get_or xs n no_header) ≡ false) (take n xs)
none_before xs n lt apart k d within =
    let kn : k < n = omega (arith, length-take-le n xs (omega arith)) in
    let klt : k < length xs = omega arith in
    ap (λ t. do_overlap t (get_or xs n no_header)) (get_or-take n xs k d kn ∙ get_or_default xs k d no_header klt) ∙ apart k n no_header kn (omega arith)

pub apart_at_front : (xs : List Header) (n : ℕ) → n ≤ length xs → AreApart n xs → first_overlap (take n xs) (drop n xs) ≡ first_overlap [] xs
apart_at_front xs zero le apart = refl
apart_at_front xs (suc n) le apart =
    let s = get_or xs n no_header in
    let more : first_overlap (take (n + 1) xs) (drop (n + 1) xs) ≡ first_overlap [] xs =
    no_pair do_overlap Overlap xs n s (first_overlap [] xs) (omega arith) (get_or_default xs n no_header s (omega arith))
    (sym (none_found no_header (λ t. do_overlap t s) (take n xs) (none_before xs n (omega arith) apart)))
    (apart_at_front xs n (omega arith) (λ i j d lt within. apart i j d lt (omega arith))) in
    let same : n + 1 ≡ suc n = omega arith in
    ap (λ k. first_overlap (take k xs) (drop k xs)) (sym same) ∙ more
