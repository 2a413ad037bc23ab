use Rattle.std.proofs.Common.{◌≡◌, ◌∙◌, List, filter, length, map, ap, sym, refl, arith}
use Rattle.std.specs.Prelude.{None}
use Rattle.xt_elf.specs.declared.header.Header.{Header}
use Rattle.xt_elf.specs.Format.{elf_image, segment_of}
use Rattle.xt_elf.specs.Headers.{header_count, headers_of, headers_place, is_loaded_header}
use Rattle.xt_image.specs.Findings.{first}
use Rattle.xt_elf.specs.Rules.{header_rules}
use Rattle.xt_elf.proofs.First.{at_entry, at_file, at_headers}
use Rattle.xt_elf.proofs.Loaded.{holds}
use Rattle.xt_image.proofs.Standing.{all_fit, half_fits, word_fits}
use Rattle.xt_elf.proofs.Passed.{IsPassed, entry_passed, passed}
use Rattle.xt_elf.proofs.Walk.{length-headers_from}
use Rattle.xt_elf.proofs.WellFormed.{well_formed}
use Rattle.xt_elf.proofs.converting.from_elf.Goals as goal

pub returns-in-Some-clause-exact : goal.returns-in-Some-clause-exact
returns-in-Some-clause-exact c = λ _. at_file c.args.bytes.now _ c.in-Some.ensures.first

pub header_fault-requires-clause-few : goal.header_fault-requires-clause-few
header_fault-requires-clause-few c =
    let bytes = c.args.bytes.now in
    let same : c.as_slice-parts.result.now ≡ headers_of bytes = c.as_slice-parts.ensures.value ∙ c.in_ok-headers.ensures in
    omega (arith, ap length same, length-headers_from (header_count bytes) bytes (headers_place bytes), half_fits bytes 44 (λ i. omega (arith, c.type_inv.bytes i)))

pub returns-in-Some-header_fault-clause-exact : goal.returns-in-Some-header_fault-clause-exact
returns-in-Some-header_fault-clause-exact c = λ _.
    at_headers c.args.bytes.now c.as_slice-parts.result.now _ c.in_default.ensures.first (c.as_slice-parts.ensures.value ∙ c.in_ok-headers.ensures) c.in-Some-header_fault.ensures

pub returns-in-Some-entry_fault-clause-exact : goal.returns-in-Some-entry_fault-clause-exact
returns-in-Some-entry_fault-clause-exact c = λ _.
    at_entry c.args.bytes.now c.as_slice-parts.result.now _ c.in_default.ensures.first (c.as_slice-parts.ensures.value ∙ c.in_ok-headers.ensures) c.in_default-header_fault.ensures c.in-Some-entry_fault.ensures

pub segments_of-requires : goal.segments_of-requires
segments_of-requires c = (passed (length c.args.bytes.now) c.as_slice-parts.result.now (sym c.in_default-header_fault.ensures)).within

pub returns-clause-exact : goal.returns-clause-exact
returns-clause-exact c =
    let bytes = c.args.bytes.now in
    let made : c.new.result ≡ (elf_image bytes).segments =
    c.new.ensures ∙ c.in_ok-segments.ensures ∙ ap (λ (hs : List Header). map (segment_of bytes) (filter is_loaded_header hs)) (c.as_slice-parts.ensures.value ∙ c.in_ok-headers.ensures) in (
      at_entry bytes c.as_slice-parts.result.now None c.in_default.ensures.first (c.as_slice-parts.ensures.value ∙ c.in_ok-headers.ensures) c.in_default-header_fault.ensures c.in_default-entry_fault.ensures,
      rw (c.made_head.ensures, c.word.ensures, made) refl,
    )

pub returns-clause-well_formed : goal.returns-clause-well_formed
returns-clause-well_formed c =
    let bytes = c.args.bytes.now in
    let same : c.as_slice-parts.result.now ≡ headers_of bytes = c.as_slice-parts.ensures.value ∙ c.in_ok-headers.ensures in
    let none : first (header_rules (length bytes) (headers_of bytes)) ≡ None =
    ap (λ (hs : List Header). first (header_rules (length bytes) hs)) (sym same) ∙ sym c.in_default-header_fault.ensures in
    let made : c.new.result ≡ (elf_image bytes).segments =
    c.new.ensures ∙ c.in_ok-segments.ensures ∙ ap (λ (hs : List Header). map (segment_of bytes) (filter is_loaded_header hs)) (c.as_slice-parts.ensures.value ∙ c.in_ok-headers.ensures) in
    rw (c.made_head.ensures, c.word.ensures, made)
    (well_formed bytes (all_fit bytes (λ i. omega (arith, c.type_inv.bytes i))) (word_fits bytes 24 (λ i. omega (arith, c.type_inv.bytes i)))
    (passed (length bytes) (headers_of bytes) none) (entry_passed bytes (sym c.in_default-entry_fault.ensures)))

pub returns-clause-memory : goal.returns-clause-memory
returns-clause-memory c =
    let bytes = c.args.bytes.now in
    let same : c.as_slice-parts.result.now ≡ headers_of bytes = c.as_slice-parts.ensures.value ∙ c.in_ok-headers.ensures in
    let none : first (header_rules (length bytes) (headers_of bytes)) ≡ None =
    ap (λ (hs : List Header). first (header_rules (length bytes) hs)) (sym same) ∙ sym c.in_default-header_fault.ensures in
    let made : c.new.result ≡ (elf_image bytes).segments =
    c.new.ensures ∙ c.in_ok-segments.ensures ∙ ap (λ (hs : List Header). map (segment_of bytes) (filter is_loaded_header hs)) (c.as_slice-parts.ensures.value ∙ c.in_ok-headers.ensures) in
    let p : IsPassed (length bytes) (headers_of bytes) = passed (length bytes) (headers_of bytes) none in
    let w = well_formed bytes (all_fit bytes (λ i. omega (arith, c.type_inv.bytes i))) (word_fits bytes 24 (λ i. omega (arith, c.type_inv.bytes i)))
    p (entry_passed bytes (sym c.in_default-entry_fault.ensures)) in
    rw made (holds bytes w p)
