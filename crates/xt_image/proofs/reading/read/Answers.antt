use Rattle.std.proofs.Common.{◌∙◌, ◌-◌, ◌++◌, List, length, ap, sym, refl, slice_index, arith}
use Rattle.std.specs.List.{flat_map}
use Rattle.std.proofs.lemmas.List.{take_rest}
use Rattle.xt_map.specs.declared.segment.Segment.{Segment}
use Rattle.xt_image.specs.Layout.{segments_at, segment_bytes}
use Rattle.xt_image.proofs.First.{at_head, at_segments, at_end, place_is}
use Rattle.xt_image.proofs.Standing.{file_of, accepted_well_formed}
use Rattle.xt_image.proofs.Placement.{accepted_placed}
use Rattle.xt_image.proofs.reading.read.Goals as goal

pub returns-in-Some-clause-exact : goal.returns-in-Some-clause-exact
returns-in-Some-clause-exact c = λ _. at_head c.args.bytes.now _ c.in-Some.ensures.first

pub returns-in-Some-segment_fault-clause-exact : goal.returns-in-Some-segment_fault-clause-exact
returns-in-Some-segment_fault-clause-exact c = λ _.
    let bytes = c.args.bytes.now in
    at_segments bytes c.as_slice-parts.result.now _ c.in_default.ensures.first
    (c.as_slice-parts.ensures.value ∙ c.in_ok-segments.ensures.found ∙ ap (segments_at (slice_index bytes 1)) (take_rest bytes 24)) c.in-Some-segment_fault.ensures

pub returns-in-Some-end_fault-clause-exact : goal.returns-in-Some-end_fault-clause-exact
returns-in-Some-end_fault-clause-exact c = λ _.
    let bytes = c.args.bytes.now in
    let rest = c.in_ok-segments.rest.now in
    let value = c.as_slice-parts.ensures.value in
    at_end bytes c.as_slice-parts.result.now _ c.checksum_of.result _ c.in_default.ensures.first
    (value ∙ c.in_ok-segments.ensures.found ∙ ap (segments_at (slice_index bytes 1)) (take_rest bytes 24)) c.in_default-segment_fault.ensures
    (place_is bytes rest c.as_slice-parts.result.now (length bytes - length rest) (c.in_default.ensures.long refl)
    (sym (take_rest bytes 24) ∙ c.in_ok-segments.ensures.joined ∙ ap (λ (ss : List Segment). flat_map segment_bytes ss ++ rest) (sym value)) refl)
    c.checksum_of.ensures c.in-Some-end_fault.ensures

pub returns-clause-exact : goal.returns-clause-exact
returns-clause-exact c =
    let bytes = c.args.bytes.now in
    let rest = c.in_ok-segments.rest.now in
    let value = c.as_slice-parts.ensures.value in
    let found = c.in_ok-segments.ensures.found ∙ ap (segments_at (slice_index bytes 1)) (take_rest bytes 24) in (
      at_end bytes c.as_slice-parts.result.now _ c.checksum_of.result _ c.in_default.ensures.first
          (value ∙ found) c.in_default-segment_fault.ensures
          (place_is bytes rest c.as_slice-parts.result.now (length bytes - length rest) (c.in_default.ensures.long refl)
          (sym (take_rest bytes 24) ∙ c.in_ok-segments.ensures.joined ∙ ap (λ (ss : List Segment). flat_map segment_bytes ss ++ rest) (sym value)) refl)
          c.checksum_of.ensures c.in_default-end_fault.ensures,
      rw (c.head_in.ensures, c.word.ensures, c.new.ensures, found) refl,
    )

pub returns-clause-parts : goal.returns-clause-parts
returns-clause-parts c =
    let bytes = c.args.bytes.now in
    let found = c.in_ok-segments.ensures.found ∙ ap (segments_at (slice_index bytes 1)) (take_rest bytes 24) in
    rw (c.head_in.ensures, c.word.ensures, c.new.ensures, found)
    (file_of bytes c.in_ok-segments.rest.now (λ i. omega (arith, c.type_inv.bytes i)) c.requires (returns-clause-exact c).0
    (sym (take_rest bytes 24) ∙ c.in_ok-segments.ensures.joined ∙ ap (λ (ss : List Segment). flat_map segment_bytes ss ++ c.in_ok-segments.rest.now) found))

pub returns-clause-well_formed : goal.returns-clause-well_formed
returns-clause-well_formed c =
    let bytes = c.args.bytes.now in
    let found = c.in_ok-segments.ensures.found ∙ ap (segments_at (slice_index bytes 1)) (take_rest bytes 24) in
    rw (c.head_in.ensures, c.word.ensures, c.new.ensures, found)
    (accepted_well_formed bytes c.in_ok-segments.rest.now (λ i. omega (arith, c.type_inv.bytes i)) c.requires (returns-clause-exact c).0
    (sym (take_rest bytes 24) ∙ c.in_ok-segments.ensures.joined ∙ ap (λ (ss : List Segment). flat_map segment_bytes ss ++ c.in_ok-segments.rest.now) found))

pub returns-clause-placed : goal.returns-clause-placed
returns-clause-placed c =
    let bytes = c.args.bytes.now in
    let found = c.in_ok-segments.ensures.found ∙ ap (segments_at (slice_index bytes 1)) (take_rest bytes 24) in
    rw (c.new.ensures, found) (accepted_placed bytes (returns-clause-exact c).0)
