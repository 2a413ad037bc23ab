use Rattle.std.proofs.Common.{List, Ok, Err, ap, ◌∙◌, sym, subst}
use Rattle.xt_parse.specs.declared.line.Line.{Line}
use Rattle.xt_layout.specs.Addresses.{labels_of}
use Rattle.xt_layout.specs.Sizes.{IsSmall}
use Rattle.xt_asm.specs.Images.{AssemblesLines}
use Rattle.xt_layout.proofs.Weighing.{parsed_is_small}
use Rattle.xt_asm.proofs.Closing.{assembles_read, assembles_unread}
use Rattle.xt_asm.proofs.Mapping.{maps_made, maps_refused}
use Rattle.xt_asm.proofs.assembling.label_map.Goals as goal

pub returns-in-Err : goal.returns-in-Err
returns-in-Err c = maps_refused c.in-Err.fault c.args.text.now (assembles_unread c.in-Err.fault c.args.text.now c.in-Err.ensures.lines)

pub layout-requires : goal.layout-requires
layout-requires c =
    let P : List Line → Type 0 = λ ls. IsSmall ls in
    subst P (sym c.in_ok-pooled.ensures) (parsed_is_small c.in-Ok.lines c.in-Ok.ensures.small)

pub returns-in-Ok-image_of : goal.returns-in-Ok-image_of
returns-in-Ok-image_of c =
    let P : List Line → Type 0 = λ ls. AssemblesLines (Ok c.in-Ok-image_of.field-0) ls in
    maps_made c.in-Ok-image_of.field-0 c.in_ok-map_of-in-Ok-image_of.field-0 c.args.text.now c.in-Ok.lines c.labels.result.now c.in-Ok.ensures.lines (subst P c.in_ok-pooled.ensures c.in-Ok-image_of.ensures)
    (c.labels.ensures ∙ ap (λ l. l.labels) c.in_ok-laid.ensures.layout ∙ ap labels_of c.in_ok-pooled.ensures) c.in_ok-map_of-in-Ok-image_of.ensures

pub returns : goal.returns
returns c =
    let P : List Line → Type 0 = λ ls. AssemblesLines (Err c.in-Err-image_of.fault) ls in
    maps_refused c.in-Err-image_of.fault c.args.text.now (assembles_read (Err c.in-Err-image_of.fault) c.args.text.now c.in-Ok.lines c.in-Ok.ensures.lines (subst P c.in_ok-pooled.ensures c.in-Err-image_of.ensures))
