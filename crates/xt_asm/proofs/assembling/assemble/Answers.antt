use Rattle.std.proofs.Common.{List, sym, subst}
use Rattle.xt_parse.specs.declared.line.Line.{Line}
use Rattle.xt_layout.specs.Sizes.{IsSmall}
use Rattle.xt_asm.specs.Images.{Assembles, AssemblesLines}
use Rattle.xt_layout.proofs.Weighing.{parsed_is_small}
use Rattle.xt_asm.proofs.Closing.{assembled_well, assembles_read, assembles_unread}
use Rattle.xt_asm.proofs.assembling.assemble.Goals as goal

pub returns-in-Err : goal.returns-in-Err
returns-in-Err c = record { exact = assembles_unread c.in-Err.fault c.args.text.now c.in-Err.ensures.lines; well_formed = tt }

pub layout-requires : goal.layout-requires
layout-requires c =
    let P : List Line → Type 0 = λ ls. IsSmall ls in
    subst P (sym c.in_ok-pooled.ensures) (parsed_is_small c.in-Ok.lines c.in-Ok.ensures.small)

pub returns : goal.returns
returns c =
    let P : List Line → Type 0 = λ ls. AssemblesLines c.image_of.result ls in
    let exact : Assembles c.image_of.result c.args.text.now = assembles_read c.image_of.result c.args.text.now c.in-Ok.lines c.in-Ok.ensures.lines (subst P c.in_ok-pooled.ensures c.image_of.ensures) in
    record { exact = exact; well_formed = assembled_well c.image_of.result c.args.text.now exact }
