use Rattle.std.proofs.Common.{◌≡◌, pos, List, Some, refl, sym, ap, ◌∙◌}
use Rattle.xt_lex.specs.declared.labels.Label.{Label}
use Rattle.xt_parse.specs.declared.line.Line.{Line}
use Rattle.xt_asm.specs.Images.{entry_of}
use Rattle.xt_asm.proofs.Closing.{HasEntry, closes_err, entry_is, pieces_count, with_both, without_entry}
use Rattle.xt_asm.proofs.image.closed_image.Goals as goal

pub entry_address-requires : goal.entry_address-requires
entry_address-requires c = λ v e.
    let has : HasEntry c.args.labels.now c.args.lines.now = entry_is c.args.lines.now c.args.labels.now c.requires.labels c.requires.clear in
    has.code v (sym c.entry_of.ensures ∙ e)

pub returns-in_default : goal.returns-in_default
returns-in_default c =
    let has : HasEntry c.args.labels.now c.args.lines.now = entry_is c.args.lines.now c.args.labels.now c.requires.labels c.requires.clear in
    closes_err c.no_entry.result c.args.lines.now c.no_entry.ensures (without_entry c.args.lines.now c.args.labels.now has (sym c.entry_of.ensures ∙ sym c.in_default.ensures))

pub segments_of-requires : goal.segments_of-requires
segments_of-requires c = pieces_count c.args.lines.now c.args.pieces.now c.requires.pieces

pub returns : goal.returns
returns c =
    let lines : List Line = c.args.lines.now in
    let labels : List Label = c.args.labels.now in
    let has : HasEntry labels lines = entry_is lines labels c.requires.labels c.requires.clear in
    let entry : Some (pos c.in-Some.entry) ≡ entry_of labels lines = c.in-Some.ensures ∙ c.entry_of.ensures in (
      with_both lines labels (pos c.in-Some.entry) has (sym entry) (sym c.has_segment.ensures ∙ c.if-not-has_segment.false),
      record {
        pieces = c.args.pieces.now;
        are_pieces = c.requires.pieces;
        segments = c.in_ok-segments.ensures;
        entry = entry ∙ ap (λ ls. entry_of ls lines) c.requires.labels;
        head_is = c.made_head.ensures;
        digest = refl;
      },
    )
