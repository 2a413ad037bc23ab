use Rattle.std.proofs.Common.{◌∷◌, [], ◌++◌, ap, sym, ◌∙◌, arith}
use Rattle.xt_map.specs.declared.access.Access.{Access}
use Rattle.xt_map.specs.declared.access.Entry.{Entry}
use Rattle.xt_record.proofs.Blocks.{so_far_all, so_far_more, so_far_not}
use Rattle.xt_record.proofs.entries.entries_in.Goals as goal

pub returns-then-not-is_entry : goal.returns-then-not-is_entry
returns-then-not-is_entry c = λ _.
    so_far_not c.args.rest.now c.word-count.result c.loop-i.i _ c.raw_at-raw.result c.word-count.ensures c.loop-i-test.true c.loop-i.invariant c.raw_at-raw.ensures
    (sym c.is_entry.ensures ∙ c.if-not-is_entry.true)

pub loop-i-preserved : goal.loop-i-preserved
loop-i-preserved c =
    let entry : Access → Entry = λ a. record { core = c.raw_at-raw.result.core; access = a; reply = c.raw_at-raw.result.reply } in
    so_far_more c.args.rest.now c.word-count.result c.loop-i.i c.loop-i.entries.items _ c.raw_at-raw.result c.loop-i-test.true c.loop-i.invariant c.raw_at-raw.ensures
    (sym c.is_entry.ensures ∙ c.if-not-is_entry.false)
    (c.in_ok-push.ensures.items ∙ ap (λ (a : Access). c.loop-i.entries.items ++ entry a ∷ []) c.access_of.ensures)

pub returns : goal.returns
returns c = so_far_all c.args.rest.now c.word-count.result c.loop-i.i c.loop-i.entries.items c.word-count.ensures (omega (arith, c.loop-i-test.false)) c.loop-i.invariant
