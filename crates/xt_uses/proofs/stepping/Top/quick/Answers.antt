use Rattle.std.proofs.Common.{◌≡◌, ℕ, List, None, Option, sym, ◌∙◌, ap}
use Rattle.xt_map.specs.Memory.{constant_byte}
use Rattle.xt_map.specs.Fetching.{Fetches, fetch_at}
use Rattle.xt_frames.specs.Frames.{FrameState, value_or_zero}
use Rattle.xt_frames.specs.KeptFrameState.{state_at}
use Rattle.xt_frames.proofs.Quickly.{IsOver, none_is, quick_kept, seen_is}
use Rattle.xt_frames.proofs.Shown.{sp_kept, sp_written}
use Rattle.xt_uses.proofs.QuickUses.{quick_use}
use Rattle.xt_uses.proofs.stepping.Top.quick.Goals as goal

pub returns-in-Some-clause-quick : goal.returns-in-Some-clause-quick
returns-in-Some-clause-quick c = λ made frames kept live bytes touched.
    let top = c.args.self.now in
    let code = constant_byte c.args.code.now in
    let rec = c.args.rec.now in
    let limits = c.args.limits in
    let fresh = c.args.fresh in
    let h = top.holes in
    let x = c.quick.new.self in
    let write = c.in-Some.write in
    let none : h.nested ≡ None = none_is h.nested (sym c.is_some.ensures ∙ c.if-is_some.false) in
    let q = c.quick.ensures.quick write c.in-Some.is in
    let k : IsOver limits fresh code rec h write top.view q.0 x = record { plain = none; over = q.1; quick = q.2 } in
    let at : fetch_at code top.view.control.pc ≡ Fetches k.quick.i k.quick.len = sym (ap (λ (s : FrameState). fetch_at code s.control.pc) (q.1 frames)) ∙ k.quick.at in
    let whole = c.reads_whole.ensures c.if-not-reads_whole.false k.quick.i k.quick.len frames kept (state_at frames h q.0) at none in
    quick_use limits fresh code rec h write top.view q.0 x k frames kept top.masks whole c.know.new.self live bytes
    (touched.saves ∙ c.if-touched.false) (touched.swaps ∙ c.if-touched-2.false) (touched.reply ∙ c.if-touched-3.false) c.know.ensures.word c.requires (c.know.ensures.masks kept)

pub returns-in-Some-clause-kept : goal.returns-in-Some-clause-kept
returns-in-Some-clause-kept c = λ made lo hi callers capacity kept.
    let top = c.args.self.now in
    let h = top.holes in
    let write = c.in-Some.write in
    let q = c.quick.ensures.quick write c.in-Some.is in
    let k : IsOver c.args.limits c.args.fresh (constant_byte c.args.code.now) c.args.rec.now h write top.view q.0 c.quick.new.self =
    record { plain = none_is h.nested (sym c.is_some.ensures ∙ c.if-is_some.false); over = q.1; quick = q.2 } in
    quick_kept c.args.limits c.args.fresh (constant_byte c.args.code.now) c.args.rec.now h write top.view q.0 c.quick.new.self k lo hi callers capacity kept

pub returns-in-Some-clause-sp : goal.returns-in-Some-clause-sp
returns-in-Some-clause-sp c = λ made.
    let top = c.args.self.now in
    let h = top.holes in
    let write = c.in-Some.write in
    let q = c.quick.ensures.quick write c.in-Some.is in
    let k : IsOver c.args.limits c.args.fresh (constant_byte c.args.code.now) c.args.rec.now h write top.view q.0 c.quick.new.self =
    record { plain = none_is h.nested (sym c.is_some.ensures ∙ c.if-is_some.false); over = q.1; quick = q.2 } in
    ap (λ (s : List (Option ℕ)). value_or_zero s 1) (seen_is c.args.limits c.args.fresh (constant_byte c.args.code.now) c.args.rec.now h write top.view q.0 c.quick.new.self k)
    ∙ sp_written top.view.seen write (sp_kept write k.quick.row.free)
