use Rattle.std.proofs.Common.{◌≡◌, ℕ, Result, false, refl, sym, ◌∙◌, subst}
use Rattle.std.specs.Prelude.{None}
use Rattle.xt_map.specs.Memory.{constant_byte}
use Rattle.xt_frames.specs.declared.kinds.BreachKind.{BreachKind}
use Rattle.xt_judged.specs.OwnJudges.{comes_to, range_of}
use Rattle.xt_judged.specs.Seen.{IsApartAfter, IsKnownAfter}
use Rattle.xt_judged.specs.declared.record.Beside.{Beside}
use Rattle.xt_judged.proofs.JudgePast.{alone, past_broken, past_copied, running_on, running_past}
use Rattle.xt_judged.proofs.watched.Running.past.Goals as goal

pub returns-in-Ok-clause-judge : goal.returns-in-Ok-clause-judge
returns-in-Ok-clause-judge c =
    let code : ℕ → ℕ = constant_byte c.args.code.now in
    let other = range_of c.args.other in
    let v = c.args.frames.now in
    let j = c.args.self.now in
    let rec = c.args.rec.now in
    let new = c.see_beside.new.frames in
    let seen = c.in_ok-beside.ensures in
    let apart : comes_to other rec.access ≡ false = sym c.comes_to.ensures ∙ c.if-comes_to.false in
    past_copied code other c.args.core v j rec c.in-Ok.beside new c.recount.new.self c.renew.new.stale c.recount.ensures
    (rw c.in-Ok.is at seen.whole) c.renew.ensures apart (rw c.in-Ok.is at seen.stack)
    (subst (λ (r : Result Beside BreachKind). IsKnownAfter v.bounds j.stale new (alone code other c.args.core v j rec) r) c.in-Ok.is seen.known)

pub returns-in-Ok-clause-running : goal.returns-in-Ok-clause-running
returns-in-Ok-clause-running c =
    let new = c.see_beside.new.frames in
    let seen = c.in_ok-beside.ensures in
    running_past c.in-Ok.beside new c.recount.new.self _ c.args.self.now.stale c.recount.ensures (rw c.in-Ok.is at seen.whole) c.renew.ensures
    (subst (λ (r : Result Beside BreachKind). IsApartAfter None c.args.self.now.stale new r) c.in-Ok.is seen.apart)

pub returns-in-Err-clause-judge : goal.returns-in-Err-clause-judge
returns-in-Err-clause-judge c =
    let code : ℕ → ℕ = constant_byte c.args.code.now in
    let other = range_of c.args.other in
    let v = c.args.frames.now in
    let j = c.args.self.now in
    let rec = c.args.rec.now in
    let seen = c.in_ok-beside.ensures in
    let apart : comes_to other rec.access ≡ false = sym c.comes_to.ensures ∙ c.if-comes_to.false in
    past_broken code other c.args.core v j rec c.see_beside.new.frames c.in-Err.kind apart (rw c.in-Err.is at seen.broken)
    (subst (λ (r : Result Beside BreachKind). IsKnownAfter v.bounds j.stale c.see_beside.new.frames (alone code other c.args.core v j rec) r) c.in-Err.is seen.known)

pub returns-in-Err-clause-running : goal.returns-in-Err-clause-running
returns-in-Err-clause-running c =
    running_on c.args.frames.now c.see_beside.new.frames c.args.self.now _ (rw c.in-Err.is at c.in_ok-beside.ensures.broken) refl c.requires
