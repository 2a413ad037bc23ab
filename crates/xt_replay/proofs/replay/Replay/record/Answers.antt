use Rattle.std.proofs.Common.{◌≡◌, ℕ, Some, sym, subst, arith}
use Rattle.std.specs.Prelude.{slice_get}
use Rattle.xt_map.specs.Memory.{constant_byte}
use Rattle.xt_core.specs.Positions.{schedule_in}
use Rattle.xt_core.specs.Runs.{records_of}
use Rattle.xt_replay.specs.Shown.{ReplayState, shown_at, step_in}
use Rattle.xt_exec.specs.State.{State}
use Rattle.xt_exec.specs.Turn.{demand, turn}
use Rattle.xt_replay.specs.Stands.{IsReply, stand_of}
use Rattle.xt_replay.proofs.Recorded.{Records, record_given}
use Rattle.xt_replay.proofs.replay.Replay.record.Goals as goal

pub returns-then-core-eq0 : goal.returns-then-core-eq0
returns-then-core-eq0 c =
    let b = c.self.inside in
    let x = c.record_from.result in
    let none : c.args.core ≡ 0 = c.if-core-eq0.true in
    let N : ReplayState → Type 0 = λ s. slice_get (schedule_in s.run) s.position ≡ Some c.args.core in
    let F : ReplayState → Type 0 = λ s. slice_get (records_of c.args.core s.image s.run).records (step_in c.args.core (shown_at s.image s.run s.position)) ≡ Some x in
    let C : ℕ → Type 0 = λ n. Records (constant_byte b.code) n (stand_of b.pair) c.next_reply-reply.result x in
    let G : State → Type 0 = λ s. (right : ℕ) → IsReply (demand (constant_byte b.code) s) c.next_reply-reply.result right → x ≡ (turn (constant_byte b.code) s right).0 in
    subst F c.self.view_is
    (record_given b c.args.core c.next_reply-reply.result x c.self.invariant (subst N (sym c.self.view_is) c.requires.next) c.next_reply-reply.ensures (subst C (sym none) (subst G c.regs.ensures c.record_from.ensures)))

pub returns-else-core-eq0 : goal.returns-else-core-eq0
returns-else-core-eq0 c =
    let b = c.self.inside in
    let x = c.record_from-else-core-eq0.result in
    let one : 1 ≡ c.args.core = omega (arith, c.requires.core, c.if-core-eq0.false) in
    let N : ReplayState → Type 0 = λ s. slice_get (schedule_in s.run) s.position ≡ Some c.args.core in
    let F : ReplayState → Type 0 = λ s. slice_get (records_of c.args.core s.image s.run).records (step_in c.args.core (shown_at s.image s.run s.position)) ≡ Some x in
    let C : ℕ → Type 0 = λ n. Records (constant_byte b.code) n (stand_of b.pair) c.next_reply-reply.result x in
    let G : State → Type 0 = λ s. (right : ℕ) → IsReply (demand (constant_byte b.code) s) c.next_reply-reply.result right → x ≡ (turn (constant_byte b.code) s right).0 in
    subst F c.self.view_is
    (record_given b c.args.core c.next_reply-reply.result x c.self.invariant (subst N (sym c.self.view_is) c.requires.next) c.next_reply-reply.ensures (subst C one (subst G c.regs-else-core-eq0.ensures c.record_from-else-core-eq0.ensures)))
