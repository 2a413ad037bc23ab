use Rattle.std.proofs.Common.{ℕ, List, Option, Some, sym, ap, ◌∙◌, subst}
use Rattle.xt_map.specs.declared.access.Access.{Access}
use Rattle.xt_map.specs.Memory.{constant_byte}
use Rattle.xt_trace.specs.Traces.{replies_past, reply_for}
use Rattle.xt_exec.specs.States.{file_state}
use Rattle.xt_exec.specs.Halves.{IsPlan}
use Rattle.xt_exec.specs.Turn.{demand, planned_turn}
use Rattle.xt_exec.specs.declared.plans.Plan.{Plan}
use Rattle.xt_core.proofs.Cursors.{half_step}
use Rattle.xt_core.proofs.Turning.{half_turn}
use Rattle.xt_shadow.specs.Shadows.{core_state}
use Rattle.xt_shadow.proofs.Making.{started_on}
use Rattle.xt_shadow.proofs.cores.ShadowCore.next.Goals as goal

pub returns-in-Done-clause-turn : goal.returns-in-Done-clause-turn
returns-in-Done-clause-turn c =
    let code = constant_byte c.args.lookups.now in
    let s = core_state c.args.self.now in
    let P : Plan → Type 0 = λ p. IsPlan p s (file_state c.start-plan.new.self.regs) (planned_turn code s) in
    let local = c.local_turn.ensures code s c.head_of-head.ensures.value (subst P c.in-Done.is c.start-plan.ensures.plan) in
    local.turn (reply_for (demand code s) c.args.self.now.replies)

pub returns-in-Done-clause-rest : goal.returns-in-Done-clause-rest
returns-in-Done-clause-rest c =
    let code = constant_byte c.args.lookups.now in
    let s = core_state c.args.self.now in
    let P : Plan → Type 0 = λ p. IsPlan p s (file_state c.start-plan.new.self.regs) (planned_turn code s) in
    let local = c.local_turn.ensures code s c.head_of-head.ensures.value (subst P c.in-Done.is c.start-plan.ensures.plan) in
    c.start-plan.ensures.replies ∙ sym (ap (λ (d : Option Access). replies_past d c.args.self.now.replies) local.asks_nothing)

pub returns-in-Done-clause-started : goal.returns-in-Done-clause-started
returns-in-Done-clause-started c = started_on (constant_byte c.args.lookups.now) c.args.self.now c.start-plan.new.self c.local_turn.new.r c.start-plan.new.self.replies c.start-plan.ensures.started

pub returns-in-Bus-clause-turn : goal.returns-in-Bus-clause-turn
returns-in-Bus-clause-turn c =
    let code = constant_byte c.args.lookups.now in
    let s = core_state c.args.self.now in
    let t = file_state c.start-plan.new.self.regs in
    let P : Plan → Type 0 = λ p. IsPlan p s (file_state c.start-plan.new.self.regs) (planned_turn code s) in
    half_step code s t c.in-Bus.pending c.next-reply.result c.args.self.now.replies _ (half_turn code s _ c.in-Bus.pending (file_state c.start-plan.new.self.regs) (subst P c.in-Bus.is c.start-plan.ensures.plan)) (c.end.ensures code)
    (c.next-reply.ensures.reply c.in-Bus.pending.access ∙ ap (λ (rs : List ℕ). reply_for (Some c.in-Bus.pending.access) rs) c.start-plan.ensures.replies)

pub returns-in-Bus-clause-rest : goal.returns-in-Bus-clause-rest
returns-in-Bus-clause-rest c =
    let code = constant_byte c.args.lookups.now in
    let s = core_state c.args.self.now in
    let P : Plan → Type 0 = λ p. IsPlan p s (file_state c.start-plan.new.self.regs) (planned_turn code s) in
    let half = half_turn code s _ c.in-Bus.pending (file_state c.start-plan.new.self.regs) (subst P c.in-Bus.is c.start-plan.ensures.plan) in
    c.next-reply.ensures.rest c.in-Bus.pending.access
    ∙ (ap (λ (rs : List ℕ). replies_past (Some c.in-Bus.pending.access) rs) c.start-plan.ensures.replies
    ∙ ap (λ (d : Option Access). replies_past d c.args.self.now.replies) (sym half.asks))

pub returns-in-Bus-clause-started : goal.returns-in-Bus-clause-started
returns-in-Bus-clause-started c = started_on (constant_byte c.args.lookups.now) c.args.self.now c.start-plan.new.self c.end.new.r c.next-reply.new.self c.start-plan.ensures.started
