use Rattle.std.proofs.Common.{◌≡◌, ℕ, List, Option, Some, sym, ap, ◌∙◌, subst}
use Rattle.xt_map.specs.declared.access.Access.{Access}
use Rattle.xt_map.specs.Memory.{constant_byte}
use Rattle.xt_trace.specs.Traces.{replies_past, reply_for}
use Rattle.xt_window.specs.Values.{WindowState}
use Rattle.xt_exec.specs.declared.regs.Regs.{Regs}
use Rattle.xt_exec.specs.States.{file_state}
use Rattle.xt_exec.specs.Halves.{IsPlan}
use Rattle.xt_exec.specs.Turn.{demand, planned_turn}
use Rattle.xt_exec.specs.declared.plans.Plan.{Plan}
use Rattle.xt_core.specs.Turns.{IsHalf}
use Rattle.xt_core.proofs.Cursors.{half_step}
use Rattle.xt_core.proofs.Turning.{half_turn}
use Rattle.xt_use_shadow.specs.declared.cores.UseShadow.{UseShadow}
use Rattle.xt_use_shadow.specs.Shadows.{core_state}
use Rattle.xt_use_shadow.proofs.Making.{asked_regs, asked_replies, made_access, spared_none, spared_some, started_asked, started_on, started_sp}
use Rattle.xt_use_shadow.proofs.cores.UseShadow.next.Goals as goal

pub returns-in-Done-clause-turn : goal.returns-in-Done-clause-turn
returns-in-Done-clause-turn c =
    let code = constant_byte c.args.lookups.now in
    let s = core_state c.args.self.now in
    let P : Plan → Type 0 = λ p. IsPlan p s (file_state c.start-plan.new.self.regs) (planned_turn code s) in
    let local = c.local_turn.ensures code s c.head_of-head.ensures.value (subst P c.in-Done.is c.start-plan.ensures.plan) in
    local.turn (reply_for (demand code s) c.args.self.now.replies)

pub returns-in-Done-clause-rest : goal.returns-in-Done-clause-rest
returns-in-Done-clause-rest c =
    let code = constant_byte c.args.lookups.now in
    let s = core_state c.args.self.now in
    let P : Plan → Type 0 = λ p. IsPlan p s (file_state c.start-plan.new.self.regs) (planned_turn code s) in
    let local = c.local_turn.ensures code s c.head_of-head.ensures.value (subst P c.in-Done.is c.start-plan.ensures.plan) in
    c.start-plan.ensures.replies ∙ sym (ap (λ (d : Option Access). replies_past d c.args.self.now.replies) local.asks_nothing)

pub returns-in-Done-clause-started : goal.returns-in-Done-clause-started
returns-in-Done-clause-started c = started_on (constant_byte c.args.lookups.now) c.args.self.now c.start-plan.new.self c.local_turn.new.r c.start-plan.new.self.replies c.start-plan.ensures.started

pub returns-in-Done-clause-spared : goal.returns-in-Done-clause-spared
returns-in-Done-clause-spared c = λ e.
    let code = constant_byte c.args.lookups.now in
    let s = core_state c.args.self.now in
    let t = file_state c.local_turn.new.r in
    let P : Plan → Type 0 = λ p. IsPlan p s (file_state c.start-plan.new.self.regs) (planned_turn code s) in
    let local = c.local_turn.ensures code s c.head_of-head.ensures.value (subst P c.in-Done.is c.start-plan.ensures.plan) in
    spared_none c.args.bytes.now c.local_turn.result.access (made_access code s t 0 c.local_turn.result (local.turn 0) ∙ local.asks_nothing)

pub ask-requires : goal.ask-requires
ask-requires c =
    let code = constant_byte c.args.lookups.now in
    let s = core_state c.args.self.now in
    let P : Plan → Type 0 = λ p. IsPlan p s (file_state c.start-plan.new.self.regs) (planned_turn code s) in
    let half = half_turn code s _ c.in-Bus.pending (file_state c.start-plan.new.self.regs) (subst P c.in-Bus.is c.start-plan.ensures.plan) in
    record {
      sp = started_sp code c.args.self.now c.start-plan.new.self c.requires.inside c.start-plan.ensures.started;
      full = c.requires.full;
      served = half.mapped;
    }

pub returns-in-Bus-clause-turn : goal.returns-in-Bus-clause-turn
returns-in-Bus-clause-turn c =
    let code = constant_byte c.args.lookups.now in
    let s = core_state c.args.self.now in
    let mid : UseShadow = c.start-plan.new.self in
    let p = c.in-Bus.pending in
    let new = c.ask.new.self in
    let regs : new.regs ≡ mid.regs = asked_regs c.args.bytes.now p.access mid new c.ask.ensures in
    let P : Plan → Type 0 = λ p. IsPlan p s (file_state c.start-plan.new.self.regs) (planned_turn code s) in
    let half : IsHalf code s (core_state mid) p = half_turn code s _ c.in-Bus.pending (file_state c.start-plan.new.self.regs) (subst P c.in-Bus.is c.start-plan.ensures.plan) in
    let here : IsHalf code s (core_state new) p = subst (λ (r : Regs WindowState). IsHalf code s (file_state r) p) (sym regs) half in
    half_step code s (core_state new) p c.next-reply.result c.args.self.now.replies _ here (c.end.ensures code)
    (c.next-reply.ensures.reply p.access
    ∙ ap (λ (rs : List ℕ). reply_for (Some p.access) rs) (asked_replies c.args.bytes.now p.access mid new c.ask.ensures ∙ c.start-plan.ensures.replies))

pub returns-in-Bus-clause-rest : goal.returns-in-Bus-clause-rest
returns-in-Bus-clause-rest c =
    let code = constant_byte c.args.lookups.now in
    let s = core_state c.args.self.now in
    let mid : UseShadow = c.start-plan.new.self in
    let p = c.in-Bus.pending in
    let new = c.ask.new.self in
    let P : Plan → Type 0 = λ p. IsPlan p s (file_state c.start-plan.new.self.regs) (planned_turn code s) in
    let half = half_turn code s _ c.in-Bus.pending (file_state c.start-plan.new.self.regs) (subst P c.in-Bus.is c.start-plan.ensures.plan) in
    c.next-reply.ensures.rest p.access
    ∙ (ap (λ (rs : List ℕ). replies_past (Some p.access) rs) (asked_replies c.args.bytes.now p.access mid new c.ask.ensures ∙ c.start-plan.ensures.replies)
    ∙ ap (λ (d : Option Access). replies_past d c.args.self.now.replies) (sym half.asks))

pub returns-in-Bus-clause-started : goal.returns-in-Bus-clause-started
returns-in-Bus-clause-started c =
    let code = constant_byte c.args.lookups.now in
    let old = c.args.self.now in
    let s = core_state old in
    let mid : UseShadow = c.start-plan.new.self in
    let p = c.in-Bus.pending in
    let new = c.ask.new.self in
    let P : Plan → Type 0 = λ p. IsPlan p s (file_state c.start-plan.new.self.regs) (planned_turn code s) in
    let half = half_turn code s _ c.in-Bus.pending (file_state c.start-plan.new.self.regs) (subst P c.in-Bus.is c.start-plan.ensures.plan) in
    started_on code old new c.end.new.r c.next-reply.new.self (started_asked code c.args.bytes.now p.access old mid new c.start-plan.ensures.started half.unchanged c.ask.ensures)

pub returns-in-Bus-clause-spared : goal.returns-in-Bus-clause-spared
returns-in-Bus-clause-spared c = λ e.
    let code = constant_byte c.args.lookups.now in
    let s = core_state c.args.self.now in
    let mid : UseShadow = c.start-plan.new.self in
    let p = c.in-Bus.pending in
    let P : Plan → Type 0 = λ p. IsPlan p s (file_state c.start-plan.new.self.regs) (planned_turn code s) in
    let half = half_turn code s _ c.in-Bus.pending (file_state c.start-plan.new.self.regs) (subst P c.in-Bus.is c.start-plan.ensures.plan) in
    let rec = c.end.result in
    spared_some c.args.bytes.now rec.access (demand code s) p.access
    (made_access code s _ (reply_for (demand code s) c.args.self.now.replies) rec (returns-in-Bus-clause-turn c)) half.asks (c.ask.ensures.spared e)
