use Rattle.std.proofs.Common.{◌≡◌, ◌+◌, ◌<◌, length, refl, sym, subst, ap, ◌∙◌, arith}
use Rattle.xt_core.specs.Positions.{schedule_in}
use Rattle.xt_replay.specs.declared.replay.Replay.TheInside.{Inside}
use Rattle.xt_replay.specs.ReplayFields.{IsKept}
use Rattle.xt_replay.specs.Shown.{ReplayState}
use Rattle.xt_replay.proofs.Inside.{end_most, kept_on, one_turn, room_for, zero_turn}
use Rattle.xt_replay.proofs.replay.Replay.step.Goals as goal
use Rattle.xt_replay.proofs.replay.Replay.step.Goals.{then-next_of-eq0, else-next_of-eq0}

on : (b : Inside) (s : ReplayState) → ◌≡◌ {A = ReplayState} (record { image = b.image.now; run = b.run.now; position = b.position }) s → s.position < length (schedule_in s.run)
    → b.position < length (schedule_in b.run.now)
on b s e h = let F : ReplayState → Type 0 = λ x. x.position < length (schedule_in x.run) in subst F (sym e) h

pub give0-requires-clause-left : goal.give0-requires-clause-left
give0-requires-clause-left c =
    (zero_turn c.self.inside c.self.invariant (on c.self.inside c.args.self.now c.self.view_is c.requires) (sym c.next_of.ensures ∙ c.if-next_of-eq0.true)).may.left

pub give0-requires-clause-room : goal.give0-requires-clause-room
give0-requires-clause-room c =
    room_for c.self.inside 0 c.self.invariant
    (zero_turn c.self.inside c.self.invariant (on c.self.inside c.args.self.now c.self.view_is c.requires) (sym c.next_of.ensures ∙ c.if-next_of-eq0.true))

pub give0-requires-clause-steps : goal.give0-requires-clause-steps
give0-requires-clause-steps c =
    let t = zero_turn c.self.inside c.self.invariant (on c.self.inside c.args.self.now c.self.view_is c.requires) (sym c.next_of.ensures ∙ c.if-next_of-eq0.true) in
    omega (arith, t.may.made0)

pub give0-requires-clause-used : goal.give0-requires-clause-used
give0-requires-clause-used c =
    let t = zero_turn c.self.inside c.self.invariant (on c.self.inside c.args.self.now c.self.view_is c.requires) (sym c.next_of.ensures ∙ c.if-next_of-eq0.true) in
    omega (arith, t.may.used)

pub give1-requires-clause-left : goal.give1-requires-clause-left
give1-requires-clause-left c =
    (one_turn c.self.inside c.self.invariant (on c.self.inside c.args.self.now c.self.view_is c.requires) (λ e. c.if-next_of-eq0.false (c.next_of.ensures ∙ e))).may.left

pub give1-requires-clause-room : goal.give1-requires-clause-room
give1-requires-clause-room c =
    room_for c.self.inside 1 c.self.invariant
    (one_turn c.self.inside c.self.invariant (on c.self.inside c.args.self.now c.self.view_is c.requires) (λ e. c.if-next_of-eq0.false (c.next_of.ensures ∙ e)))

pub give1-requires-clause-steps : goal.give1-requires-clause-steps
give1-requires-clause-steps c =
    let t = one_turn c.self.inside c.self.invariant (on c.self.inside c.args.self.now c.self.view_is c.requires) (λ e. c.if-next_of-eq0.false (c.next_of.ensures ∙ e)) in
    omega (arith, t.may.made1)

pub give1-requires-clause-used : goal.give1-requires-clause-used
give1-requires-clause-used c =
    let t = one_turn c.self.inside c.self.invariant (on c.self.inside c.args.self.now c.self.view_is c.requires) (λ e. c.if-next_of-eq0.false (c.next_of.ensures ∙ e)) in
    omega (arith, t.may.used)

pub overflow_add-self : goal.overflow_add-self
overflow_add-self c =
    let most = end_most c.self.inside c.self.invariant in
    let within = c.self.invariant.within in
    elim c.if-next_of-eq0.branch [
      | then-next_of-eq0 w ↦ omega (arith, most, within, ap (λ (b : Inside). b.position) w.self-inside-is)
      | else-next_of-eq0 w ↦ omega (arith, most, within, ap (λ (b : Inside). b.position) w.self-inside-is)
    ]

pub invariant_of-self : goal.invariant_of-self
invariant_of-self c =
    let b = c.self.inside in
    let more = on b c.args.self.now c.self.view_is c.requires in
    let F : Inside → Type 0 = λ x. IsKept (record x { position = x.position + 1 }) in
    elim c.if-next_of-eq0.branch [
      | then-next_of-eq0 w ↦ subst F (sym w.self-inside-is)
          (kept_on b w.give0.new.self 0 (b.position + 1) c.self.invariant more refl (zero_turn b c.self.invariant more (sym c.next_of.ensures ∙ w.if-next_of-eq0.true)) w.give0.ensures.stand w.give0.ensures.room)
      | else-next_of-eq0 w ↦ subst F (sym w.self-inside-is)
          (kept_on b w.give1.new.self 1 (b.position + 1) c.self.invariant more refl (one_turn b c.self.invariant more (λ e. w.if-next_of-eq0.false (c.next_of.ensures ∙ e))) w.give1.ensures.stand w.give1.ensures.room)
    ]
