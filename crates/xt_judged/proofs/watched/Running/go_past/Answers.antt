use Rattle.std.proofs.Common.{◌≡◌, ◌<◌, ℕ, length, inl, inr, refl, sym, ap, ◌∙◌, subst}
use Rattle.std.specs.Vec.{vec_len}
use Rattle.xt_map.specs.Memory.{constant_byte}
use Rattle.xt_frames.specs.Walked.{Walked}
use Rattle.xt_outcomes.specs.Dead.{dead_at, has_compare}
use Rattle.xt_judged.specs.Forgotten.{IsFewerJudge}
use Rattle.xt_judged.specs.OwnJudges.{range_of}
use Rattle.xt_judged.specs.Stales.{among}
use Rattle.xt_judged.specs.WatchedKept.{judge_at}
use Rattle.xt_judged.proofs.Compared.{without_compare}
use Rattle.xt_judged.proofs.FewerOrders.{counted, forgot_fewer, judge_with}
use Rattle.xt_judged.proofs.GonePast.{gone_stands}
use Rattle.xt_judged.proofs.LikeJudges.{fewer_without}
use Rattle.xt_judged.proofs.watched.Running.go_past.Goals as goal

pub returns-then-has_compare-clause-stands : goal.returns-then-has_compare-clause-stands
returns-then-has_compare-clause-stands c =
    let masks = c.args.dead.now.masks in
    let j = c.past-2.new.self in
    let w = c.past-2.new.frames in
    let less = judge_with c.forget_dead.new.frames j.phase (among j.stale) j.fate in
    let new = judge_at c.clear_compare.new.self j in
    let some : 0 < length masks.items = subst (λ (n : ℕ). 0 < n) masks.ok.0 (counted (vec_len masks) (sym c.is_empty.ensures ∙ c.if-is_empty.false)) in
    let is : new ≡ without_compare less = ap (λ (x : Walked). judge_at x j) c.clear_compare.ensures in
    gone_stands (constant_byte c.args.code.now) (range_of c.args.other) c.args.core c.args.rec.now masks.items c.args.pc c.args.frames.now w c.args.self.now j new
    c.current_pc-from.result c.has_compare.result c.revives-writes.result c.has_compare-2.result some (c.is_nested.ensures c.if-is_nested.false)
    c.in_ok-past.ensures.judge c.in_ok-past.ensures.stack c.requires.fit c.current_pc-from.ensures (c.reads_dead.ensures c.if-reads_dead.false) c.revives-writes.ensures
    (c.has_compare.ensures ∙ ap has_compare c.at.ensures) (c.has_compare-2.ensures ∙ ap has_compare (c.at-after.ensures ∙ ap (dead_at masks.items) c.current_pc.ensures))
    (sym c.is_lost.ensures ∙ c.if-is_lost.false) refl
    (λ plain.
    inr (
      subst (λ n. IsFewerJudge n (without_compare (judge_at w j))) (sym is) (fewer_without less (judge_at w j) (forgot_fewer w c.forget_dead.new.frames c.forget_dead.ensures plain j.phase (among j.stale) j.fate)),
      c.has_compare-2.ensures ∙ sym c.has_compare-3.ensures ∙ c.if-has_compare.true,
    ))

pub returns-else-has_compare-clause-stands : goal.returns-else-has_compare-clause-stands
returns-else-has_compare-clause-stands c =
    let masks = c.args.dead.now.masks in
    let j = c.past-2.new.self in
    let w = c.past-2.new.frames in
    let f = c.forget_dead.new.frames in
    let some : 0 < length masks.items = subst (λ (n : ℕ). 0 < n) masks.ok.0 (counted (vec_len masks) (sym c.is_empty.ensures ∙ c.if-is_empty.false)) in
    gone_stands (constant_byte c.args.code.now) (range_of c.args.other) c.args.core c.args.rec.now masks.items c.args.pc c.args.frames.now w c.args.self.now j
    (judge_at f j) c.current_pc-from.result c.has_compare.result c.revives-writes.result c.has_compare-2.result some (c.is_nested.ensures c.if-is_nested.false)
    c.in_ok-past.ensures.judge c.in_ok-past.ensures.stack c.requires.fit c.current_pc-from.ensures (c.reads_dead.ensures c.if-reads_dead.false) c.revives-writes.ensures
    (c.has_compare.ensures ∙ ap has_compare c.at.ensures) (c.has_compare-2.ensures ∙ ap has_compare (c.at-after.ensures ∙ ap (dead_at masks.items) c.current_pc.ensures))
    (sym c.is_lost.ensures ∙ c.if-is_lost.false) refl
    (λ plain. inl (forgot_fewer w f c.forget_dead.ensures plain j.phase (among j.stale) j.fate))
