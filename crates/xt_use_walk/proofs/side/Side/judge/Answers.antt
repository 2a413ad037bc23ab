use Rattle.std.proofs.Common.{◌≡◌, ◌+◌, ◌-◌, ◌||◌, refl, ap, arith}
use Rattle.xt_map.specs.Memory.{constant_byte}
use Rattle.xt_frames.specs.SaveAreas.{is_live}
use Rattle.xt_discipline.specs.ByteMarks.{either}
use Rattle.xt_uses.specs.Words.{all_bits}
use Rattle.xt_uses.specs.UseWalk.{count_of, mask_stored}
use Rattle.xt_use_walk.specs.declared.side.Side.{Side}
use Rattle.xt_use_walk.specs.MaskedBytes.{without}
use Rattle.xt_use_walk.specs.Sides.{live_in}
use Rattle.xt_uses.specs.UseState.{stack_pointer}
use Rattle.xt_use_walk.proofs.Following.{knows_stored}
use Rattle.xt_use_walk.proofs.Forgetting.{knows_unmoved}
use Rattle.xt_use_walk.proofs.Moving.{follows_same, stands_same}
use Rattle.xt_use_walk.proofs.Seen.{found_by, judged_past}
use Rattle.xt_use_walk.proofs.side.Side.judge.Goals as goal

pub returns-then-quick-clause-seen : goal.returns-then-quick-clause-seen
returns-then-quick-clause-seen c others masks known =
    let s = c.args.self.now in
    let code = constant_byte c.args.code.now in
    let rec = c.args.rec.now in
    let nested = c.args.nested in
    let uses = c.quick.new.self in
    let own = live_in s.uses in
    let g = s.uses.state.frame in
    let u = uses.state.frame in
    let touched = c.touched-touched.ensures.touched s.core own others masks known in
    let past = c.quick.ensures.judged c.if-quick.true (either own others) masks touched in
    let still = c.quick.ensures.still c.if-quick.true in
    let store = c.store.ensures in
    let middle = knows_stored s.core c.args.bytes.now c.store.new.self own others masks all_bits rec.access known store.full store.marks store.masks in
    let bytes = follows_same s.core s.uses.bounds.range g u c.store.new.self (stands_same s.uses.bounds.range g u still.frames (λ some. ap (λ n. n - 16) still.sp)) others (without (λ a. own a || others a) (mask_stored all_bits rec.access masks)) middle in
    let new : Side = record s { uses = uses; phase = c.args.next; steps = s.steps + 1 } in
    let gone = knows_unmoved s.core c.store.new.self (is_live s.uses.bounds.range u) others _ uses.state (stack_pointer s.uses.state) still.sp bytes in
    let none : s.carried ≡ s.carried + 0 = omega arith in
    judged_past s new uses c.store.new.self others masks code rec (found_by s others masks code nested rec) tt nested c.args.next all_bits 0 c.requires.next c.requires.side past.0 past.1 past.2.stores (ap count_of past.2.unknown) (omega arith)
    (ap (λ n. record s { uses = uses; phase = c.args.next; steps = s.steps + 1; carried = n }) none) (stack_pointer s.uses.state) refl gone
