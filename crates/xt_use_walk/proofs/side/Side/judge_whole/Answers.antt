use Rattle.std.proofs.Common.{◌≡◌, ◌+◌, ◌||◌, Result, Err, refl, sym, ◌∙◌, ap, subst, rules}
use Rattle.xt_map.specs.Memory.{constant_byte}
use Rattle.xt_frames.specs.Breaches.{Bounds}
use Rattle.xt_discipline.specs.ByteMarks.{either}
use Rattle.xt_uses.specs.declared.told.JudgeError.{JudgeError}
use Rattle.xt_uses.specs.UseParts.{UseWalked}
use Rattle.xt_uses.specs.UseWalk.{count_of, mask_stored, use_seen_judged}
use Rattle.xt_use_walk.specs.declared.side.Side.{Side}
use Rattle.xt_use_walk.specs.MaskedBytes.{without}
use Rattle.xt_use_walk.specs.Sides.{IsUseSeen, StackOf, forgets_byte, live_in, standing_of}
use Rattle.xt_frames.specs.SaveAreas.{is_live}
use Rattle.xt_use_walk.proofs.Following.{knows_stored}
use Rattle.xt_use_walk.proofs.Forgetting.{knows_forgotten, low_sp}
use Rattle.xt_use_walk.proofs.Seen.{followed_on, found_by, judged_past, judged_stops, moves_where, past_where, side_goes}
use Rattle.xt_use_walk.proofs.side.Side.judge_whole.Goals as goal

pub returns-in_err-used-clause-seen : goal.returns-in_err-used-clause-seen
returns-in_err-used-clause-seen c others masks known touched =
    let s = c.args.self.now in
    let code = constant_byte c.args.code.now in
    let rec = c.args.rec.now in
    let nested = c.args.nested in
    let e = c.in_err-used.field-0.0 in
    let judged = c.judge.ensures.judged (either (live_in s.uses) others) masks touched in
    let same : c.from_residual.result ≡ Err e = search rules in
    let new : Side = record s { uses = c.judge.new.self } in
    subst (λ (r : Result Unit JudgeError). IsUseSeen s new c.args.bytes.now others masks (use_seen_judged code s.uses.bounds (standing_of s) others masks nested rec) r) (sym same)
    (judged_stops s new c.args.bytes.now others masks code nested rec c.judge.new.self e c.judge.result c.requires.side c.in_err-used.was judged refl)

pub returns-clause-seen : goal.returns-clause-seen
returns-clause-seen c others masks known touched =
    let s = c.args.self.now in
    let code = constant_byte c.args.code.now in
    let rec = c.args.rec.now in
    let nested = c.args.nested in
    let uses = c.judge.new.self in
    let used = c.in_ok-used.used in
    let judged = c.judge.ensures.judged (either (live_in s.uses) others) masks touched in
    let past = past_where (found_by s others masks code nested rec) s.uses uses code s.steps nested rec masks c.judge.result used c.in_ok-used.was judged in
    let moves = moves_where s.uses.state.frame uses.state.frame c.judge.result used c.in_ok-used.was c.judge.ensures.moves in
    let store = c.store.ensures in
    let own = live_in s.uses in
    let middle = knows_stored s.core c.args.bytes.now c.store.new.self own others masks used.stored rec.access known store.full store.marks store.masks in
    let bounds : uses.bounds ≡ s.uses.bounds = ap (λ (w : UseWalked). w.bounds) past.1 in
    let core : uses.core ≡ s.core = ap (λ (w : UseWalked). w.core) past.1 ∙ c.requires.side.core_is in
    let followed = c.follow.ensures.follows s.uses.state.frame moves (subst (λ (b : Bounds). StackOf b s.uses.state.frame) (sym bounds) c.depth-depth.ensures.stack) c.depth-depth.ensures.depth c.newest-call.ensures in
    let bytes = followed_on s.core s.uses.bounds uses.bounds s.uses.state.frame uses.state.frame c.store.new.self c.follow.new.bytes bounds followed others (without (λ a. own a || others a) (mask_stored used.stored rec.access masks)) middle in
    let n = c.count_of.result in
    let new : Side = record s { uses = uses; phase = c.args.next; steps = s.steps + 1; carried = s.carried + n } in
    let sp = c.newest_sp-sp.ensures.value in
    let forget = c.forget.ensures in
    let gone = knows_forgotten s.core c.follow.new.bytes c.forget.new.bytes (is_live s.uses.bounds.range uses.state.frame) others (forgets_byte uses.state c.newest_sp-sp.result) _ bytes forget.full forget.marks forget.masks in
    judged_past s new uses c.forget.new.bytes others masks code rec (found_by s others masks code nested rec) tt nested c.args.next used.stored n c.requires.next c.requires.side past.0 past.1 past.2.stores (c.count_of.ensures.value ∙ ap count_of past.2.unknown) c.count_of.ensures.small refl c.newest_sp-sp.result sp gone

pub follow-requires-clause-side : goal.follow-requires-clause-side
follow-requires-clause-side c =
    let s = c.args.self.now in
    (side_goes s c.judge.new.self (constant_byte c.args.code.now) c.args.nested c.args.rec.now c.args.next c.count_of.result c.args.touched.now c.judge.result c.in_ok-used.used c.requires.side c.in_ok-used.was c.count_of.ensures.small c.requires.touched c.judge.ensures.judged).0

pub forget-requires-clause-side : goal.forget-requires-clause-side
forget-requires-clause-side c =
    let s = c.args.self.now in
    (side_goes s c.judge.new.self (constant_byte c.args.code.now) c.args.nested c.args.rec.now c.args.next c.count_of.result c.args.touched.now c.judge.result c.in_ok-used.used c.requires.side c.in_ok-used.was c.count_of.ensures.small c.requires.touched c.judge.ensures.judged).0

pub forget-requires-clause-low : goal.forget-requires-clause-low
forget-requires-clause-low c =
    let s = c.args.self.now in
    let goes = side_goes s c.judge.new.self (constant_byte c.args.code.now) c.args.nested c.args.rec.now c.args.next c.count_of.result c.args.touched.now c.judge.result c.in_ok-used.used c.requires.side c.in_ok-used.was c.count_of.ensures.small c.requires.touched c.judge.ensures.judged in
    low_sp s.uses.bounds c.judge.new.self.bounds s.uses.state.frame c.newest_sp-sp.result goes.1 c.newest_sp-sp.ensures.stack c.newest_sp-sp.ensures.value
