use Rattle.std.proofs.Common.{◌≡◌, ◌<◌, false, Result, Some, sym, ap, ◌∙◌, subst}
use Rattle.xt_map.specs.Memory.{constant_byte}
use Rattle.xt_search.specs.Changed.{contents_of}
use Rattle.xt_exec.specs.Chips.{processor}
use Rattle.xt_exec.specs.State.{State}
use Rattle.xt_outcomes.specs.KeptWorlds.{moved_spot, spot_of}
use Rattle.xt_outcomes.specs.Spots.{Side}
use Rattle.xt_outcomes.proofs.Moving.{moved_first}
use Rattle.xt_judged.specs.Alone.{only_after}
use Rattle.xt_frames.specs.declared.kinds.BreachKind.{BreachKind}
use Rattle.xt_judged.specs.Scenes.{Told, is_idle, seen_at}
use Rattle.xt_judged.specs.declared.record.Known.{Known}
use Rattle.xt_judged.specs.Kept.{bounds0, bounds1, moved_scene, own_of, scene_of}
use Rattle.xt_judged.specs.Seen.{IsKnownPast}
use Rattle.xt_judged.specs.Stales.{renewed}
use Rattle.xt_judged.proofs.Turned.{has_left, leads_past, past_broken, past_known, record_is}
use Rattle.xt_judged.proofs.judging.Judging.turn.Goals as goal

pub returns-in-Ok : goal.returns-in-Ok
returns-in-Ok c =
    let t = c.args.self.now.timed in
    let code = constant_byte t.code in
    let m = t.opening.contents in
    let v = c.args.scene.now in
    let core = c.args.core in
    let old = c.in_ok-changes.changes in
    let new = c.recorded.new.changes in
    let after = c.in_ok-side.side in
    let rec = c.in_ok-side.rec in
    let known = c.in-Ok.known in
    let idle : is_idle core (scene_of m v) ≡ false = sym (c.is_idle.ensures m) ∙ c.if-is_idle.false in
    let before : contents_of m old ≡ contents_of m v.world.changes.value = ap (contents_of m) (c.in_ok-changes.ensures ∙ c.deref.ensures) in
    let is = record_is code core (scene_of m v) c.side.result.now (contents_of m old) rec (c.side.ensures m) before c.in_ok-side.ensures.record in
    let spot =
    moved_first (processor code) t.timed core (spot_of m v.world) c.side.result.now after (contents_of m old) (contents_of m new) (c.side.ensures m) before c.in_ok-side.ensures.side c.in_ok-side.ensures.memory in
    let seen =
    subst (λ (r : Result Known BreachKind). IsKnownPast (own_of core v).frames.bounds v.stale.value (seen_at code (bounds0 v) (bounds1 v) core (scene_of m v) rec) r) c.in-Ok.is (c.in_ok-known.ensures.known m) in
    leads_past code t.timed m core v
    (λ n. moved_scene n core v after new known.standing (renewed v.stale.value known.stale) (only_after core rec.access))
    c.past.result c.past.ensures.scene c.past.ensures.same0 c.past.ensures.same1
    (past_known code t.timed m v core rec known (moved_spot core after (contents_of m new) (spot_of m v.world)) idle is spot seen)

pub recorded-requires-clause-left : goal.recorded-requires-clause-left
recorded-requires-clause-left c =
    let m = c.args.self.now.timed.opening.contents in
    let here = scene_of m c.args.scene.now in
    let idle : is_idle c.args.core here ≡ false = sym (c.is_idle.ensures m) ∙ c.if-is_idle.false in
    subst (λ (s : Side State). 0 < s.left) (sym (c.side.ensures m)) (has_left c.args.core here idle)

pub returns-in-Err : goal.returns-in-Err
returns-in-Err c =
    let t = c.args.self.now.timed in
    let code = constant_byte t.code in
    let m = t.opening.contents in
    let v = c.args.scene.now in
    let core = c.args.core in
    let old = c.in_ok-changes.changes in
    let rec = c.in_ok-side.rec in
    let idle : is_idle core (scene_of m v) ≡ false = sym (c.is_idle.ensures m) ∙ c.if-is_idle.false in
    let before : contents_of m old ≡ contents_of m v.world.changes.value = ap (contents_of m) (c.in_ok-changes.ensures ∙ c.deref.ensures) in
    let is = record_is code core (scene_of m v) c.side.result.now (contents_of m old) rec (c.side.ensures m) before c.in_ok-side.ensures.record in
    let seen =
    subst (λ (r : Result Known BreachKind). IsKnownPast (own_of core v).frames.bounds v.stale.value (seen_at code (bounds0 v) (bounds1 v) core (scene_of m v) rec) r) c.in-Err.is (c.in_ok-known.ensures.known m) in
    leads_past code t.timed m core v
    (λ n. let told : Told = record { core = core; pc = rec.pc; kind = c.in-Err.kind } in record (scene_of n v) { breach = Some told })
    c.with_breach-in-Err.result c.with_breach-in-Err.ensures.scene c.with_breach-in-Err.ensures.same0 c.with_breach-in-Err.ensures.same1
    (past_broken code t.timed m v core rec c.in-Err.kind idle is seen)
