use Rattle.std.proofs.Common.{◌≡◌, ◌∙◌, false, sym, ap, subst}
use Rattle.xt_map.specs.Memory.{constant_byte}
use Rattle.xt_map.specs.Fetching.{fetch_at}
use Rattle.xt_exec.specs.State.{State}
use Rattle.xt_exec.specs.States.{file_state}
use Rattle.xt_secret_walk.specs.declared.masks.CoreMasks.{CoreMasks}
use Rattle.xt_secret_walk.specs.SeenWords.{knowledge_of, seen_of}
use Rattle.xt_moments.specs.Moments.{with_special}
use Rattle.xt_moments.specs.MomentLaws.{IsMomentKnown, entered_known, enters, moment_known}
use Rattle.xt_moments.specs.WorldLaws.{begun}
use Rattle.xt_moment_search.specs.KnownCores.{IsSeen, core_of, insn_of, moment_known_of, reads_lost}
use Rattle.xt_moment_search.specs.Sides.{KnownCore}
use Rattle.xt_moment_search.specs.Turned.{IsTurnedFrom}
use Rattle.xt_moment_search.proofs.TurnedCores.{turned_from}
use Rattle.xt_moment_search.proofs.ground.Ground.turned.Goals as goal

pub returns-clause-turned : goal.returns-clause-turned
returns-clause-turned c =
    let g = c.args.self.now in
    let code = constant_byte g.code in
    let opening = g.opening.contents in
    let cleared = g.cleared.contents in
    let s = file_state c.with_register-begun.result in
    let old = c.args.side.now in
    let new = c.past.result in
    let b = c.args.bytes.now in
    let d = c.serve.new.bytes in
    let x = c.make_turn-record.result in
    let u = file_state c.make_turn-record.new.regs in
    let executed = c.executed_by-executed.result in
    let reply = c.reply_mask-reply.result in
    let base = c.base.result in
    let masks : c.side.inside.masks ≡ old.masks = ap (λ (k : KnownCore). k.masks) c.side.view_is in
    let same : s ≡ begun 0 (core_of old) =
    c.with_register-begun.ensures.state ∙ ap (λ (k : KnownCore). with_special 234 0 k.state) c.side.view_is in
    let Learnt : CoreMasks → Type 0 = λ m. (t : State) → IsSeen m t executed → reads_lost m executed ≡ false
    → IsMomentKnown (moment_known_of m)
    → moment_known_of c.learned-masks.result ≡ moment_known (insn_of executed) x.write base reply (moment_known_of m) t in
    let ps : c.ps_fields.result ≡ s.control.ps = c.ps_fields.ensures.value in
    subst (λ (t : State). IsTurnedFrom code opening cleared t old new b d) same
    (turned_from code opening cleared s old new b d x u c.seen_at-found.result executed reply
    c.stored_in.result c.register-before.result c.armed_in.result base (record {
      going = sym (ap (λ (k : KnownCore). k.stopped) c.side.view_is) ∙ c.if-side.false;
      turned = c.make_turn-record.ensures.turn;
      found = c.seen_at-found.ensures.seen
          ∙ ap (λ (m : CoreMasks). seen_of (fetch_at code s.control.pc) (knowledge_of m) s) masks;
      good = c.seen_at-found.ensures.good;
      reply_is = c.reply_mask-reply.ensures;
      executed_is = c.executed_by-executed.ensures.value;
      uses = sym c.is_known.ensures ∙ c.if-not-is_known.false;
      stored_are = c.stored_in.ensures;
      held = c.in_ok-serve.ensures.held;
      bytes = c.in_ok-serve.ensures.hidden;
      memory = c.in_ok-serve.ensures.memory;
      base_is = c.base.ensures.value;
      kept = subst (λ (m : CoreMasks). reads_lost m c.seen_at-found.result ≡ false) masks
          (sym c.reads_lost.ensures ∙ c.if-reads_lost.false);
      learnt = λ t was kept k. ap (λ (m : CoreMasks). moment_known_of m) c.past.ensures.masks
          ∙ (c.enter.ensures
          ∙ (λ i. entered_known (enters x.kind (ps i)) (subst Learnt masks c.learned-masks.ensures t was kept k i)));
      before_is = c.register-before.ensures;
      armed_is = c.armed_in.ensures;
      state = c.past.ensures.state;
      shaped = c.past.ensures.shaped;
      arms_too = c.past.ensures.armed;
      stops = c.past.ensures.stopped ∙ c.stops-stopped.ensures;
    }))
