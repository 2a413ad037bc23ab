use Rattle.std.proofs.Common.{◌≡◌, ◌<◌, ◌≤◌, ◌+◌, ◌++◌, false, true, length, take, get_or, sym, ap, ◌∙◌, subst, arith}
use Rattle.xt_replay.specs.Shown.{ReplayState, replay_at}
use Rattle.xt_debug.specs.Runs.{IsOf}
use Rattle.xt_command_line.specs.declared.beyond.Beyond.TheVariants.{GoesOn}
use Rattle.xt_debug.specs.declared.script.Command.{Command}
use Rattle.xt_debug.specs.Scripts.{Outcome, after, outcome, script_outcome, stops}
use Rattle.xt_debug.proofs.Scripts.{all_done, ends_here, goes_on, led_beyond, next_command, past}
use Rattle.xt_debug.proofs.running.run_script.Goals as goal

pub loop-command-preserved : goal.loop-command-preserved
loop-command-preserved c =
    let r = c.args.replay.now in
    let cs = c.args.script.now in
    let i = c.loop-command.command-index in
    let here = c.loop-command.replay in
    let o = script_outcome GoesOn r.image r.run (take i cs) r.position in
    let command = c.command-item.result in
    let done = outcome here.image here.run command here.position in
    let same = c.loop-command.invariant.replay in
    let below : i < length cs = omega (arith, c.loop-command-test.true, ap length c.as_slice-command-items.ensures) in
    let whole : script_outcome GoesOn r.image r.run (take (i + 1) cs) r.position ≡ past r.image r.run o (get_or cs i command) = next_command r.image r.run cs i r.position command below in
    let is : done ≡ outcome r.image r.run (get_or cs i command) o.position
    = ap (λ (s : ReplayState). outcome s.image s.run command s.position) same ∙ ap (λ (x : Command). outcome r.image r.run x o.position) c.command-item.is ∙ ap (λ xs. outcome r.image r.run (get_or xs i command) o.position) c.as_slice-command-items.ensures in
    let on : stops c.args.beyond (outcome r.image r.run (get_or cs i command) o.position) ≡ false
    = sym (ap (stops c.args.beyond) is) ∙ sym (c.stops.ensures done c.in_ok-led_beyond.ensures.ran.2) ∙ c.if-stops.false in
    record {
      text = c.in_ok-led_beyond.ensures.ran.0 ∙ ap (λ t. t ++ done.text) c.loop-command.invariant.text ∙ ap (λ (u : Outcome). o.text ++ u.text) is ∙ sym (ap (λ (u : Outcome). u.text) whole);
      replay = c.in_ok-led_beyond.ensures.ran.1 ∙ ap (λ (s : ReplayState). replay_at s done.position) same ∙ ap (λ (u : Outcome). replay_at r u.position) is ∙ sym (ap (λ (u : Outcome). replay_at r u.position) whole);
      kept = subst (λ (s : ReplayState). IsOf c.run_command.new.kept s.image s.run) same c.in_ok-led_beyond.ensures.kept;
      whole = c.loop-command.invariant.whole ∙ goes_on c.args.beyond r.image r.run cs i r.position command below on;
    }

pub returns-then-stops-clause-ran : goal.returns-then-stops-clause-ran
returns-then-stops-clause-ran c =
    let r = c.args.replay.now in
    let cs = c.args.script.now in
    let i = c.loop-command.command-index in
    let here = c.loop-command.replay in
    let o = script_outcome GoesOn r.image r.run (take i cs) r.position in
    let command = c.command-item.result in
    let done = outcome here.image here.run command here.position in
    let there = outcome r.image r.run (get_or cs i command) o.position in
    let same = c.loop-command.invariant.replay in
    let below : i < length cs = omega (arith, c.loop-command-test.true, ap length c.as_slice-command-items.ensures) in
    let is : done ≡ there
    = ap (λ (s : ReplayState). outcome s.image s.run command s.position) same ∙ ap (λ (x : Command). outcome r.image r.run x o.position) c.command-item.is ∙ ap (λ xs. outcome r.image r.run (get_or xs i command) o.position) c.as_slice-command-items.ensures in
    let on : stops c.args.beyond there ≡ true
    = sym (ap (stops c.args.beyond) is) ∙ sym (c.stops.ensures done c.in_ok-led_beyond.ensures.ran.2) ∙ c.if-stops.true in
    let all : script_outcome c.args.beyond r.image r.run cs r.position ≡ after o there
    = c.loop-command.invariant.whole ∙ ends_here c.args.beyond r.image r.run cs i r.position command below on in (
      c.new.ensures ∙ c.in_ok-led_beyond.ensures.ran.0 ∙ ap (λ t. t ++ done.text) c.loop-command.invariant.text ∙ ap (λ (u : Outcome). o.text ++ u.text) is ∙ sym (ap (λ (u : Outcome). u.text) all),
      c.in_ok-led_beyond.ensures.ran.1 ∙ ap (λ (s : ReplayState). replay_at s done.position) same ∙ ap (λ (u : Outcome). replay_at r u.position) is ∙ sym (ap (λ (u : Outcome). replay_at r u.position) all),
      led_beyond c.args.beyond there on ∙ sym (ap (λ (u : Outcome). u.beyond) all),
    )

pub returns-clause-ran : goal.returns-clause-ran
returns-clause-ran c =
    let r = c.args.replay.now in
    let cs = c.args.script.now in
    let i = c.loop-command.command-index in
    let o = script_outcome GoesOn r.image r.run (take i cs) r.position in
    let past_all : length cs ≤ i = omega (arith, c.loop-command-test.false, ap length c.as_slice-command-items.ensures) in
    let all = c.loop-command.invariant.whole ∙ all_done c.args.beyond r.image r.run cs i r.position past_all in (
      c.new-2.ensures ∙ c.loop-command.invariant.text ∙ sym (ap (λ (u : Outcome). u.text) all),
      c.loop-command.invariant.replay ∙ sym (ap (λ (u : Outcome). replay_at r u.position) all),
      sym (ap (λ (u : Outcome). u.beyond) all),
    )
