-- The commands so far have printed the text and left the position of a script of them alone that
-- goes on, and with what is left they are the whole script.
use Rattle.std.proofs.Common.{◌≡◌, take}
use Rattle.xt_replay.specs.Shown.{replay_at}
use Rattle.xt_command_line.specs.declared.beyond.Beyond.TheVariants.{GoesOn}
use Rattle.xt_debug.specs.Runs.{IsOf}
use Rattle.xt_debug.specs.Scripts.{script_outcome}
use Rattle.xt_debug.proofs.Scripts.{split}
use Rattle.xt_debug.proofs.running.run_script.Given as goal

abbrev pub invariant-loop-command : goal.invariant-loop-command
invariant-loop-command l =
    let r = l.initial.replay in
    let o = script_outcome GoesOn r.image r.run (take l.command-index l.script) r.position in
    record {
      text : l.out.items ≡ o.text;
      replay : l.replay ≡ replay_at r o.position;
      kept : IsOf l.kept r.image r.run;
      whole : script_outcome l.beyond r.image r.run l.script r.position ≡ split l.beyond r.image r.run l.script r.position l.command-index;
    }
