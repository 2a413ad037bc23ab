use Rattle.std.proofs.Common.{Some, sym, ap, ◌∙◌}
use Rattle.xt_exec.specs.States.{file_state}
use Rattle.xt_map.specs.Fetching.{Fetched}
use Rattle.xt_secret_walk.specs.declared.seen.Seen.{Seen}
use Rattle.xt_secret_walk.specs.SeenWords.{knowledge_of, seen_of}
use Rattle.xt_secret_walk.proofs.making.instruction.Goals as goal

pub returns-in-Insn-clause-seen : goal.returns-in-Insn-clause-seen
returns-in-Insn-clause-seen c =
    ap (λ (x : Seen). Some x) c.seen-seen.ensures.seen
    ∙ sym (ap (λ (f : Fetched). seen_of f (knowledge_of c.args.masks.now) (file_state c.args.regs.now)) c.in-Insn.ensures.fetched.0)

pub returns-in-Fails-clause-seen : goal.returns-in-Fails-clause-seen
returns-in-Fails-clause-seen c =
    sym (ap (λ (f : Fetched). seen_of f (knowledge_of c.args.masks.now) (file_state c.args.regs.now)) c.in-Fails.ensures.fetched)

pub returns-in-Nothing-clause-seen : goal.returns-in-Nothing-clause-seen
returns-in-Nothing-clause-seen c =
    sym (ap (λ (f : Fetched). seen_of f (knowledge_of c.args.masks.now) (file_state c.args.regs.now)) c.in-Nothing.ensures.fetched)
