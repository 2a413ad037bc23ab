use Rattle.std.proofs.lemmas.List.{get_or_default}
use Rattle.xt_image.proofs.Overlapping.{no_pair, no_pair_at_all, pair_found}
use Rattle.xt_elf.specs.declared.fault.ElfFault.TheVariants.{Overlap}
use Rattle.xt_elf.specs.Rules.{do_overlap}
use Rattle.xt_elf.proofs.Overlapping.{apart_at_front}
use Rattle.xt_elf.proofs.rules.overlap_fault.Goals as goal

pub returns-in-Some : goal.returns-in-Some
returns-in-Some c = pair_found do_overlap Overlap c.args.headers.now c.loop-j.j c.in-Some.i _ _ c.loop-j-test.true (get_or_default c.args.headers.now c.loop-j.j _ _ c.loop-j-test.true) c.in-Some.ensures c.loop-j.invariant

pub loop-j-preserved : goal.loop-j-preserved
loop-j-preserved c = no_pair do_overlap Overlap c.args.headers.now c.loop-j.j _ _ c.loop-j-test.true (get_or_default c.args.headers.now c.loop-j.j _ _ c.loop-j-test.true) c.in_default.ensures c.loop-j.invariant

pub returns : goal.returns
returns c = no_pair_at_all do_overlap Overlap c.args.headers.now c.loop-j.j _ c.loop-j-test.false c.loop-j.invariant

pub loop-j-init : goal.loop-j-init
loop-j-init c = apart_at_front c.args.headers.now c.args.apart c.requires.within c.requires.apart
