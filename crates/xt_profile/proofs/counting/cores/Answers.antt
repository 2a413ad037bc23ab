use Rattle.xt_profile.specs.Cuts.{AreFresh}
use Rattle.xt_profile.proofs.Closing.{from, one_is, one_within, zero_is, zero_within}
use Rattle.xt_profile.proofs.counting.cores.Goals as goal

pub count_to_cut-requires-clause-fresh : goal.count_to_cut-requires-clause-fresh
count_to_cut-requires-clause-fresh c =
    (c.args.depth, (c.in_ok-tally0.ensures, c.in_ok-tally1.ensures))

pub at_cut-requires-clause-known : goal.at_cut-requires-clause-known
at_cut-requires-clause-known c =
    let image = c.args.image.now in
    let r = c.args.run.now in
    let t0 = c.in_ok-tally0 in
    let t1 = c.in_ok-tally1 in
    let fresh : AreFresh c.args.depth image r t0.tally0 t1.tally1 = (t0.ensures, t1.ensures) in
    let cut = c.in_ok-count_to_cut.ensures c.args.depth fresh in
    (from c.args.depth c.args.image.now.entry, cut.core0.past, cut.core0.tally)

pub at_cut-requires-clause-within : goal.at_cut-requires-clause-within
at_cut-requires-clause-within c =
    let image = c.args.image.now in
    let r = c.args.run.now in
    let t0 = c.in_ok-tally0 in
    let t1 = c.in_ok-tally1 in
    let fresh : AreFresh c.args.depth image r t0.tally0 t1.tally1 = (t0.ensures, t1.ensures) in
    let cut = c.in_ok-count_to_cut.ensures c.args.depth fresh in
    let new = c.count_to_cut.new in
    zero_within c.args.depth c.args.image.now c.args.run.now new.tally0 new.tally1 c.requires.run cut

pub at_cut-requires-2-clause-known : goal.at_cut-requires-2-clause-known
at_cut-requires-2-clause-known c =
    let image = c.args.image.now in
    let r = c.args.run.now in
    let t0 = c.in_ok-tally0 in
    let t1 = c.in_ok-tally1 in
    let fresh : AreFresh c.args.depth image r t0.tally0 t1.tally1 = (t0.ensures, t1.ensures) in
    let cut = c.in_ok-count_to_cut.ensures c.args.depth fresh in
    (from c.args.depth c.args.run.now.options.entry1, cut.core1.past, cut.core1.tally)

pub at_cut-requires-2-clause-within : goal.at_cut-requires-2-clause-within
at_cut-requires-2-clause-within c =
    let image = c.args.image.now in
    let r = c.args.run.now in
    let t0 = c.in_ok-tally0 in
    let t1 = c.in_ok-tally1 in
    let fresh : AreFresh c.args.depth image r t0.tally0 t1.tally1 = (t0.ensures, t1.ensures) in
    let cut = c.in_ok-count_to_cut.ensures c.args.depth fresh in
    let new = c.count_to_cut.new in
    one_within c.args.depth c.args.image.now c.args.run.now new.tally0 new.tally1 c.requires.run cut

pub returns-clause-zero : goal.returns-clause-zero
returns-clause-zero c =
    let image = c.args.image.now in
    let r = c.args.run.now in
    let t0 = c.in_ok-tally0 in
    let t1 = c.in_ok-tally1 in
    let fresh : AreFresh c.args.depth image r t0.tally0 t1.tally1 = (t0.ensures, t1.ensures) in
    let cut = c.in_ok-count_to_cut.ensures c.args.depth fresh in
    let new = c.count_to_cut.new in
    let at = c.in_ok-zero.ensures in
    zero_is c.args.depth c.args.image.now c.args.run.now new.tally0 new.tally1 c.in_ok-zero.zero
    c.requires.run cut at.profile at.cut at.tally at.none

pub returns-clause-one : goal.returns-clause-one
returns-clause-one c =
    let image = c.args.image.now in
    let r = c.args.run.now in
    let t0 = c.in_ok-tally0 in
    let t1 = c.in_ok-tally1 in
    let fresh : AreFresh c.args.depth image r t0.tally0 t1.tally1 = (t0.ensures, t1.ensures) in
    let cut = c.in_ok-count_to_cut.ensures c.args.depth fresh in
    let new = c.count_to_cut.new in
    let at = c.in_ok-one.ensures in
    one_is c.args.depth c.args.image.now c.args.run.now new.tally0 new.tally1 c.in_ok-one.one
    c.requires.run cut at.profile at.cut at.tally at.none
