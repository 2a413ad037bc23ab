use Rattle.std.proofs.Common.{refl}
use Rattle.xt_discipline.specs.Verdicts.{opened0, opened1}
use Rattle.xt_debug.specs.declared.frame_walk.Course.TheVariants.{Ended, Lost}
use Rattle.xt_debug.proofs.FrameWalking.{goes_on, room_on, stands_after, stays_lost, stopped}
use Rattle.xt_debug.proofs.frame_walk.step.Goals as goal

pub turn-requires-clause-known : goal.turn-requires-clause-known
turn-requires-clause-known g c =
    let (image, r, p, turn, s) = c.requires.stands in
    let h = goes_on c.args.walk.now image r p (g.R.Records.left c.args.records0.now) (g.R.Records.left c.args.records1.now) c.args.course c.in-GoesOn.is s in
    ((opened0 image r.options).bounds, (opened1 r.options).bounds, h.known, h.knows)

pub turn-requires-clause-room : goal.turn-requires-clause-room
turn-requires-clause-room g c =
    let (image, r, p, turn, s) = c.requires.stands in
    let xs = g.R.Records.left c.args.records0.now in
    let ys = g.R.Records.left c.args.records1.now in
    room_on c.args.walk.now image r p c.args.core xs ys turn (goes_on c.args.walk.now image r p xs ys c.args.course c.in-GoesOn.is s)

pub returns-in-GoesOn : goal.returns-in-GoesOn
returns-in-GoesOn g c image r p turn s =
    let xs = g.R.Records.left c.args.records0.now in
    let ys = g.R.Records.left c.args.records1.now in
    let h = goes_on c.args.walk.now image r p xs ys c.args.course c.in-GoesOn.is s in
    stands_after c.args.walk.now c.turn.new.self image r p c.args.core xs ys (g.R.Records.left c.turn.new.records0) (g.R.Records.left c.turn.new.records1) c.turn.result c.course_of.result c.course_of.ensures turn h
    (c.turn.ensures.turned (opened0 image r.options).bounds (opened1 r.options).bounds h.known h.knows) c.turn.ensures.ended

pub returns-in-Ended : goal.returns-in-Ended
returns-in-Ended g c image r p turn s =
    let xs = g.R.Records.left c.args.records0.now in
    let ys = g.R.Records.left c.args.records1.now in
    stopped c.args.walk.now image r p c.args.core xs ys xs ys c.args.course Ended c.in-Ended.is refl turn s

pub returns-in-Lost : goal.returns-in-Lost
returns-in-Lost g c image r p turn s =
    let xs = g.R.Records.left c.args.records0.now in
    let ys = g.R.Records.left c.args.records1.now in
    stays_lost c.args.walk.now image r p c.args.core xs ys xs ys c.args.course Lost c.in-Lost.is refl turn s
