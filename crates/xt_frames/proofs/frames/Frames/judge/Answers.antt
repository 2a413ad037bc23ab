use Rattle.xt_frames.proofs.frames.Frames.judge.Goals as goal

pub returns-then-quick-clause-moves : goal.returns-then-quick-clause-moves
returns-then-quick-clause-moves c = c.quick.ensures.moves c.if-quick.true
