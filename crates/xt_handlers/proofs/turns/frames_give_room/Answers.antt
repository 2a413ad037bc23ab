use Rattle.xt_handlers.proofs.Places.{room_from, named_own, saves_own}
use Rattle.xt_handlers.proofs.Witness.{full, full_has_frames, full_has_caller}
use Rattle.xt_handlers.proofs.turns.frames_give_room.Goals as goal

pub returns-clause-room : goal.returns-clause-room
returns-clause-room c = room_from

pub returns-clause-exists : goal.returns-clause-exists
returns-clause-exists c = (full, full_has_frames, full_has_caller)

pub returns-clause-named : goal.returns-clause-named
returns-clause-named c = named_own

pub returns-clause-saves : goal.returns-clause-saves
returns-clause-saves c = saves_own
