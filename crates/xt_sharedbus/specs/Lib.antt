-- Note: that a bus's history is legal is no part of its view; `Bus::history` tells it. The rule of
-- the shared queue (`Rule`, `Views`, `Halves`) carries the proof of `close`; nobody need believe
-- it.
pub mod Views
pub mod Rule
pub mod QueueLaws
pub mod SeatState
pub mod Seats
pub mod Halves
