-- Profile: the first leak of a run is found by a walk over its turns, each made once, in the order of
-- the schedule. `Answers` defines the answer by `FirstLeak` of `xt_simulation`, in which the walk plays
-- no part.
pub mod Answers
pub mod SeenWords
pub mod KnownBytes
pub mod Walked
