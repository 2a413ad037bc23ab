-- Profile: the walk of the judge over an image, a run and two lists of records, in the order of the
-- run's schedule. `ByteMarks`, `Sides` and `Walks` say how the code keeps marks of bytes, and carry
-- its proof.
pub mod ByteMarks
pub mod Sides
pub mod Walks
pub mod Places
pub mod Ended
pub mod Schedules
pub mod Ordered
pub mod Verdicts
pub mod Before
pub mod Phases
