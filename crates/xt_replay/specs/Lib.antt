pub mod Places
pub mod Shown
pub mod Sides
pub mod Stands
pub mod ReplayFields
-- Profile: the lines of `mem` and `words`; DEBUGGING.md shows them.
pub mod Printed
