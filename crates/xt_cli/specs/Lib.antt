-- Profile: STATUS.md lists the statuses and codes. `Orders` says what the words ask for, `Tools`
-- and `Top` what each status says then.
pub mod Orders
pub mod Outcomes
pub mod Tools
pub mod Puts
pub mod Threads
pub mod Top
pub mod Endings
