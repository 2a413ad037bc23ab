-- Profile: sources and sinks as contracts see them (the traits stand in src/source.rt and
-- src/sink.rt), with std's own statements about readers and writers (`Consumes`, `Appends`,
-- `Keeps`).
-- Note: a source tells the bytes that are left, or tells nothing; a sink likewise. For one that
-- tells nothing, as standard input and output, `Consumes`, `Appends` and `Keeps` hold trivially.
pub mod Causes
pub mod Calls
pub mod Memory
pub mod Standard
pub mod Unread
pub mod Whole
