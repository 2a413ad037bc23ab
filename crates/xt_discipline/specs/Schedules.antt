-- The schedule of a run, and when it has one ('profile').
pub use Rattle.xt_trace.specs.Schedule.{schedule_in}
pub use Rattle.xt_trace.specs.Scheduled.{HasSchedule, IsTraceIn}
