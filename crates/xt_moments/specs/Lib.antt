pub mod Moments
pub mod Awaiting
pub mod Outcomes
pub mod Made
pub mod MomentLaws
pub mod WorldLaws
pub mod Forcing
