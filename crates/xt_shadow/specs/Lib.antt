-- Profile: the judge of a run of an image, beside the processor that makes its turns again.
pub mod InStep
pub mod Lookups
pub mod Quiet
pub mod Shadows
