-- Profile: the discipline of uses of a run of an image, beside the processor that makes its turns again.
pub mod Shadows
pub mod Judging
