pub mod Time
pub mod Alike
pub mod Bare
pub mod TimeLaws
