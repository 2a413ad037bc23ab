pub mod Knowing
pub mod Storing
pub mod Going
pub mod Opened
pub mod Lacking
pub mod MadeTurns
pub mod Turning
pub mod OneAnswer
