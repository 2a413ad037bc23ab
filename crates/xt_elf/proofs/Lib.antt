mod Walk
mod Overlapping
mod OneRegion
mod First
mod Passed
mod WellFormed
mod Loaded
mod Rows
