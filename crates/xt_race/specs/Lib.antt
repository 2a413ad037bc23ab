pub mod Races
pub mod KeptEntries
pub mod Tables
pub mod Found
pub mod Clashes
pub mod Firsts
pub mod RaceTexts
pub mod RaceLaws
