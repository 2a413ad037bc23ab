pub mod DecoderAnswers
pub mod Codes
pub mod Encoding
pub mod Fetches
