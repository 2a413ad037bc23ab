pub mod ReadLemmas
pub mod LineCuts
pub mod ReadWeights
pub mod LineWeights
pub mod ParsedLemmas
pub mod SegmentStarts
