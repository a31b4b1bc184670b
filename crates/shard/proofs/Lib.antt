pub mod Cuts
pub mod Homed
pub mod Journals
pub mod Rounds
pub mod Short
pub mod UsedMore
pub mod LongAmong
pub mod EventCounts
