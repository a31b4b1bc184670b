pub mod ToldVerdicts
pub mod EndingLaws
pub mod EpochLaws
