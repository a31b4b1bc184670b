pub mod Outcomes
pub mod Listening
pub mod Counts
pub mod ToldLines
