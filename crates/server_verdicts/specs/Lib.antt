pub mod Begun
pub mod Verdicts
pub mod Taken
pub mod Reaching
pub mod Checks
pub mod Judged
pub mod Rows
