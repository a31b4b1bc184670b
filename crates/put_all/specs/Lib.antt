pub mod WriteProgress
pub mod Writing
pub mod Writer
