pub mod Tracing
pub mod Bare
pub mod Forgetting
