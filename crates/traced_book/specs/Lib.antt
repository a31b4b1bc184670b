pub mod Entering
pub mod Forgetting
pub mod Bare
pub mod Kept
pub mod Traced
