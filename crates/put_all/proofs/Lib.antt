mod CallsLeft
mod CountAwaited
pub mod Awaited
pub mod Ascending
pub mod Steps
pub mod OnePlace
pub mod InOrder
