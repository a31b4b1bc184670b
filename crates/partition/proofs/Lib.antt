mod Alone
mod Books
mod Entering
pub mod Once
pub mod OneCell
pub mod Opening
mod Paired
mod Placed
mod Starting
mod PartsAtCut
pub mod Unpacking
mod Counted
mod StandsOf
