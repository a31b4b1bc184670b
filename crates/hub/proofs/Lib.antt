mod Atomic
pub mod Clocked
pub mod Counted
pub mod Entries
pub mod Given
pub mod Operations
pub mod Refusals
mod Single
pub mod Staging
pub mod Replies
pub mod Rooms
mod Behind
mod Started
mod Taking
mod Moved
mod Performed
pub mod Evidence
mod Reported
mod Fresh
mod Ended
mod Done
mod Leaving
mod Deciding
mod Decided
