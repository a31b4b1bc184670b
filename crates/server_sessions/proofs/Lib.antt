pub mod SeatsGiven
pub mod ToldOf
pub mod InTurn
mod Unread
pub mod Freed
pub mod KeptGiven
pub mod Greeting
pub mod Received
