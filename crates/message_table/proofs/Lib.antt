pub mod Live
pub mod Sending
