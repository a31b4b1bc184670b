pub mod Counting
pub mod ToldKept
pub mod GivenNumbers
pub mod Picked
pub mod Spelled
pub mod Promised
pub mod Histories
