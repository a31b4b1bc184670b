pub mod Content
pub mod Standing
pub mod Opening
pub mod Running
pub mod Promises
pub mod Memory
pub mod Served
pub mod Stepping
