pub mod Stores
pub mod Rounds
pub mod Loading
