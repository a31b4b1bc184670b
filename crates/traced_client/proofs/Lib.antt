pub mod Following
pub mod Rows
