pub mod Index
pub mod Ordered
pub mod Layout
