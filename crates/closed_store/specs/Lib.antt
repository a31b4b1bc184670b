pub mod Counting
pub mod Filling
pub mod Joins
