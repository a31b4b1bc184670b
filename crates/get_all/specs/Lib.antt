pub mod ReadProgress
pub mod Reading
pub mod Reader
pub mod AskedPartition
pub mod Finding
pub mod TagSearch
pub mod Finder
