pub mod Listing
pub mod Placed
