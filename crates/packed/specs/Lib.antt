pub mod Packing
pub mod Reading
pub mod Sizes
pub mod Cuts
pub mod Laying
pub mod Bodies
