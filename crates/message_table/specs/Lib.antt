pub mod Content
pub mod Layout
