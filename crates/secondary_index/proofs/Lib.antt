pub mod Ordered
pub mod Members
pub mod Setting
pub mod Telling
pub mod Findings
pub mod Logs
