pub mod Entries
pub mod Legal
pub mod Rules
pub mod Asking
pub mod Fresh
pub mod Clock
