pub mod RunAnswers
pub mod CellAnswers
pub mod SimAnswers
pub mod Served
pub mod Statuses
