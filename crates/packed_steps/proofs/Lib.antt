pub mod Calls
pub mod Replies
pub mod ManyLoop
pub mod Acts
pub mod AnswersAgain
