pub mod PackedCalls
pub mod Lists
pub mod PackedActs
pub mod PackedAnswers
pub mod Sizes
