pub mod Evaluating
pub mod FewReads
pub mod LogsSound
pub mod Merging
