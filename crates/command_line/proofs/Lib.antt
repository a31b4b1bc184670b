pub mod KnownWords
pub mod WordsRead
pub mod OptionsGiven
pub mod TenantNames
