pub mod Texts
pub mod Records
pub mod KeyLoop
pub mod Pieces
pub mod Words
pub mod BodyParts
pub mod KeysIn
