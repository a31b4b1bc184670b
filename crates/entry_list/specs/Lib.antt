pub mod PackedEntries
pub mod Sizes
pub mod LentActs
pub mod Raises
pub mod SeatEntries
