pub mod Answered
mod BothSlots
pub mod Changing
mod Committed
mod Cutting
mod Discarding
mod Dropping
mod Falling
mod Finding
mod Holding
mod Inserting
mod Latest
mod Leaving
pub mod Listing
mod Marking
pub mod MarkingListed
mod Merging
pub mod Neighbours
pub mod Opening
mod Others
mod Paths
pub mod Picking
pub mod Places
mod Removing
pub mod Replacing
mod Runs
mod Seeking
pub mod SharedBlock
mod StampParts
mod StoredNodes
pub mod Slots
mod Sums
pub mod Unpacking
mod TwoLists
mod Walks
mod Writing
mod PackedChains
