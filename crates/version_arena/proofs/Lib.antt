mod Blocks
mod Emptying
mod Rows
mod Forgetting
mod LiveCells
mod Places
mod Threading
mod Stripes
