pub mod Locks
pub mod Moves
