pub mod Counts
pub mod Kept
pub mod Packed
pub mod Reads
pub mod Refusals
pub mod Spaced
pub mod Spelling
