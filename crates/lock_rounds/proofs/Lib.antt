-- The lemmas of this crate.

-- How many jobs ran on a lock's value, counted by the closing pass's list.
pub mod Ran
