-- The lemmas of this crate.

-- A sweep as a loop over the slots.
mod Scanning
