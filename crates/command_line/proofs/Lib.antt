-- The lemmas of this crate, in an order to read them in: each file stands on those above it alone.

-- A parse with no fault is one that the command takes.
pub mod Taken
-- What the command is to clap.
pub mod OfProgram
