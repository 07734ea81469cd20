-- The lemmas of this crate, in an order to read them in: each file stands on those above it alone.

-- Facts of each number below a bound.
mod Below
-- How many wants were tried for, so that the steps of their tries have a bound.
mod Counting
-- One want more, and one hold given back.
pub mod Taking
-- A try that was refused after others had won.
mod GivingUp
-- What is so of the locks of two wants is so at each position of their list.
mod Pairs
-- The steps of a wait: each was made for the lock with no mode held there, and none took an announcement back.
mod Patience
