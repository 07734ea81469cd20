-- The lemmas of this crate, in an order to read them in: each file stands on those above it alone.

-- What an owner that has just won the lock knows of the value, and what a close knows.
pub mod Finds
-- The owner has put the value back.
pub mod Hands
-- A pass that polls its own status again and again.
pub mod Waits
-- A pass that takes the lock for one job.
pub mod Combines
-- What the last of a pass's tries was refused with.
pub mod Faults
-- The rule of a distributed lock says what specs/Shows.antt has in plain words.
pub mod Shown
-- The steps of an unlock, put together.
pub mod Unlocking
-- An owner that runs the job of the next node.
pub mod Running
-- A pass that has posted a job, and how the job is answered.
pub mod Answering
