-- The lemmas of this crate, in an order to read them in: each file stands on those above it alone.

-- What a hold that was gained at last left elsewhere, and which steps it made.
mod Acquired
-- How many tries there were, and what the clock was asked between them.
mod Counted
-- One try to enter as an attempt, whichever way it ended.
mod Entering
-- Two waits by one clock and deadline, of which the first was in time.
mod InTime
-- An announcement that swept, as the attempts of this crate read it.
mod Swept
-- One try for upgrade as an attempt, whichever way it ended.
mod Tried
