-- The lemmas of this crate, in an order to read them in: each file stands on those above it alone.

-- The positions of a history's answers are the numbers from the first value's count up to the last value's.
pub mod Positions
-- What a pass has in hand as it posts a job and as it collects the answer.
pub mod Posting
-- What an owner knows of a posted job that it may run: it is a job that is ready, and the value has room for it, also after jobs of the owner's own.
pub mod Rooms
-- An owner that finds a job of the next node, runs it, and has the value in its hand afterwards.
pub mod Finding
