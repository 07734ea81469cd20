-- The lemmas of this crate, in an order to read them in: each file stands on those above it alone.

-- The definitions at worked examples: each holds by computation.
mod Examples
-- The table of queries, both ways: a name tells its verb, and a verb with its numbers is the query that has them.
pub mod Table
-- What the lines of a script keep: a script stays one, and its numbers fit.
pub mod Kept
-- Who is alone meets nobody: no reply of one caller lacks a place.
pub mod Licences
-- The number that digits write, read from the left.
mod Numbers
-- The two orders of telling jobs, and one job more.
pub mod Jobs
-- What is said to a query is of the kind that its row allows.
pub mod ReplyKinds
-- What is spelled is read again.
pub mod Spelled
