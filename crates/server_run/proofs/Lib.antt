-- The lemmas of this crate, in an order to read them in: each file stands on those above it alone.

-- A list of queries: those that are done, and the rest.
mod Asking
-- How much of the two quotas and of the hall's words the queries that are left need.
mod Counts
-- Callers that are ready or done, by parts, and what their lists have room for.
mod Crowds
-- How many queries callers have, and how many replies.
mod Numbers
-- The order of a log, and the log itself.
mod Orders
-- The places and the positions of a history fit packed spots.
mod Places
-- What is refused isn't accepted, and what is accepted is a script that can be written.
mod Refusals
-- A soak that ran comes to its totals.
mod Soaked
