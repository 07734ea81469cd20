-- The lemmas of this crate, in an order to read them in: each file stands on those above it alone.

-- Where the words of the cargo stand.
mod Places
-- The steps on the words of a cell keep one history.
mod Notes
-- Sums over rows.
pub mod Sums
-- How far it is from row to row.
pub mod Ways
-- What a store of a row makes of the map that the rows mean.
pub mod Tables
-- The stores of a row and of the length.
pub mod Stores
-- What the calls on a cell make of the map that its words mean.
mod Meaning
-- Whoever was refused met somebody, whose footprint a pass of all numbers has in its trail.
mod Meetings
-- Lists of entries, and the cells of a query.
mod Lists
-- Drawing a write, storing its log row and placing a read keep one history.
mod Drawing
-- Telling a refusal keeps one history.
mod Telling
-- What is known at the end: the replies are one legal history.
mod Ended
-- The walks: the search for a key, and for a row that may stand in a gap.
pub mod Walks
-- What the calls on a cell add to the steps.
pub mod Traces
