-- The lemmas of this crate, in an order to read them in: each file stands on those above it alone.

-- Two cells that are held at once.
pub mod Pairs
-- Which step placed a reply, and under which mode.
pub mod Placing
-- What a reply leaves, between the taking of a cell and its giving back.
pub mod Replies
-- Cells that were taken by a try or until a deadline, and such that weren't.
pub mod Taking
-- Two cells that were taken at once: what the pass knows then, and by which steps it came to them.
pub mod TakingTwo
-- The footprints of a query's calls.
pub mod Trails
-- How queries came to their cells: what they tried, what they gained, and in which order.
pub mod Tries
-- A query of two cells: they are taken, it is asked, and they are given back.
pub mod AskingTwo
-- What may be told of one held cell.
pub mod Cells
-- A put that counts the keys.
pub mod Counting
-- A job that the owner of the ledger's lock ran for itself.
pub mod Jobs
-- Cells that were given back, one after the other: the steps lead back to the standings before them.
pub mod LeavingTwo
-- A move from one cell to another.
pub mod Moving
-- Steps that refuse no try: those on the words of the cargo, and one that gives a lock back.
pub mod Quiet
-- Queries that were refused.
pub mod Refusing
-- Queries of one cell: which cell they speak of, in which mode they hold it, and what may be told of it.
pub mod Single
