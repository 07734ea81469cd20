-- The lemmas of this crate, in an order to read them in: each file stands on those above it alone.

-- The soak at worked examples: each holds by computation.
mod Examples
-- Sums over the numbers below a bound, and over lists.
pub mod Sums
-- Entries that name places of a list, where each place is named once: a sum over the list is a sum over the entries.
pub mod Exchange
-- The entries of a history name its writes and its jobs, each once: so there are no more of these than entries.
pub mod Once
-- The queries that the soak asks, and what may be replied to them.
pub mod SoakKinds
-- The maps after additions to sixteen keys of eight cells: how great their values are, how many keys they have, and what their values sum to.
pub mod MapLaws
-- The ledger after gifts of 1 to sixteen accounts: how great a balance is, how many accounts there are, and what they sum to.
pub mod LedgerLaws
-- What the soak's queries are told in any history: an addition is a write, a look a read, and a gift a job.
pub mod Served
-- The soak's queries, one caller after the other, and by their numbers.
pub mod Generated
-- Every history of the soak comes to its summary.
pub mod Law
