-- The lemmas of this crate, in an order to read them in: each file stands on those above it alone.

-- Maps of cells, kept as a list.
mod Cells
-- One entry more of a ledger's history.
mod Histories
-- Accounts by key: where one stands, and what one more or another balance makes of them.
mod Places
