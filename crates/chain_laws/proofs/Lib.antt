-- The lemmas of this crate, in an order to read them in: each file stands on those above it alone.

-- Where each answer is.
mod Answered
-- In which order answers come.
mod Ordered
