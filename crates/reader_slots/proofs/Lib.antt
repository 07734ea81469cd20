-- The lemmas of this crate.

-- The two slots of a seat, from what the code reads of its pass and of the hall.
mod Placing
