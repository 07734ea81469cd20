-- The lemmas of this crate, in an order to read them in: each file stands on those above it alone.

-- What the replies to a soak sum up to, one caller and one reply at a time.
pub mod Left
-- The soak's script, made one caller and one query at a time.
pub mod Made
