-- The lemmas of this crate.

-- The own lists at worked examples: each holds by computation.
mod Examples
