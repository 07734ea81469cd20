-- The lemmas of this crate.

-- Whom the lock shown lists, and what follows for a reader that enters.
mod Shown
