-- The lemmas of this crate, in an order to read them in: each file stands on those above it alone.

-- The words of a script are plain: no byte of them is a space, a line feed, or one that can't be printed.
pub mod Shown
-- A script's spelling is read line by line as this script.
pub mod Reading
-- What is read as a script is its spelling.
pub mod Writing
-- The spelling of a script, as it stands in a file.
mod Examples
