-- The lemmas of this crate, in an order to read them in: each file stands on those above it alone.

-- The words of a line, kept as slices.
pub mod Words
-- A number of up to 128 bits that digits write, read from the left and read again.
pub mod WideNumbers
-- Words without a space or a line feed, and the words of a line read again.
pub mod Clean
-- A line's words are read again.
pub mod Again
-- Lists are put together from their lines, and from no others.
pub mod Groups
-- Texts taken off the front of bytes, one after the other.
pub mod Strips
-- Bytes that begin with a line, with two, with the lines of a log.
pub mod Front
-- Two lists of the same lines, both in the order of callers and indexes, are one.
pub mod Unique
-- What a log's text determines, and where a text is no log.
pub mod LogLaws
-- A log's script is one that a text determines.
pub mod ScriptLaw
-- The order of lines: by section, then as their spots, and what a section of lines in order keeps.
pub mod Orders
-- The lines of queries and replies by sections, and the texts and totals that they make.
pub mod Sections
-- A log's text, by its spots and by its lines: each gives the other.
pub mod Bridge
