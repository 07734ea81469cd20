-- The lemmas of this crate, in an order to read them in: each file stands on those above it alone.

-- The pieces of a text, taken off one at a time: lines at line feeds, words at spaces.
pub mod Lines
-- Lists of queries.
mod Lists
-- A line of a log, made word by word.
pub mod LogLines
-- The lines of a script, one at a time and by six words.
pub mod Scripts
-- What is wrong with a text, one word at a time.
pub mod Spellings
-- Totals, counted one reply and one list at a time.
mod Tallies
-- The spots of a log's lines: how many there are, and that each has a query and a reply.
pub mod Spots
-- A log's text, by its parts.
pub mod LogTexts
-- The lines of what says a spot, one at a time.
pub mod SpotLines
-- Packed spots stand in the order of what they say.
pub mod PackedOrder
-- How many digits a number has, and digits that are written behind a front.
pub mod DigitCounts
