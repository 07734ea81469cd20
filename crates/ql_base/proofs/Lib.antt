-- Read Filled and then Pieces, which are about bytes that come and go in several calls; Told is about clocks.

-- a buffer whose front is filled by reads
mod Filled
-- what a clock that goes through a list tells
mod Told
-- a text that is written in pieces
pub mod Pieces
