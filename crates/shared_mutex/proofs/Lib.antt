-- The lemmas of this crate, in an order to read them in: each file stands on those above it alone.

-- A try that was announced and swept.
mod Finishing
-- Why a reader was refused, after whatever step ended its call.
mod Sharing
-- A reader that placed a token and was turned back: why.
mod Turning
