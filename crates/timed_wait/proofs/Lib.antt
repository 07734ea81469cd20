-- a call that waits: one refused try more, and the one that won or came too late
pub mod Waits
