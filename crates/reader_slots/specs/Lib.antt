pub mod Deferring
