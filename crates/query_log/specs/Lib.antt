pub mod Book
pub mod Ledgers
pub mod Plain
