pub mod Answers
pub mod Bytes
pub mod Causes
pub mod Listed
pub mod Memory
