pub mod Holding
pub mod Refused
pub mod Tries
