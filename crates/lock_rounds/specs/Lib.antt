pub mod Clerks
pub mod Office
pub mod Outside
pub mod Seats
pub mod Tallies
pub mod Works
