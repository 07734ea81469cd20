pub mod Asked
pub mod Placing
pub mod Answers
pub mod Two
pub mod LicenceLaws
