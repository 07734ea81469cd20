pub mod Guards
pub mod Met
pub mod MetLaws
pub mod Took
pub mod Wants
