pub mod Owners
pub mod Passes
pub mod Posts
pub mod Shows
pub mod Tries
pub mod TryLaws
pub mod Unlocks
