pub mod Listing
pub mod Reading
pub mod Fronts
pub mod LogText
pub mod IsLog
pub mod Pages
pub mod Grouping
