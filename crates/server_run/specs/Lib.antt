pub mod Crowd
pub mod Rooms
pub mod Serve
