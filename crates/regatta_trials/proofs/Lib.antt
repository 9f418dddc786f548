pub mod Changes
pub mod Renamed
pub mod Rooms
