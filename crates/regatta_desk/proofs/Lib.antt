pub mod Telling
pub mod Watching
pub mod Running
pub mod Seats
