pub mod Asking
pub mod Options
pub mod Stops
