pub mod Calls
pub mod Faults
pub mod Foreigns
pub mod Tapes
pub mod Texts
