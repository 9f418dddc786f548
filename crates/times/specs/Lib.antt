pub mod Asked
pub mod Complaints
pub mod Runs
pub mod Words
