pub mod Books
pub mod KeeperRuns
pub mod Keepers
pub mod Sealing
