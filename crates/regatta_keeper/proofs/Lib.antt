pub mod Beginnings
pub mod Books
pub mod Crashed
pub mod KeeperRuns
