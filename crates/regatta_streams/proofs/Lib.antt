pub mod KnownBytes
pub mod Pieces
pub mod Walks
