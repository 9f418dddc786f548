pub mod Agreed
pub mod AgreedOnList
pub mod InPlace
pub mod LineFacts
pub mod ListedOnce
pub mod PlaceFacts
pub mod RowFacts
