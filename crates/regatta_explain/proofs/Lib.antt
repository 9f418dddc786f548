pub mod BareTexts
pub mod RowFacts
pub mod SumFacts
pub mod Unlike
pub mod UpTo
pub mod Zips
