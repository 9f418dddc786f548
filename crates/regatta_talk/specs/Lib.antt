pub mod HeardLines
pub mod Laws
pub mod Replies
