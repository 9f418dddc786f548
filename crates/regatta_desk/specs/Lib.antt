pub mod Receipts
pub mod Passes
pub mod Desks
pub mod Offices
pub mod Replies
