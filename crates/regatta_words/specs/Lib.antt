pub mod Forms
pub mod Meanings
pub mod Senders
pub mod Sentences
pub mod WordsText
