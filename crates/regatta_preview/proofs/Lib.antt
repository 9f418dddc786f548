pub mod ChangeFacts
pub mod Refused
pub mod RunFacts
pub mod TalkFacts
