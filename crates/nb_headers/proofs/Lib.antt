pub mod Digits
pub mod Entries
pub mod HeaderFacts
pub mod OutgoingLaws
pub mod Walks
