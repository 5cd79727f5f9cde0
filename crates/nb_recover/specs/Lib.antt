pub mod Copied
pub mod Copies
pub mod Decisions
pub mod Fails
