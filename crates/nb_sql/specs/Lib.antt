pub mod Files
pub mod Held
pub mod Laws
pub mod Meaning
pub mod Refusals
pub mod Shown
pub mod Statements
