pub mod Ids
pub mod Kinds
pub mod Sample
pub mod Texts
