pub mod Copies
pub mod HeaderLaws
pub mod Joins
pub mod ListLaws
pub mod Maps
pub mod Pieces
pub mod Trees
