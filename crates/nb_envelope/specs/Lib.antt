pub mod Lines
pub mod Written
pub mod Inputs
pub mod Spelling
pub mod Cells
pub mod Formats
