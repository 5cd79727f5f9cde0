pub mod Cells
pub mod Faults
pub mod Mem
pub mod Place
pub mod Plan
pub mod Slots
pub mod Table
