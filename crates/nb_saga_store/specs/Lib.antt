pub mod Spelled
pub mod Read
pub mod Maps
pub mod Writes
pub mod Written
