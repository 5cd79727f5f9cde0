mod Arrays
mod Firsts
mod LeastLaws
pub mod Least
mod Numbered
mod Searched
mod Tables
mod Unrouted
mod SoundTables
