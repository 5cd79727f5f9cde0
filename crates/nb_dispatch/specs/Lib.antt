pub mod Batches
pub mod Dispatches
