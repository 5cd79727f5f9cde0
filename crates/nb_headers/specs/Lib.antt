pub mod Faults
pub mod HeaderNames
pub mod Moments
pub mod Outgoing
pub mod Reads
