pub mod Files
pub mod Faults
pub mod Missing
pub mod Unknown
pub mod Values
