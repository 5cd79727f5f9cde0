pub mod Stops
pub mod Drains
pub mod Leases
pub mod Made
pub mod Plans
