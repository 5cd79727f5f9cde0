pub mod Choosing
pub mod Ending
pub mod Routing
pub mod Seating
pub mod Turning
