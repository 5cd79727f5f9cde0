pub mod InOrder
pub mod Lines
pub mod Listed
pub mod Reports
pub mod Summary
