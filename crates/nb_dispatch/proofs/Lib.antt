pub mod BatchLaws
pub mod OpLaws
