pub mod ItemsLaws
pub mod OnceLaws
pub mod FormatLaws
pub mod ReadLaws
pub mod MapLaws
pub mod ChangeLaws
