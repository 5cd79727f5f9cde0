pub mod ItemsLaws
pub mod FormatLaws
pub mod ReadLaws
