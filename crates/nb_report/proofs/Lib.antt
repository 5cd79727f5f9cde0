pub mod InOrderLaws
pub mod ListedLaws
pub mod PieceLaws
pub mod TakenLaws
