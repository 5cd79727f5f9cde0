pub mod SeatLaws
pub mod FirstLaws
pub mod NodeLaws
pub mod CountLaws
pub mod ChangeLaws
