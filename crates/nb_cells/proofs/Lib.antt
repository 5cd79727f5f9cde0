pub mod BatchLaws
pub mod MapLaws
pub mod MemLaws
pub mod ScanLaws
pub mod SlotLaws
pub mod TableLaws
