pub mod TableLaws
pub mod FoundLaws
