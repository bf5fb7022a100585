pub mod ClassLaws
pub mod RunLaws
pub mod TrimLaws
pub mod SameLaws
pub mod NameLaws
pub mod NumberLaws
pub mod DigitLaws
