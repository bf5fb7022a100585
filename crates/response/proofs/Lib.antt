pub mod FitsLaws
pub mod MessageLaws
pub mod OnceLaws
pub mod ToldLaws
pub mod ViaLaws
