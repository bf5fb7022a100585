pub mod Eleven
pub mod Examples
pub mod Flow
