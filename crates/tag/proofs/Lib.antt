pub mod Tag
pub mod Given
pub mod Written
pub mod EightHex
pub mod Examples
