pub mod FirstLine
pub mod HeaderLines
pub mod Names
pub mod To
pub mod Head
pub mod Noted
pub mod Fields
pub mod All
