pub mod Class
pub mod Runs
pub mod Number
pub mod Names
pub mod Digits
pub mod All
