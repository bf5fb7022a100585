pub mod Run
pub mod Added
pub mod Reach
pub mod Alone
pub mod Tags
pub mod Worked
pub mod All
