pub mod Packages
pub mod Map
pub mod Places
pub mod Address
pub mod Sound
pub mod All
