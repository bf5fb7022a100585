pub mod Lines
pub mod Asked
pub mod Wanted
pub mod Shown
