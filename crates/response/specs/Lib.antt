pub mod Faults
pub mod Outcomes
pub mod Message
pub mod All
