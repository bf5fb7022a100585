pub mod Refusals
pub mod Step
pub mod All
pub mod Refusal
pub mod Asked
