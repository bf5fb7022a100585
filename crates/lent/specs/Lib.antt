pub mod Sixteen
pub mod Look
