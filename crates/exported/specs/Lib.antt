pub mod Numbers
pub mod Ensured
