pub mod Choose
pub mod Lists
pub mod Bytes
pub mod First
pub mod Wrote
