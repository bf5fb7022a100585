pub mod Seen
pub mod Left
pub mod Turned
pub mod Told
pub mod Reading
pub mod ReadTo
