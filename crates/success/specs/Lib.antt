pub mod Store
pub mod After
pub mod All
