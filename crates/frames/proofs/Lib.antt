pub mod NumberLaws
pub mod HexLaws
pub mod FrameLaws
pub mod TextLaws
pub mod LineLaws
pub mod WantedLaws
