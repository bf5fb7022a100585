pub mod SixteenLaws
pub mod LookLaws
pub mod LookedLaws
