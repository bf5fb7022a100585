pub mod AskedLaws
pub mod RefusedLaws
pub mod TimeLaws
