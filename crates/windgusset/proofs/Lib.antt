pub mod ContractLaws
pub mod OneOutcome
