pub mod Parts
pub mod OneOutcome
