pub mod OneOutcome
pub mod Ways
pub mod Demand
