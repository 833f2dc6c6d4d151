pub mod Keys
pub mod Slots
pub mod Ways
pub mod OneOutcome
pub mod Former
