pub mod Tiling
pub mod Ways
pub mod OneOutcome
pub mod Fields
