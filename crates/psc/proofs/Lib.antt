pub mod TableLaws
pub mod SearchLaws
pub mod TextLaws
pub mod ReadLaws
pub mod Ways
pub mod TextWays
pub mod OneOutcome
pub mod Former
