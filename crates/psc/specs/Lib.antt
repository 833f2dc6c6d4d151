pub mod Table
pub mod Search
pub mod Text
pub mod Calls
pub mod Outcomes
pub mod Examples
