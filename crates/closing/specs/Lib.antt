pub mod Sets
pub mod Closing
pub mod Outcomes
pub mod Links
pub mod Examples
