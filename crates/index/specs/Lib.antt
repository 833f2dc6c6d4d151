pub mod Index
pub mod Laws
pub mod Examples
