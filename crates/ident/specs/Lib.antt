pub mod Identifier
pub mod Calls
pub mod Consignor
