pub mod Widths
pub mod Layout
