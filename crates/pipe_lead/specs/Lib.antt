pub mod Begun
pub mod Inputs
pub mod Leads
pub mod States
pub mod Widths
