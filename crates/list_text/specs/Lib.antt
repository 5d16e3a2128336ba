pub mod Permissions
pub mod Columns
pub mod Texts
pub mod Examples
pub mod Values
pub mod Shown
pub mod Written
