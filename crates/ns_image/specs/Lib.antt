pub mod Layouts
pub mod Reading
pub mod Rows
pub mod Laws
pub mod Examples
