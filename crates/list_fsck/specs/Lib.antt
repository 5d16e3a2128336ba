pub mod Roles
pub mod Segments
pub mod Rules
pub mod Reports
pub mod Steps
pub mod Examples
