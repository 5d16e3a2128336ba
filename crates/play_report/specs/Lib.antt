pub mod Text
pub mod Examples
pub mod Limit
pub mod Summary
pub mod Mirrored
pub mod Booted
pub mod Counts
pub mod Comes
