pub mod Delimited
pub mod Sizes
pub mod Entries
pub mod Listed
pub mod Examples
pub mod Directory
