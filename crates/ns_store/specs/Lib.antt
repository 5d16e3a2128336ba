pub mod Answers
pub mod Digests
pub mod Examples
pub mod Images
pub mod Lists
pub mod Names
pub mod Saves
pub mod Loads
