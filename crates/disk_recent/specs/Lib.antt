pub mod Owned
pub mod Edits
pub mod Places
pub mod Ring
pub mod Laws
pub mod Split
pub mod Recent
