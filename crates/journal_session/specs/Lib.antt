pub mod Answering
pub mod Asking
pub mod Examples
pub mod Lines
pub mod Reader
pub mod Session
