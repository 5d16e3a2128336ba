pub mod Puts
pub mod Records
pub mod Answers
pub mod Whole
