pub mod Submissions
pub mod Holding
pub mod Tails
pub mod Examples
pub mod Results
pub mod ResultLists
pub mod DueTexts
pub mod ImageDisks
