pub mod Frames
pub mod Faults
pub mod Segments
pub mod Entries
pub mod Answers
pub mod Reading
pub mod Examples
