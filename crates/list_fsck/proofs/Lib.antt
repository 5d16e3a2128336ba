pub mod NameCases
pub mod SegmentLaws
pub mod NumberLaws
pub mod ImageLaws
pub mod Loop
pub mod Session
pub mod OneRole
pub mod OneReport
