pub mod World
pub mod WorldLaws
pub mod Complete
pub mod WorldExamples
pub mod WorldViews
