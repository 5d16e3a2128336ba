pub mod ToldLaws
pub mod StepLaws
pub mod ApplyLaws
pub mod DueLaws
pub mod PurgeLaws
pub mod ServedLaws
pub mod ServingTold
pub mod ReplyLaws
