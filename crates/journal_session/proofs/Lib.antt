pub mod LineLaws
pub mod ReaderLaws
pub mod AnswerLaws
pub mod SessionLaws
pub mod EndLaws
pub mod AskLaws
