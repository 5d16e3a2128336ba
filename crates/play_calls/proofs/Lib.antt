pub mod MarkLaws
pub mod IndexLaws
pub mod LogLaws
pub mod ToldLaws
pub mod CallLists
