pub mod SourceLaws
pub mod ReadFields
pub mod FieldLaws
pub mod WalkLaws
pub mod EditLaws
pub mod Parts
pub mod VerbLaws
pub mod NameLaws
