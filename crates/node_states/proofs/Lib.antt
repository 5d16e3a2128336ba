pub mod LineLaws
pub mod OrderLaws
pub mod TurnLaws
pub mod FieldLaws
pub mod TellingLaws
pub mod OnceLaws
pub mod ToldLaws
