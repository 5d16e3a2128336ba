pub mod RecordLaws
pub mod EndLaws
pub mod OneAnswer
pub mod PlaceLaws
pub mod ListLaws
pub mod EntryLaws
pub mod SoFar
pub mod NextLaws
