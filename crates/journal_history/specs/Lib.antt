pub mod Entries
pub mod Cell
pub mod Moving
pub mod CellLaws
pub mod NodeCells
pub mod Same
pub mod Held
pub mod Listed
