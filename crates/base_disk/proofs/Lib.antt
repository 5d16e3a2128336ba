mod Bytes
mod MemFileLemmas
mod Fills
mod Images
mod Maps
mod CallPlanLemmas
mod Retains
pub mod Rises
pub mod Causes
mod Timeline
mod Names
mod Choices
mod LastFiles
pub mod Keeping
