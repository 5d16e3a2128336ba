pub mod Parts
pub mod KnownBytes
