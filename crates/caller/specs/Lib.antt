pub mod Callers
pub mod LaterLaws
