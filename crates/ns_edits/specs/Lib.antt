pub mod Decoded
pub mod Admit
pub mod Apply
pub mod Replay
pub mod Calls
pub mod Keeps
pub mod Examples
pub mod EntryErrors
