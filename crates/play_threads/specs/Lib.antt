pub mod Board
pub mod Entries
pub mod Seated
pub mod GateWires
pub mod Gates
pub mod Threads
pub mod Gathered
