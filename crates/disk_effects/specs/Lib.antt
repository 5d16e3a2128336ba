pub mod Told
pub mod Decided
pub mod Due
pub mod Served
pub mod Laws
