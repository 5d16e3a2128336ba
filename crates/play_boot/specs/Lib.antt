pub mod Boots
pub mod Stages
pub mod Nodes
pub mod Laws
pub mod Examples
