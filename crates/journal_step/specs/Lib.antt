pub mod Index
pub mod Durable
pub mod Budgets
pub mod Decisions
pub mod Applying
