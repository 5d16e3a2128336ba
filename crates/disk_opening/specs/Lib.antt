pub mod Kinds
pub mod Opening
pub mod Completing
pub mod Opened
pub mod OpenSteps
pub mod Clauses
