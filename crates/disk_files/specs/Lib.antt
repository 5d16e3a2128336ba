pub mod Durable
pub mod EffectCalls
pub mod Opening
pub mod OpenSteps
