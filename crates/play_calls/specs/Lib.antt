pub mod Deliveries
pub mod Indexes
pub mod Logs
pub mod Made
