pub mod Words
pub mod Starts
pub mod Serves
pub mod Images
pub mod Leads
