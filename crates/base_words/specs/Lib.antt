pub mod Fields
pub mod Padded
pub mod Starts
pub mod Numbers
pub mod Words
pub mod Hex
pub mod WordNumbers
pub mod Appends
