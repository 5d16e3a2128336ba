pub mod Sums
pub mod Trees
pub mod Ascii
