pub mod NoDigest
pub mod Counting
pub mod Fitting
pub mod OneAnswer
pub mod Taking
pub mod Directories
