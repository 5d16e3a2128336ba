pub mod Sessions
pub mod Serving
pub mod Crashes
pub mod Trails
pub mod Numbers
pub mod Bytes
pub mod ByteExamples
