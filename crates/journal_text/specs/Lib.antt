pub mod Texts
pub mod Reading
pub mod Words
pub mod Lines
pub mod ExampleTexts
pub mod ReplyReading
pub mod Exact
