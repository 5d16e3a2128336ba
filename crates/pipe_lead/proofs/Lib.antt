pub mod DoneLaws
pub mod TextLaws
pub mod TakeLaws
pub mod LeadLaws
pub mod EndLaws
pub mod WidthLaws
