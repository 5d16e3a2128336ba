pub mod ImageLaws
pub mod WordLaws
pub mod StartLaws
pub mod ServeLaws
pub mod LeadLaws
pub mod StateLaws
pub mod CauseLaws
