pub mod TakerLaws
pub mod PartLaws
pub mod NodeLaws
pub mod MirrorLaws
pub mod ComeLaws
