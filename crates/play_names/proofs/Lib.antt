pub mod HoldingLaws
pub mod ResultLaws
pub mod DueLaws
