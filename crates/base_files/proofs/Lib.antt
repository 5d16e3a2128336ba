pub mod PutsLemmas
pub mod RecordLaws
