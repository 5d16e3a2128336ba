pub mod IndexLaws
pub mod LimitLaws
pub mod DecisionLaws
pub mod BudgetLaws
pub mod FetchLaws
pub mod ApplyLaws
pub mod AnswerLaws
pub mod CutLaws
