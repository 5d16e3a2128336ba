-- What contracts see of a round's calls.
use Rattle.std.specs.Prelude.{ℕ, List}
use Rattle.journal_core.specs.declared.request.Request.{Request}

pub record CallsView : Type 0 where
  pub nodes : List ℕ
  pub request : Request
