-- Actors that make calls: each with its writer, and the calls that it made.
use Rattle.std.specs.Prelude.{ℕ, ◌==◌, ◌&&◌, Bool, List, []}
use Rattle.std.specs.List.{list_any}
use Rattle.journal_core.specs.declared.request.Request.{Request}
use Rattle.writer_core.specs.Views.{WriterView}
use Rattle.writer_core.specs.Writer.{new_writer}
use Rattle.journal_history.specs.Same.{same_request}

-- a call that an actor made, whatever became of it
pub record CallMade : Type 0 where
  pub node : ℕ
  pub request : Request

-- an actor: its writer, and the calls that it made
pub record Acting : Type 0 where
  pub writer : WriterView
  pub calls : List CallMade

abbrev pub fresh_acting : ℕ → Acting
fresh_acting nodes = record { writer = new_writer nodes; calls = [] }

abbrev pub was_made : ℕ → Request → List CallMade → Bool
was_made node r calls = list_any (λ x. (x.node == node) && same_request x.request r) calls
