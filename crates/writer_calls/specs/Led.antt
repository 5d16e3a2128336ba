-- A writer that is led along calls: each is the one that it makes next, and it hears what was heard
-- of it.
use Rattle.std.specs.Prelude.{ℕ, ◌≡◌, List, [], ◌∷◌, ◌++◌, length, Option, Some}
use Rattle.journal_core.specs.declared.request.Request.{Request}
use Rattle.journal_core.specs.declared.heard.Heard.{Heard}
use Rattle.journal_core.specs.declared.peer_call.PeerCall.{PeerCall}
use Rattle.writer_core.specs.declared.turn.Turn.{Turn}
use Rattle.writer_core.specs.Views.{WriterView}
use Rattle.writer_core.specs.Rounds.{Judgment, keep_going}
use Rattle.writer_core.specs.Writer.{next_call, writer_heard}

-- how many nodes a writer has
abbrev pub nodes_of : WriterView → ℕ
nodes_of w = length w.left

-- each call is the next one of the writer, by what was heard before it
unfoldable pub IsLed : WriterView → List PeerCall → Type 0
IsLed w [] = Unit {0}
IsLed w (c ∷ cs) = (next_call w ≡ Some (c.node, c.request)) × IsLed (writer_heard w c.node c.heard).writer cs

-- where the writer stands once it heard these calls, and what the last of them led to
unfoldable pub judgment_along : Judgment → List PeerCall → Judgment
judgment_along j [] = j
judgment_along j (c ∷ cs) = judgment_along (writer_heard j.writer c.node c.heard) cs

-- From the list of calls `before` the list `after` was reached: some calls were made more, each the
-- next one of the writer. So it stands here.
pub record Leads (begun : WriterView) (before after : List PeerCall) (here : Judgment) : Type 0 where
  pub made : List PeerCall
  pub grew : after ≡ before ++ made
  pub led : IsLed begun made
  pub stands : here ≡ judgment_along (keep_going begun) made

-- one call was made, the writer's next one
pub record IsCalled (old : WriterView) (before : List PeerCall) (new : WriterView) (after : List PeerCall) (turn : Turn) : Type 0 where
  pub node : ℕ
  pub request : Request
  pub heard : Heard
  pub next : next_call old ≡ Some (node, request)
  pub listed : after ≡ before ++ record { node = node; request = request; heard = heard } ∷ []
  pub judged : writer_heard old node heard ≡ record { writer = new; turn = turn }
