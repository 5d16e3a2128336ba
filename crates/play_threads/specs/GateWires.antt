-- The wire through gates: what a call or a copy does to the caller's seats.
use Rattle.std.specs.Prelude.{◌≡◌, ℕ, ◌-◌, ◌<◌, Bool, true, false, List, [], ◌∷◌, ◌++◌, length, map, slice_set, slice_index_or}
use Rattle.atomic_table.specs.Seated.{TableId}
use Rattle.journal_core.specs.declared.request.Request.{Request}
use Rattle.journal_core.specs.declared.heard.Heard.{Heard}
use Rattle.journal_history.specs.Cell.{heard_of}
use Rattle.journal_history.specs.declared.node_ask.NodeAsk.{NodeAsk}
use Rattle.journal_history.specs.declared.node_ask.NodeAsk.TheVariants.{Act}
use Rattle.journal_history.specs.declared.node_ask.NodeAnswer.{NodeAnswer}
use Rattle.mesh.specs.Makers.{IsOperation}
use Rattle.play_calls.specs.Deliveries.{is_done}
use Rattle.caller.specs.declared.wire.WireModel.{Ghosts}
use Rattle.play_threads.specs.Entries.{IsReplyOrStop, FitsAsk}
use Rattle.play_threads.specs.Seated.{Seat}

-- what contracts see of the wire: its caller, the gates, and a seat at each
pub record GatesView : Type 0 where
  pub caller : ℕ
  pub tables : List TableId
  pub seats : List Seat

-- one seat at each gate, all of this caller
pub record AreAt (caller : ℕ) (tables : List TableId) (seats : List Seat) : Type 0 where
  pub gates : map (λ s. s.table) seats ≡ tables
  pub callers : (i : ℕ) (d : Seat) → i < length seats → (slice_index_or seats i d).caller ≡ caller

-- the seat of this node went on by one line of its caller's
pub record Adds (node : ℕ) (ask : NodeAsk) (answer : NodeAnswer) (old new : GatesView) : Type 0 where
  pub before : Seat
  pub after : Seat
  pub was : before ≡ slice_index_or old.seats (node - 1) before
  pub table : after.table ≡ before.table
  pub mine : after.caller ≡ before.caller
  pub own : after.own ≡ before.own ++ record { caller = before.caller; ask = ask; answer = answer } ∷ []
  pub seats : new.seats ≡ slice_set old.seats (node - 1) after
  pub caller : new.caller ≡ old.caller
  pub tables : new.tables ≡ old.tables

pub record Carries (node : ℕ) (r : Request) (heard : Heard) (old new : GatesView) : Type 0 where
  pub answer : NodeAnswer
  pub kind : IsReplyOrStop answer
  pub heard_is : heard ≡ heard_of answer
  pub adds : Adds node (Act false r) answer old new

pub record Copies (node : ℕ) (r : Request) (old new : GatesView) : Type 0 where
  pub answer : NodeAnswer
  pub adds : Adds node (Act true r) answer old new

pub record Operates (node : ℕ) (ask : NodeAsk) (done : Bool) (old new : GatesView) : Type 0 where
  pub operation : IsOperation ask
  pub answer : NodeAnswer
  pub fits : FitsAsk ask answer
  pub done_is : done ≡ is_done answer
  pub adds : Adds node ask answer old new

-- such a wire, whatever its gates are
abbrev pub gate_wire : Ghosts GatesView
gate_wire = record {
  nodes = λ w. length w.seats;
  carries = Carries;
  skips = λ node old new. new ≡ old;
  copies = Copies;
  operates = Operates;
  readies = λ old new. new ≡ old;
}
