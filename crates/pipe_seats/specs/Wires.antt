-- The wire over pipes: what a call, a loss, and requests that are sent ahead do to the seats.
use Rattle.std.specs.Prelude.{◌≡◌, ℕ, ◌-◌, ◌<◌, List, length, slice_set, slice_index_or, replicate, true, None}
use Rattle.std.proofs.Common.{refl, subst, sym, ◌∙◌}
use Rattle.journal_core.specs.declared.request.Request.{Request}
use Rattle.journal_core.specs.declared.heard.Heard.{Heard}
use Rattle.play_calls.specs.Logs.{new_log}
use Rattle.caller.specs.declared.wire.WireModel.{Ghosts}
use Rattle.caller.specs.Callers.{CallerView, AreLater as AreLinesLater}
use Rattle.pipe_seats.specs.Calls.{PipeView}
use Rattle.pipe_seats.specs.Seats.{SeatView, unopened_seat, IsAhead, IsCalledFrom}
use Rattle.pipe_seats.specs.Piped.{PipesView, AreLater}

-- a request was carried to this node from its seat, and the other seats are as they were
pub record Carries (node : ℕ) (r : Request) (heard : Heard) (old new : List SeatView) : Type 0 where
  pub before : SeatView
  pub after : SeatView
  pub was : before ≡ slice_index_or old (node - 1) before
  pub called : IsCalledFrom before after r heard
  pub seats : new ≡ slice_set old (node - 1) after

-- a call to this node was lost before it went out: none is under way at its seat, and nothing changed
pub record Skips (node : ℕ) (old new : List SeatView) : Type 0 where
  pub seat : SeatView
  pub is : seat ≡ slice_index_or old (node - 1) seat
  pub idle : seat.under_way ≡ None
  pub same : new ≡ old

-- Whatever the pipe was before what was under way was sent: over that one went what is under way now,
-- and nothing else.
abbrev pub StaysAhead : SeatView → SeatView → Type 0
StaysAhead old new = (before : PipeView) → IsAhead old.under_way before old.pipe → IsAhead new.under_way before new.pipe

-- requests may have been sent ahead, each from a seat where none was under way
pub record Readies (old new : List SeatView) : Type 0 where
  pub count : length new ≡ length old
  pub each : (i : ℕ) (d : SeatView) → i < length old → StaysAhead (slice_index_or old i d) (slice_index_or new i d)

pub readies_none : (u : List SeatView) → Readies u u
readies_none u = record { count = refl; each = λ i d l before a. a }

pub readies_on : (u v w : List SeatView) → Readies u v → Readies v w → Readies u w
readies_on u v w g h = record {
  count = h.count ∙ g.count;
  each = λ i d l before a. h.each i d (subst (λ n. i < n) (sym g.count) l) before (g.each i d l before a);
}

-- such a wire, whatever its ends
abbrev pub pipe_wire : Ghosts (List SeatView)
pipe_wire = record {
  nodes = λ seats. length seats;
  carries = Carries;
  skips = Skips;
  copies = λ node r old new. ⊥;
  operates = λ node ask done old new. ⊥;
  readies = Readies;
}

-- what contracts see of a caller over it
abbrev pub PipeCaller : Type 0
PipeCaller = CallerView (List SeatView)

-- one over pipes to so many nodes, in this life, who made no call
abbrev pub new_caller : ℕ → ℕ → PipeCaller
new_caller nodes life = record { wire = replicate nodes (unopened_seat life); log = new_log nodes true }

-- the seats, with what was listed
abbrev pub pipes_of : PipeCaller → PipesView
pipes_of c = record { seats = c.wire; log = c.log }

-- so to each node's pipe came what the lines say that a caller over it listed since, and then what is
-- under way, and nothing else
abbrev pub PipesGo : Type 0
PipesGo = (old new : PipeCaller) → AreLinesLater pipe_wire old new → AreLater (pipes_of old) (pipes_of new)
