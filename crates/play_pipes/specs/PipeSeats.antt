-- The wire over a desk of pipes: a caller's record goes along with what the lines of its pipes list,
-- and with what was heard ahead of its calls.
use Rattle.std.specs.Prelude.{◌≡◌, ℕ, ◌+◌, ◌<◌, ◌==◌, List, [], ◌∷◌, ◌++◌, length, slice_index_or, if◌then◌else◌, Ok, Option, Some, None}
use Rattle.journal_core.specs.declared.request.Request.{Request}
use Rattle.journal_core.specs.declared.heard.Heard.{Heard}
use Rattle.journal_core.specs.declared.peer_call.PeerCall.{PeerCall}
use Rattle.play_calls.specs.Logs.{LogView}
use Rattle.caller.specs.declared.wire.WireModel.{Ghosts}
use Rattle.play_pipes.specs.Calls.{Calls, Start, gained}
use Rattle.play_pipes.specs.PipeLines.{AreTold}

-- ## Calls ahead
-- a round's calls that were asked ahead: of these nodes, with this request, of whom this was heard
abbrev pub asked_calls : List ℕ → Request → List Heard → List PeerCall
asked_calls [] r heards = []
asked_calls (node ∷ nodes) r [] = []
asked_calls (node ∷ nodes) r (heard ∷ heards) = record { node = node; request = r; heard = heard } ∷ asked_calls nodes r heards

abbrev pub round_calls : List ℕ → Option Request → List Heard → List PeerCall
round_calls nodes None heards = []
round_calls nodes (Some r) heards = asked_calls nodes r heards

-- those of them that are of one node
abbrev pub ahead_at : ℕ → List PeerCall → Calls
ahead_at node [] = []
ahead_at node (c ∷ cs) = if c.node == node then (c.request, c.heard) ∷ ahead_at node cs else ahead_at node cs

-- the lists are these, and then what was heard ahead
abbrev pub Leads : List Calls → List PeerCall → List Calls → Type 0
Leads fronts ahead lists = (length fronts ≡ length lists) × ((i : ℕ) → i < length lists → slice_index_or lists i [] ≡ slice_index_or fronts i [] ++ ahead_at (i + 1) ahead)

-- more was heard ahead
abbrev pub HearsAhead : List Calls → List PeerCall → List Calls → Type 0
HearsAhead old ahead new = (fronts : List Calls) → Leads fronts [] old → Leads fronts ahead new

-- the lists lead on from wherever they led
abbrev pub LeadsOn : List PeerCall → List Calls → List PeerCall → List Calls → Type 0
LeadsOn ahead old ahead' new = (fronts : List Calls) → Leads fronts ahead old → Leads fronts ahead' new

-- this was heard of a call, ahead or now
abbrev pub HearsOne : ℕ → Request → Heard → List PeerCall → List Calls → List PeerCall → List Calls → Type 0
HearsOne node r heard ahead old ahead' new = (fronts : List Calls) → Leads fronts ahead old → Leads (gained (node ∷ []) r (Ok heard ∷ []) fronts) ahead' new

-- ## The wire
-- a wire over a desk, of which this is seen: what each of its lines had listed at first, what each
-- listed since, and what was heard ahead
module _ {W : Type 0} (starts : W → List Start) (lists : W → List Calls) (ahead : W → List PeerCall) where
  abbrev pub desk_wire : Ghosts W
  desk_wire = record {
    nodes = λ w. length (starts w);
    carries = λ node r heard old new. (starts new ≡ starts old) × HearsOne node r heard (ahead old) (lists old) (ahead new) (lists new);
    skips = λ node old new. new ≡ old;
    copies = λ node r old new. ⊥;
    operates = λ node ask done old new. ⊥;
    readies = λ old new. (starts new ≡ starts old) × LeadsOn (ahead old) (lists old) (ahead new) (lists new);
  }

-- ## The record and the lists
-- a list for each node, and the record says what they say but for what was heard ahead
pub record TiedTo (log : LogView) (ahead : List PeerCall) (lists : List Calls) : Type 0 where
  pub fronts : List Calls
  pub leads : Leads fronts ahead lists
  pub count : length fronts ≡ log.nodes
  pub told : AreTold log.past fronts
