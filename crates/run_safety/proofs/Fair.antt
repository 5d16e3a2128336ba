-- What a story says of an entry, without the node's part: the request is its takeover's, in its
-- order, and a heard answer is what it heard. A run is a list of such entries in which each node
-- answers as it does.
use Rattle.std.proofs.Common.{◌≡◌, ◌≢◌, ℕ, ◌<◌, ◌≤◌, List, [], ◌∷◌, true, false, length, arith}
use Rattle.journal_core.specs.declared.node_state.NodeState.{NodeState}
use Rattle.journal_core.specs.Step.{node_step, effects_of}
use Rattle.journal_history.specs.Entries.{Move, Answer, Stop, Kill, Restart, Entry, after_move, node_after, Earlier, now, before}
use Rattle.run_safety.specs.Run.{Story, IsHeardAs, IsCall, IsNext, Follows}
use Rattle.run_safety.proofs.Tales.{Tale, place_below, IsLabelled, AreLabelled, Tells, labelled_still, call_still, heard_as_still}

abbrev pub IsFair : ℕ → Story → List Entry → ℕ → Move → Type 0
IsFair n story past node (Answer caller way request reply) = IsCall n story past caller node request (Answer caller way request reply) × IsHeardAs story past node reply way
IsFair n story past node (Stop caller late request keep) = 0 < keep → IsCall n story past caller node request (Stop caller late request keep)
IsFair n story past node Kill = Unit {0}
IsFair n story past node Restart = Unit {0}

abbrev pub IsFairEntry : ℕ → Story → List Entry → Entry → Type 0
IsFairEntry n story past e = IsFair n story past e.node e.move

abbrev pub Fairs : ℕ → Story → List Entry → Type 0
Fairs n story [] = Unit {0}
Fairs n story (e ∷ past) = IsFairEntry n story past e × Fairs n story past

-- ## The node's part
abbrev pub IsDue : NodeState → Move → Type 0
IsDue s (Answer caller way request reply) = (node_step s request).reply ≡ reply
IsDue s (Stop caller late request keep) = (s.up ≡ true) × (keep ≤ length (effects_of s request))
IsDue s Kill = s.up ≡ true
IsDue s Restart = s.up ≡ false

pub record IsSoundEntry (n : ℕ) (past : List Entry) (e : Entry) : Type 0 where
  pub from_one : 1 ≤ e.node
  pub up_to_n : e.node ≤ n
  pub due : IsDue (node_after e.node past) e.move
  pub moves : after_move (node_after e.node past) e.move ≢ node_after e.node past

abbrev pub Sounds : ℕ → List Entry → Type 0
Sounds n [] = Unit {0}
Sounds n (e ∷ past) = IsSoundEntry n past e × Sounds n past

-- both make a run
next_of : (n : ℕ) (story : Story) (past : List Entry) (node : ℕ) (s : NodeState) (move : Move) → IsFair n story past node move → IsDue s move → IsNext n story past node s move
next_of n story past node s (Answer caller way request reply) f d = (f.0, d, f.1)
next_of n story past node s (Stop caller late request keep) f d = (d.0, d.1, f)
next_of n story past node s Kill f d = d
next_of n story past node s Restart f d = d

pub follows_of : (n : ℕ) (story : Story) (past : List Entry) → Fairs n story past → Sounds n past → Follows n story past
follows_of n story [] f s = tt
follows_of n story (e ∷ past) f s = (
  record { from_one = s.0.from_one; up_to_n = s.0.up_to_n; is_next = next_of n story past e.node (node_after e.node past) e.move f.0 s.0.due; moves = s.0.moves },
  follows_of n story past f.1 s.1,
)

-- ## A tale of such entries
pub record IsTold (n : ℕ) (a : Tale) (past : List Entry) : Type 0 where
  pub fair : Fairs n a.story past
  pub labels : AreLabelled a past

-- ## The list so far
fair_still : (n : ℕ) (a b : Tale) (size : ℕ) (old : List Entry) (node : ℕ) (move : Move) → Tells a b size → length old < size → IsLabelled a old
    → IsFair n a.story old node move → IsFair n b.story old node move
fair_still n a b size old node (Answer caller way r reply) t l label h =
    (call_still n a b size old caller node r (Answer caller way r reply) t l label h.0, heard_as_still a b size old node reply way t l label h.1)
fair_still n a b size old node (Stop caller late r kept) t l label h = λ some. call_still n a b size old caller node r (Stop caller late r kept) t l label (h some)
fair_still n a b size old node Kill t l label h = h
fair_still n a b size old node Restart t l label h = h

fairs_still : (n : ℕ) (a b : Tale) (size : ℕ) (past : List Entry) → Tells a b size → length past ≤ size → AreLabelled a past → Fairs n a.story past → Fairs n b.story past
fairs_still n a b size [] t l labels f = tt
fairs_still n a b size (e ∷ past) t l labels f =
    (fair_still n a b size past e.node e.move t (omega arith) (labels past e now) f.0, fairs_still n a b size past t (omega arith) (λ old x p. labels old x (before p)) f.1)

pub told_still : (n : ℕ) (a b : Tale) (past : List Entry) → Tells a b (length past) → IsTold n a past → IsTold n b past
told_still n a b past t h = record {
  fair = fairs_still n a b (length past) past t (omega arith) h.labels h.fair;
  labels = λ old e p. labelled_still a b (length past) old t (place_below e p) (h.labels old e p);
}

-- ## One entry more
pub told_more : (n : ℕ) (a b : Tale) (past : List Entry) (e : Entry) → Tells a b (length past) → IsTold n a past → IsLabelled b past → IsFairEntry n b.story past e → IsTold n b (e ∷ past)
told_more n a b past e t h label next =
    let still : IsTold n b past = told_still n a b past t h in
    record { fair = (next, still.fair); labels = λ old x p. at old x p }
  where
    at : (old : List Entry) (x : Entry) → Earlier (x ∷ old) (e ∷ past) → IsLabelled b old
    at old x now = label
    at old x (before p) = (told_still n a b past t h).labels old x p
