-- Safety of a run and of what the actors end with: each namespace is a replay of the line's first
-- entries.
use Rattle.std.specs.Prelude.{◌≡◌, ℕ, ◌+◌, List, [], ◌∷◌, length, reverse, Some, None, slice_get}
use Rattle.ns_tree.specs.declared.end.End.{End}
use Rattle.ns_tree.specs.declared.end.LastSpace.{LastSpace}
use Rattle.ns_edits.specs.Replay.{IsReplay}
use Rattle.journal_history.specs.Entries.{Entry}
use Rattle.run_safety.specs.Safe.{IsOnLine, IsSafe}

-- bodies that stand after so many others
abbrev pub AllOn : (ℕ → List ℕ → Type 0) → ℕ → List (List ℕ) → Type 0
AllOn L t [] = Unit {0}
AllOn L t (body ∷ bodies) = L (t + 1) body × AllOn L (t + 1) bodies

-- each end's rows are the replay of the line up to its position
abbrev pub EndsReplay : ℕ → List Entry → List End → Type 0
EndsReplay n past ends =
    (c : ℕ) (e : End) (last : LastSpace) → slice_get ends c ≡ Some e → e.last ≡ Some last
    → (log : List (List ℕ)) × AllOn (IsOnLine n past) 0 log × (length log ≡ last.position) × IsReplay log last.rows

-- of actors without names
abbrev pub HoldNothing : List End → Type 0
HoldNothing ends = (c : ℕ) (e : End) → slice_get ends c ≡ Some e → e.last ≡ None

-- over entries oldest first, and what the actors end with
pub record IsSafeWithEnds (n : ℕ) (entries : List Entry) (ends : List End) : Type 0 where
  pub run : IsSafe n entries
  pub ends_replay : EndsReplay n (reverse entries) ends
