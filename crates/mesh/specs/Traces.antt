-- One order of all lines of a mesh, where there is one: it fits all lists.
use Rattle.std.specs.Prelude.{◌≡◌, ◌≢◌, ℕ, ◌+◌, ◌<◌, ◌≤◌, ◌==◌, false, List, [], ◌∷◌, ◌++◌, map, filter, Some, Contains}
use Rattle.journal_history.specs.declared.history_line.HistoryLine.{HistoryLine}
use Rattle.journal_history.specs.declared.record.Record.{Record}
use Rattle.journal_history.specs.Moving.{Placed}
use Rattle.mesh.specs.declared.whole.Mesh.{Mesh}
use Rattle.mesh.specs.Matches.{reaches, IsSame}
use Rattle.mesh.specs.Agree.{operator_of, history_at, record_of}
use Rattle.mesh.specs.Order.{is_muted}

-- what a node lists of it
unfoldable pub history_of : ℕ → List Placed → List HistoryLine
history_of node xs = map (λ x. x.line) (filter (λ x. x.node == node) xs)

-- the caller's line and this one are of one event
pub record IsEvent (r : Record) (x : Placed) : Type 0 where
  pub reach : (node : ℕ) → reaches node r ≡ (x.node == node)
  pub same : IsSame r x.line
  pub muted : is_muted (Some r) ≡ x.muted

-- It has the caller's lines in the order of its record. Both are built up line by line: the caller
-- notes what reached no node, somebody else reaches a node, or the caller does.
pub data InStep (caller : ℕ) : List Record → List Placed → Type 0 where
  begins : InStep caller [] []
  notes : (rs more : List Record) (t : List Placed) (r : Record) → more ≡ rs ++ r ∷ [] → ((node : ℕ) → reaches node r ≡ false) → InStep caller rs t → InStep caller more t
  waits : (rs : List Record) (t next : List Placed) (x : Placed) → next ≡ t ++ x ∷ [] → x.line.caller ≢ caller → InStep caller rs t → InStep caller rs next
  goes :
      (rs more : List Record) (t next : List Placed) (r : Record) (x : Placed) → more ≡ rs ++ r ∷ [] → next ≡ t ++ x ∷ []
      → x.line.caller ≡ caller → IsEvent r x → InStep caller rs t → InStep caller more next

-- of one of the nodes, by one of the actors or by the operator
pub record IsInMesh (m : Mesh) (x : Placed) : Type 0 where
  pub from_one : 1 ≤ x.node
  pub up_to_n : x.node ≤ m.nodes
  pub caller : x.line.caller ≤ operator_of m

-- each node's lines and each caller's stand in it in their own order
pub record IsTrace (m : Mesh) (t : List Placed) : Type 0 where
  pub histories : (i : ℕ) → i < m.nodes → history_at m i ≡ history_of (i + 1) t
  pub records : (c : ℕ) → c ≤ operator_of m → InStep c (record_of m c) t
  pub lines : (x : Placed) → Contains t x → IsInMesh m x
