-- What a caller lists of a node, beside what the node lists of it, line by line.
use Rattle.std.specs.Prelude.{◌≡◌, ℕ, ◌+◌, ◌-◌, ◌<◌, ◌≤◌, List, [], length, take, slice_get, slice_index_or, MatchOption}
use Rattle.journal_history.specs.declared.history_line.HistoryLine.{HistoryLine}
use Rattle.journal_history.specs.declared.record.Record.{Record}
use Rattle.mesh.specs.declared.whole.Mesh.{Mesh}
use Rattle.mesh.specs.Agree.{operator_of, history_at, record_of}
use Rattle.mesh.specs.Matches.{reached, lines_of, IsSame, AreSame}
use Rattle.mesh.specs.Order.{place_of}
use Rattle.mesh_judge.specs.declared.reached.Reach.{Reach}
use Rattle.mesh_judge.specs.Reaches.{places}
use Rattle.mesh_judge.specs.declared.matching.ReachTable.{ReachTable}
use Rattle.mesh_judge.specs.declared.matching.Unlike.{Unlike}
use Rattle.mesh_judge.specs.declared.matching.Unlike.TheVariants as unlike
use Rattle.mesh_judge.specs.Fronts.{KeepsUpTo}

-- the line with this number, from 0, of those that reached the node is the node's line
abbrev pub IsNext : List Record → ℕ → HistoryLine → Type 0
IsNext rs number h = MatchOption (slice_get rs number) ⊥ (λ r. IsSame r h)

-- node by node, the places of the lines of a record that reached it
pub record KnowsPlaces (rs : List Record) (t : ReachTable) : Type 0 where
  pub each : (i : ℕ) → i < length t.by_node.items → slice_index_or t.by_node.items i [] ≡ places (i + 1) 1 rs

-- that of each record of a mesh
pub record KnowsAllPlaces (m : Mesh) (ts : List ReachTable) : Type 0 where
  pub count : length ts ≡ length m.records
  pub size : (c : ℕ) (d : ReachTable) → c < length m.records → length (slice_index_or ts c d).by_node.items ≡ m.nodes
  pub known : (c : ℕ) (d : ReachTable) → c < length m.records → KnowsPlaces (record_of m c) (slice_index_or ts c d)

-- of one node and of each caller, both list the same
abbrev pub AreSameAt : Mesh → ℕ → Type 0
AreSameAt m i = (c : ℕ) → c ≤ operator_of m → AreSame (reached (i + 1) (record_of m c)) (lines_of c (history_at m i))

-- ## Where they first list otherwise
-- the callers list these lines of the node, the first of its history, as the first that reached it
abbrev pub AreListed : Mesh → ℕ → List HistoryLine → Type 0
AreListed m i hs = (c : ℕ) → c ≤ operator_of m → AreSame (take (length (lines_of c hs)) (reached (i + 1) (record_of m c))) (lines_of c hs)

-- This line of the node is the first that its caller doesn't list so. Or the callers list all of the
-- node's lines, and this line of this caller, the first with more, reached it behind them.
abbrev pub IsUnlikeIn : Mesh → ℕ → Unlike → Type 0
IsUnlikeIn m i (unlike.AtNode node line) = (node ≡ i) × KeepsUpTo (AreListed m i) (history_at m i) line
IsUnlikeIn m i (unlike.AtCaller c line) =
    (c ≤ operator_of m) × AreListed m i (history_at m i) × ((d : ℕ) → d < c → AreSame (reached (i + 1) (record_of m d)) (lines_of d (history_at m i)))
    × (length (lines_of c (history_at m i)) < length (reached (i + 1) (record_of m c))) × (line + 1 ≡ place_of (i + 1) (length (lines_of c (history_at m i))) 1 (record_of m c))

-- at the first node of which both don't list the same
abbrev pub IsUnlike : Mesh → Unlike → Type 0
IsUnlike m u = (i : ℕ) × (i < m.nodes) × ((j : ℕ) → j < i → AreSameAt m j) × IsUnlikeIn m i u

-- no line of these first callers that reached the node is left
abbrev pub AreTaken : List ReachTable → ℕ → List ℕ → ℕ → Type 0
AreTaken tables i taken callers = (c : ℕ) (d : ReachTable) → c < callers → length (slice_index_or (slice_index_or tables c d).by_node.items i []) ≤ slice_index_or taken c 0

-- the first caller of whose lines that reached the node one is left, and that line
pub record IsLeft (tables : List ReachTable) (i : ℕ) (taken : List ℕ) (c line : ℕ) : Type 0 where
  pub within : c < length tables
  pub before : AreTaken tables i taken c
  pub left : (t : ReachTable) → slice_index_or taken c 0 < length (slice_index_or (slice_index_or tables c t).by_node.items i [])
  pub at : (t : ReachTable) (x : Reach) → line ≡ (slice_index_or (slice_index_or (slice_index_or tables c t).by_node.items i []) (slice_index_or taken c 0) x).place - 1
