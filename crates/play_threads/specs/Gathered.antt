-- What the threads of all callers and the gates of all nodes leave, side by side.
use Rattle.std.specs.Prelude.{◌≡◌, ℕ, ◌+◌, ◌<◌, ◌≤◌, ◌==◌, Bool, true, suc, Option, None, List, [], ◌∷◌, length, map, replicate, slice_index_or}
use Rattle.std.specs.List.{All}
use Rattle.atomic_table.specs.Seated.{TableId}
use Rattle.journal_history.specs.declared.record.Record.{Record}
use Rattle.journal_history.specs.declared.mark.Mark.{Mark}
use Rattle.mesh.specs.declared.whole.Mesh.{Mesh}
use Rattle.ns_tree.specs.declared.end.End.{End}
use Rattle.ns_tree.specs.declared.end.LastSpace.{LastSpace}
use Rattle.mesh.specs.Agree.{history_at, record_of, plan_of, Agrees}
use Rattle.mesh.specs.Marks.{IsMarked, AreCopied}
use Rattle.mesh.specs.Matches.{AreWithin}
use Rattle.play_script.specs.declared.script_line.ScriptLine.{ScriptLine}
use Rattle.play_calls.specs.Logs.{LogView, new_log}
use Rattle.play_threads.specs.Seated.{Seat, AreSeated}
use Rattle.play_threads.specs.Gates.{row_at, IsLeft}
use Rattle.play_model.specs.Actions.{MayCome}
use Rattle.play_model.specs.Lines.{Line, ArePlayable, count_actors, names_in}
use Rattle.play_model.specs.Follows.{FollowsLines}
use Rattle.play_threads.specs.Threads.{DoesLines}

-- ## One caller's thread
-- before its first call: it may take its lines at these gates
pub record MayAct (named : Bool) (lines : List ScriptLine) (tables : List TableId) (caller : ℕ) (seats : List Seat) : Type 0 where
  pub some : 1 ≤ length seats
  pub gates : length tables ≡ length seats
  pub seated : AreSeated caller tables (new_log (length seats) true) seats
  pub may : All (MayCome named (length seats)) lines

-- the gates of all nodes, with so many seats made at each, and a job for each caller
pub record AreOpened (nodes callers : ℕ) (tables : List TableId) (seats : List ℕ) (keepers : List TableId) (made : List ℕ) (jobs : ℕ) : Type 0 where
  pub count : length tables ≡ nodes
  pub keeps : keepers ≡ tables
  pub seats_are : seats ≡ replicate nodes callers
  pub made_are : made ≡ replicate nodes callers
  pub each : jobs ≡ callers

-- Its record and its marks are as its lines ask, by the answers that it heard; the record goes by
-- the marks, and its seats have seen of the caller just what its record says. An actor with names
-- holds this at last.
pub record CallerLeaves (named : Bool) (nodes operator caller : ℕ) (lines : List Line) (tables : List TableId) (seats : List Seat) (rs : List Record)
    (plan : List Mark) (last : Option LastSpace) : Type 0 where
  pub does : (log : LogView) × (log.whole ≡ true) × (log.nodes ≡ nodes) × (log.past ≡ rs) × (log.marks ≡ plan) × AreSeated caller tables log seats
      × DoesLines named (caller == operator) nodes caller lines log last
  pub marked : IsMarked plan [] rs
  pub copied : AreCopied plan rs
  pub within : AreWithin nodes rs

-- ## All threads
-- each with its number
abbrev pub numbered_from : {A : Type 0} → ℕ → List A → List (ℕ × A)
numbered_from n [] = []
numbered_from n (x ∷ xs) = (n, x) ∷ numbered_from (suc n) xs

-- what an actor holds at last
abbrev pub last_in : List End → ℕ → Option LastSpace
last_in ends c = (slice_index_or ends c (record { name = []; last = None })).last

-- what each caller's thread leaves, the operator's last, and what each node's gate leaves
pub record AreGathered (named : Bool) (nodes : ℕ) (lines : List Line) (m : Mesh) (ends : List End) : Type 0 where
  pub nodes_are : m.nodes ≡ nodes
  pub histories : length m.histories ≡ nodes
  pub records : length m.records ≡ count_actors lines + 1
  pub plan : length m.plan ≡ count_actors lines
  pub names : map (λ e. e.name) ends ≡ names_in lines
  pub tables : List TableId
  -- each caller's seats
  pub columns : List (List Seat)
  pub callers : length columns ≡ count_actors lines + 1
  -- the operator's marks, which are no actor's
  pub last : List Mark
  pub actors : (c : ℕ) → c < count_actors lines → CallerLeaves named nodes (count_actors lines) c lines tables (slice_index_or columns c []) (record_of m c) (plan_of m c) (last_in ends c)
  pub operator : CallerLeaves named nodes (count_actors lines) (count_actors lines) lines tables (slice_index_or columns (count_actors lines) []) (record_of m (count_actors lines)) last None
  pub at_nodes : (i : ℕ) (d : Seat) → i < nodes → IsLeft (row_at i d columns) (history_at m i)

-- whatever the schedule was
pub record IsRunOf (named : Bool) (nodes : ℕ) (lines : List Line) (m : Mesh) (ends : List End) : Type 0 where
  pub agrees : Agrees m
  pub follows : FollowsLines named nodes lines m ends

abbrev pub GatheredListsAgree : Type 0
GatheredListsAgree = (named : Bool) → (nodes : ℕ) → (lines : List Line) → (m : Mesh) → (ends : List End) → ArePlayable named nodes 0 lines
    → AreGathered named nodes lines m ends → IsRunOf named nodes lines m ends
