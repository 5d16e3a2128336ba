-- The script that a number gives: two writers that log directories and files, takeovers, losses and
-- restarts between, and a standby that tails at last.
use Rattle.std.specs.Prelude.{ℕ, zero, suc, ◌+◌, ◌/◌, ◌%◌, ◌≤◌, ◌==◌, nat_lt, true, List, [], ◌∷◌, ◌++◌, None, codes, decimal, if◌then◌else◌}
use Rattle.journal_core.specs.Nodes.{PermittedNodes}
use Rattle.edit_ops.specs.Records.{EditView}
use Rattle.edit_ops.specs.declared.op.Op.TheVariants.{Mkdir, Add}
use Rattle.play_script.specs.Scripts.{ScriptView}
use Rattle.play_script.specs.declared.script_line.ScriptLine.{ScriptLine}
use Rattle.play_script.specs.declared.script_line.ScriptLine.TheVariants.{Declare, Takeover, Roll, Edits, Tail, Drop, Kill, Restart}
use Rattle.play_script.specs.declared.making.Making.{Making}
use Rattle.play_script.specs.declared.chance.Chance.{Chance}
use Rattle.play_script.specs.declared.chance.Chance.TheVariants as chance
use Rattle.play_script.specs.Draws.{next_state, drawn}

-- what may be asked for: a number up to 2 ^ 62, up to 10,000 edits, and a permitted
-- number of nodes
pub record IsWithin (number edits nodes : ℕ) : Type 0 where
  pub number_fits : number ≤ 4611686018427387904
  pub few_edits : edits ≤ 10000
  pub permitted : PermittedNodes nodes

-- ## Actors
-- the two writers and the standby, by their order of declaration
abbrev pub first_writer : ℕ
first_writer = 0

abbrev pub other_writer : ℕ → ℕ
other_writer writer = if writer == 0 then 1 else 0

abbrev pub standby : ℕ
standby = 2

-- ## What happens before an edit
-- by a number below 100
abbrev pub chance_of : ℕ → Chance
chance_of n =
    if n == 0 then chance.Switch
    else if nat_lt n 3 then chance.Roll
    else if nat_lt n 7 then chance.Drop
    else if n == 7 then chance.Restart
    else if n == 8 then chance.Retake
    else chance.Nothing

abbrev pub after_draw : Making → Making
after_draw m = record m { state = next_state m.state }

-- lines, and the generator after them
pub record Part : Type 0 where
  pub lines : List ScriptLine
  pub next : Making

-- a node that is drawn
abbrev pub node_drawn : ℕ → Making → ℕ
node_drawn nodes m = drawn nodes (next_state m.state) + 1

-- The other writer takes over; the writer rolls, loses its next call to a node, or takes over
-- again; a node is killed and comes up again; or nothing.
abbrev pub chance_lines : ℕ → Chance → Making → Part
chance_lines nodes chance.Switch m = record { lines = Takeover (other_writer m.writer) ∷ []; next = record m { writer = other_writer m.writer } }
chance_lines nodes chance.Roll m = record { lines = Roll m.writer ∷ []; next = m }
chance_lines nodes chance.Drop m = record { lines = Drop m.writer (node_drawn nodes m) 1 ∷ []; next = after_draw m }
chance_lines nodes chance.Restart m = record { lines = Kill (node_drawn nodes m) ∷ Restart (node_drawn nodes m) ∷ []; next = after_draw m }
chance_lines nodes chance.Retake m = record { lines = Takeover m.writer ∷ []; next = m }
chance_lines nodes chance.Nothing m = record { lines = []; next = m }

unfoldable pub lines_before : ℕ → Making → Part
lines_before nodes m = chance_lines nodes (chance_of (drawn 100 (next_state m.state))) (after_draw m)

-- ## Edits
-- of each hundred edits the first makes a directory, and the others files in it
abbrev pub directory_path : ℕ → List ℕ
directory_path directory = codes "/d" ++ decimal directory

abbrev pub file_path : ℕ → ℕ → List ℕ
file_path directory number = directory_path directory ++ codes "/f" ++ decimal number

-- user and group
abbrev pub owner : List ℕ
owner = codes "gen"

abbrev pub directory_edit : ℕ → ℕ → EditView
directory_edit directory number = record { op = Mkdir (directory_path directory) number 493 owner owner; call = None }

abbrev pub file_edit : ℕ → ℕ → EditView
file_edit directory number = record { op = Add (file_path directory number) 3 number number 1 420 owner owner; call = None }

-- the edit after so many others; its times are its number, from 1
abbrev pub edit_after : ℕ → EditView
edit_after count = if count % 100 == 0 then directory_edit (count / 100) (count + 1) else file_edit (count / 100) (count + 1)

-- ## The lines
-- so many edits, after so many others, each with what happens before it
unfoldable pub edit_lines : ℕ → ℕ → ℕ → Making → List ScriptLine
edit_lines nodes zero count m = []
edit_lines nodes (suc edits) count m =
    (lines_before nodes m).lines ++ Edits (lines_before nodes m).next.writer (edit_after count ∷ []) ∷ edit_lines nodes edits (count + 1) (lines_before nodes m).next

-- the actors, and the first takeover
abbrev pub first_lines : List ScriptLine
first_lines = Declare (codes "a") ∷ Declare (codes "b") ∷ Declare (codes "s") ∷ Takeover first_writer ∷ []

abbrev pub first_making : ℕ → Making
first_making number = record { state = number; writer = first_writer }

abbrev pub all_lines : ℕ → ℕ → ℕ → List ScriptLine
all_lines number edits nodes = first_lines ++ edit_lines nodes edits 0 (first_making number) ++ Tail standby ∷ []

abbrev pub generated : ℕ → ℕ → ℕ → ScriptView
generated number edits nodes = record { named = true; nodes = nodes; lines = all_lines number edits nodes }
