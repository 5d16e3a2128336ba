-- Scripts and texts, worked out at check time.
use Rattle.std.specs.Prelude.{ℕ, List, [], ◌∷◌, ◌++◌, codes, false, true, None, Some}
use Rattle.edit_ops.specs.Records.{EditView}
use Rattle.edit_ops.specs.declared.op.Op.TheVariants as op
use Rattle.journal_core.specs.declared.cut.Cut.TheVariants as cut
use Rattle.journal_history.specs.declared.stop.Stop.TheVariants as stop
use Rattle.play_script.specs.declared.script_line.ScriptLine.TheVariants.{Declare, Takeover, Roll, Close, Log, Edits, Purge, Trim, Tail, Checkpoint, Reload, Drop, Mute, Late, Kill, Restart, Arm}
use Rattle.play_script.specs.Scripts.{ScriptView}
use Rattle.play_script.specs.Lines.{ended}

-- three nodes, one writer, three edits
abbrev pub one_writer : ScriptView
one_writer =
    record {
      named = false;
      nodes = 3;
      lines = Declare (97 ∷ []) ∷ Takeover 0 ∷ Log 0 ((10 ∷ []) ∷ []) ∷ Log 0 ((11 ∷ []) ∷ []) ∷ Log 0 ((12 ∷ []) ∷ []) ∷ [];
    }

abbrev pub one_writer_lines : List (List ℕ)
one_writer_lines =
    codes "raw 3" ∷ codes "writer a" ∷ codes "takeover a" ∷ codes "log a 0a" ∷ codes "log a 0b" ∷ codes "log a 0c" ∷ []

-- the lines of the first script, with comments and empty lines
abbrev pub commented_lines : List (List ℕ)
commented_lines =
    codes "# three edits" ∷ [] ∷ codes "raw 3" ∷ codes "#" ∷ codes "writer a" ∷ codes "takeover a" ∷ [] ∷ codes "log a 0a" ∷ codes "log a 0b" ∷ codes "# the last" ∷ codes "log a 0c" ∷ []

-- a line of each kind, over 15 nodes
abbrev pub every_kind : ScriptView
every_kind =
    record {
      named = false;
      nodes = 15;
      lines =
          Declare (97 ∷ []) ∷ Declare (98 ∷ 49 ∷ []) ∷ Drop 1 2 3 ∷ Mute 0 15 1 ∷ Arm 2 1 (stop.Effects 0) ∷ Takeover 0 ∷ Log 0
          ((10 ∷ []) ∷ (255 ∷ 0 ∷ []) ∷ []) ∷ Roll 0 ∷ Purge 0 3 ∷ Kill 3 ∷ Restart 3
          ∷ Late 0 1 10 ∷ Arm 15 2 (stop.DiskCalls 0 cut.A5) ∷ Close 0 ∷ [];
    }

abbrev pub every_kind_lines : List (List ℕ)
every_kind_lines =
    codes "raw 15" ∷ codes "writer a" ∷ codes "writer b1" ∷ codes "drop b1 2 3" ∷ codes "mute a 15 1" ∷ codes "stop 2 1 0" ∷ codes "takeover a" ∷
    codes "log a 0a ff00" ∷ codes "roll a" ∷ codes "purge a 3" ∷ codes "kill 3"
    ∷ codes "restart 3" ∷ codes "late a 1 10" ∷ codes "cut 15 2 0 a5" ∷ codes "close a" ∷ []

-- three nodes and two writers, and then these lines
abbrev pub after_two : List (List ℕ) → List ℕ
after_two lines = ended (codes "raw 3" ∷ codes "writer a" ∷ codes "writer b" ∷ lines)

-- eight writers, and then these lines
abbrev pub after_eight : List (List ℕ) → List ℕ
after_eight lines =
    ended
    (codes "raw 3" ∷ codes "writer a" ∷ codes "writer b" ∷ codes "writer c" ∷ codes "writer d" ∷ codes "writer e" ∷ codes "writer f" ∷ codes "writer g" ∷ codes "writer h" ∷ lines)

-- these lines with their LF, and then bytes without
abbrev pub cut_off : List (List ℕ) → List ℕ → List ℕ
cut_off lines rest = ended lines ++ rest

-- ## With namespaces
-- `mkdir /u 10 755 u g`, and the same by the seventh call of the client 170
abbrev pub a_directory : EditView
a_directory = record { op = op.Mkdir (codes "/u") 10 493 (codes "u") (codes "g"); call = None }

abbrev pub a_called_directory : EditView
a_called_directory = record {
  op = op.Mkdir (codes "/u") 10 493 (codes "u") (codes "g");
  call = Some (record { client = 0 ∷ 0 ∷ 0 ∷ 0 ∷ 0 ∷ 0 ∷ 0 ∷ 0 ∷ 0 ∷ 0 ∷ 0 ∷ 0 ∷ 0 ∷ 0 ∷ 0 ∷ 170 ∷ []; number = 7 });
}

abbrev pub a_file_closed : EditView
a_file_closed = record { op = op.Close (codes "/u/f") 11 12 (5 ∷ 6 ∷ []); call = None }

-- a line of each kind with namespaces
abbrev pub every_names_kind : ScriptView
every_names_kind =
    record {
      named = true;
      nodes = 3;
      lines =
          Declare (97 ∷ []) ∷ Declare (98 ∷ []) ∷ Drop 1 2 3 ∷ Arm 2 1 (stop.Effects 0) ∷ Takeover 0 ∷ Edits 0
          (a_directory ∷ a_file_closed ∷ a_called_directory ∷ []) ∷ Edits 0 (a_directory ∷ []) ∷ Roll 0
          ∷ Tail 1 ∷ Checkpoint 1 ∷ Reload 1 ∷ Trim 0 10 ∷ Kill 3 ∷ Close 0 ∷ [];
    }

abbrev pub every_names_kind_lines : List (List ℕ)
every_names_kind_lines =
    codes "names 3" ∷ codes "name a" ∷ codes "name b" ∷ codes "drop b 2 3" ∷ codes "stop 2 1 0" ∷ codes "takeover a"
    ∷ codes "log a mkdir /u 10 755 u g ; close /u/f 11 12 5 6 ; call 000000000000000000000000000000aa 7 mkdir /u 10 755 u g" ∷ codes
    "log a mkdir /u 10 755 u g" ∷ codes "roll a" ∷ codes "tail b" ∷ codes "checkpoint b"
    ∷ codes "reload b" ∷ codes "trim a 10" ∷ codes "kill 3" ∷ codes "close a" ∷ []

-- three nodes and two actors with namespaces, and then these lines
abbrev pub after_two_names : List (List ℕ) → List ℕ
after_two_names lines = ended (codes "names 3" ∷ codes "name a" ∷ codes "name b" ∷ lines)
