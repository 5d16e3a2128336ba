-- Meshes that do not agree: each breaks one part of the agreement; and one whose results tell of no
-- edit.
use Rattle.std.specs.Prelude.{List, [], ◌∷◌, None, codes}
use Rattle.journal_core.specs.declared.request.Request.TheVariants as request
use Rattle.journal_core.specs.declared.reply.Reply.TheVariants as reply
use Rattle.journal_history.specs.declared.mark.MarkKind.TheVariants as kind
use Rattle.journal_history.specs.declared.record.Record.{Record}
use Rattle.journal_history.specs.declared.record.Record.TheVariants.{Outcome}
use Rattle.mesh.specs.declared.whole.Mesh.{Mesh}
use Rattle.mesh.specs.Marks.{mark}
use Rattle.play_laws.specs.FirstRun.{Exchange, exchange, asking, proposing, starting, opening, first_edit, second_edit, listed_by_node, called, first_history, first_mesh}

-- Node 1 lost its last line, which the writer heard.
unfoldable pub lost_line : Mesh
lost_line =
    record first_mesh {
      histories = listed_by_node (asking ∷ proposing ∷ starting ∷ opening ∷ first_edit ∷ second_edit ∷ []) ∷ first_history ∷ first_history ∷ [];
    }

-- one node, one writer without marks, and what each lists
abbrev pub one_node : List Exchange → List Record → Mesh
one_node xs rs = record { nodes = 1; histories = listed_by_node xs ∷ []; records = rs ∷ [] ∷ []; plan = [] ∷ [] }

-- Node 1 lists a line twice that the writer lists once.
unfoldable pub doubled_line : Mesh
doubled_line = one_node (asking ∷ asking ∷ []) (called 1 asking ∷ [])

-- Two lines stand the other way round, in both lists: no node answers so.
unfoldable pub swapped_lines : Mesh
swapped_lines = one_node (asking ∷ opening ∷ starting ∷ []) (called 1 asking ∷ called 1 opening ∷ called 1 starting ∷ [])

-- The writer heard an answer that the node did not give.
unfoldable pub made_up : Mesh
made_up = one_node (asking ∷ []) (called 1 (exchange request.State (reply.State 7)) ∷ [])

-- The writer heard that nothing is promised, and proposes epoch 5 all the same: no tasks make these
-- calls.
abbrev pub proposing_five : Exchange
proposing_five = exchange (request.NewEpoch 5) (reply.NewEpoch None)

unfoldable pub wrong_epoch : Mesh
wrong_epoch = one_node (asking ∷ proposing_five ∷ []) (called 1 asking ∷ called 1 proposing_five ∷ [])

-- The plan drops a call that was delivered.
unfoldable pub undropped : Mesh
undropped = record (one_node (asking ∷ []) (called 1 asking ∷ [])) { plan = (mark 1 1 kind.Dropped ∷ []) ∷ [] }

-- The operator asks what only actors ask.
unfoldable pub asking_operator : Mesh
asking_operator = record { nodes = 1; histories = listed_by_node (asking ∷ []) ∷ []; records = (called 1 asking ∷ []) ∷ []; plan = [] }

-- The writer says that an edit is acknowledged, and logged none.
unfoldable pub only_said : Mesh
only_said = one_node (asking ∷ []) (called 1 asking ∷ Outcome (codes "acked 5") ∷ [])
