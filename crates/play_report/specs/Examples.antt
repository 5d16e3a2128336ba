-- Small meshes and their reports: one with every kind of line, and one with names.
use Rattle.std.specs.Prelude.{ℕ, List, [], ◌∷◌, ◌++◌, Some, None, true, false, codes}
use Rattle.std.specs.List.{flat_map}
use Rattle.journal_core.specs.Views.{HeadView}
use Rattle.journal_core.specs.declared.cut.Cut.TheVariants as cut
use Rattle.journal_core.specs.declared.request.Request.{Request}
use Rattle.journal_core.specs.declared.request.Request.TheVariants as request
use Rattle.journal_core.specs.declared.reply.Reply.{Reply}
use Rattle.journal_core.specs.declared.reply.Reply.TheVariants as reply
use Rattle.journal_core.specs.declared.refusal.Refusal.TheVariants as refusal
use Rattle.journal_history.specs.declared.stop.Stop.TheVariants as stop
use Rattle.journal_history.specs.declared.node_ask.NodeAsk.{NodeAsk}
use Rattle.journal_history.specs.declared.node_ask.NodeAsk.TheVariants as ask
use Rattle.journal_history.specs.declared.node_ask.NodeAnswer.{NodeAnswer}
use Rattle.journal_history.specs.declared.node_ask.NodeAnswer.TheVariants as answer
use Rattle.journal_history.specs.declared.history_line.HistoryLine.{HistoryLine}
use Rattle.journal_history.specs.declared.record.Told.TheVariants as told
use Rattle.journal_history.specs.declared.record.Record.{Record}
use Rattle.journal_history.specs.declared.record.Record.TheVariants as record_
use Rattle.ns_tree.specs.declared.inode.Inode.TheVariants.{Dir}
use Rattle.ns_tree.specs.declared.end.End.{End}
use Rattle.ns_tree.specs.Space.{pair, root_pair}
use Rattle.mesh.specs.declared.whole.Mesh.{Mesh}

-- one line per text
abbrev pub of_lines : List (List ℕ) → List ℕ
of_lines lines = flat_map (λ line. line ++ 10 ∷ []) lines

abbrev pub asked : ℕ → Request → Reply → HistoryLine
asked caller q r = record { caller = caller; ask = ask.Act false q; answer = answer.Replied r }

abbrev pub ordered : NodeAsk → NodeAnswer → HistoryLine
ordered q r = record { caller = 2; ask = q; answer = r }

abbrev pub head : HeadView
head = record { epoch = 1; serial = 3; committed = 1 }

abbrev pub logged : Request
logged = request.Journal head 1 (record { first = 2; bodies = (10 ∷ []) ∷ (255 ∷ 0 ∷ []) ∷ [] })

-- two writers
abbrev pub two_ends : List End
two_ends = record { name = codes "a"; last = None } ∷ record { name = codes "b"; last = None } ∷ []

abbrev pub small_mesh : Mesh
small_mesh =
    record {
      nodes = 2;
      histories =
          (asked 0 request.State (reply.State 0)
          ∷ asked 1 (request.NewEpoch 1) (reply.NewEpoch None)
          ∷ ordered (ask.Arm 1 (stop.Effects 2)) answer.Done
          ∷ record { caller = 0; ask = ask.Act false logged; answer = answer.Stopped 1 }
          ∷ ordered ask.Kill answer.Idle
          ∷ ordered ask.Restart answer.Done
          ∷ [])
          ∷ (ordered (ask.Arm 2 (stop.DiskCalls 3 cut.A5)) answer.Done
          ∷ record { caller = 1; ask = ask.Act true logged; answer = answer.Replied (reply.Refused (refusal.EpochRefused 2)) }
          ∷ [])
          ∷ [];
      records =
          (record_.Call 1 request.State (told.Reply (reply.State 0)) ∷ record_.Call 1 logged told.Silent ∷ record_.Call 2 logged told.Dropped ∷ record_.Outcome (codes "aborted silent silent") ∷ [])
          ∷ (record_.Call 1 (request.NewEpoch 1) told.Muted ∷ record_.Late 2 logged ∷ [])
          ∷ (record_.Operator 1 (ask.Arm 1 (stop.Effects 2)) true ∷ record_.Operator 1 ask.Kill false ∷ record_.Operator 1 ask.Restart true ∷
          record_.Operator 2 (ask.Arm 2 (stop.DiskCalls 3 cut.A5)) true ∷ [])
          ∷ [];
      plan = [] ∷ [] ∷ [];
    }

abbrev pub small_report : List ℕ
small_report =
    of_lines
    (codes "nodes 2"
    ∷ codes "node 1"
    ∷ codes "a state -> state 0"
    ∷ codes "b new 1 -> new none"
    ∷ codes "ops stop 1 2 -> done"
    ∷ codes "a journal 1 3 1 1 2 0a ff00 -> stopped 1"
    ∷ codes "ops kill -> idle"
    ∷ codes "ops restart -> done"
    ∷ codes "node 2"
    ∷ codes "ops cut 2 3 a5 -> done"
    ∷ codes "b late journal 1 3 1 1 2 0a ff00 -> refused 3 EpochRefused 2"
    ∷ codes "actor a"
    ∷ codes "1 state -> state 0"
    ∷ codes "1 journal 1 3 1 1 2 0a ff00 -> silent"
    ∷ codes "2 journal 1 3 1 1 2 0a ff00 -> dropped"
    ∷ codes "= aborted silent silent"
    ∷ codes "actor b"
    ∷ codes "1 new 1 -> muted"
    ∷ codes "2 late journal 1 3 1 1 2 0a ff00 -> gone"
    ∷ codes "actor ops"
    ∷ codes "1 stop 1 2 -> done"
    ∷ codes "1 kill -> idle"
    ∷ codes "1 restart -> done"
    ∷ codes "2 cut 2 3 a5 -> done"
    ∷ codes "end"
    ∷ [])

-- no actor, and nothing done by the operator
abbrev pub still_mesh : Mesh
still_mesh = record { nodes = 1; histories = [] ∷ []; records = [] ∷ []; plan = [] }

-- ## With names: one node, a writer that logs a directory, and a standby that tails before it is committed
abbrev pub directory_body : List ℕ
directory_body = 3 ∷ 0 ∷ 2 ∷ 47 ∷ 117 ∷ 0 ∷ 0 ∷ 0 ∷ 0 ∷ 0 ∷ 0 ∷ 0 ∷ 10 ∷ 1 ∷ 237 ∷ 0 ∷ 4 ∷ 104 ∷ 100 ∷ 102 ∷ 115 ∷ 0 ∷ 4 ∷ 104 ∷ 100 ∷ 102 ∷ 115 ∷ []

abbrev pub proposed : Request
proposed = request.NewEpoch 1

abbrev pub begun : Request
begun = request.Start (record { epoch = 1; serial = 1; committed = 0 }) 1

abbrev pub opened : Request
opened = request.Journal (record { epoch = 1; serial = 2; committed = 0 }) 1 (record { first = 1; bodies = (24 ∷ []) ∷ [] })

abbrev pub logged_directory : Request
logged_directory = request.Journal (record { epoch = 1; serial = 3; committed = 1 }) 1 (record { first = 2; bodies = directory_body ∷ [] })

abbrev pub first_edits : Reply
first_edits = reply.Edits (record { first = 1; bodies = (24 ∷ []) ∷ [] })

abbrev pub no_more_edits : Reply
no_more_edits = reply.Refused (refusal.NotHere 1)

abbrev pub called : Request → Reply → Record
called q r = record_.Call 1 q (told.Reply r)

-- the directory stands in the writer's namespace alone
abbrev pub names_ends : List End
names_ends =
    record {
      name = codes "a";
      last = Some (record {
        position = 2;
        rows = pair (codes "/") (Dir 10 493 (codes "hdfs") (codes "supergroup") 0 0) ∷ pair (codes "/u") (Dir 10 493 (codes "hdfs") (codes "hdfs") 0 0) ∷ [];
      });
    }
    ∷ record { name = codes "s"; last = Some (record { position = 1; rows = root_pair ∷ [] }) } ∷ []

abbrev pub names_mesh : Mesh
names_mesh =
    record {
      nodes = 1;
      histories =
          (asked 0 request.State (reply.State 0) ∷ asked 0 proposed (reply.NewEpoch None) ∷ asked 0 begun reply.Ok ∷ asked 0 opened reply.Ok ∷ asked 0 logged_directory reply.Ok
          ∷ asked 1 (request.Read 1) first_edits ∷ asked 1 (request.Read 2) no_more_edits ∷ ordered ask.Kill answer.Done ∷ [])
          ∷ [];
      records =
          (called request.State (reply.State 0) ∷ called proposed (reply.NewEpoch None) ∷ called begun reply.Ok ∷ called opened reply.Ok ∷ record_.Outcome (codes "takeover 1 1")
          ∷ called logged_directory reply.Ok ∷ record_.Outcome (codes "acked 2") ∷ [])
          ∷ (called (request.Read 1) first_edits ∷ called (request.Read 2) no_more_edits ∷ record_.Outcome (codes "tail 1") ∷ [])
          ∷ (record_.Operator 1 ask.Kill true ∷ [])
          ∷ [];
      plan = [] ∷ [] ∷ [];
    }

abbrev pub names_report : List ℕ
names_report =
    of_lines
    (codes "nodes 1"
    ∷ codes "node 1"
    ∷ codes "a state -> state 0"
    ∷ codes "a new 1 -> new none"
    ∷ codes "a start 1 1 0 1 -> ok"
    ∷ codes "a journal 1 2 0 1 1 18 -> ok"
    ∷ codes "a journal 1 3 1 1 2 0300022f75000000000000000a01ed000468646673000468646673 -> ok"
    ∷ codes "s read 1 -> edits 1 18"
    ∷ codes "s read 2 -> refused 15 NotHere 1"
    ∷ codes "ops kill -> done"
    ∷ codes "actor a"
    ∷ codes "1 state -> state 0"
    ∷ codes "1 new 1 -> new none"
    ∷ codes "1 start 1 1 0 1 -> ok"
    ∷ codes "1 journal 1 2 0 1 1 18 -> ok"
    ∷ codes "= takeover 1 1"
    ∷ codes "1 journal 1 3 1 1 2 0300022f75000000000000000a01ed000468646673000468646673 -> ok"
    ∷ codes "= acked 2"
    ∷ codes "position 2"
    ∷ codes ". /\t0\t10\t0\t0\t0\t0\t-1\t-1\tdrwxr-xr-x\thdfs\tsupergroup"
    ∷ codes ". /u\t0\t10\t0\t0\t0\t0\t-1\t-1\tdrwxr-xr-x\thdfs\thdfs"
    ∷ codes "actor s"
    ∷ codes "1 read 1 -> edits 1 18"
    ∷ codes "1 read 2 -> refused 15 NotHere 1"
    ∷ codes "= tail 1"
    ∷ codes "position 1"
    ∷ codes ". /\t0\t0\t0\t0\t0\t0\t-1\t-1\tdrwxr-xr-x\thdfs\tsupergroup"
    ∷ codes "actor ops"
    ∷ codes "1 kill -> done"
    ∷ codes "end"
    ∷ [])
