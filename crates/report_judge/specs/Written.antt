-- Lists that have a report which is read.
use Rattle.std.specs.Prelude.{ℕ, ◌≡◌, ◌≢◌, ◌<◌, ◌≤◌, ◌^◌, true, List, [], ◌∷◌, length, Option, Some, None}
use Rattle.std.specs.List.{AllByRecursion}
use Rattle.journal_core.specs.Nodes.{PermittedNodes}
use Rattle.journal_core.specs.Peers.{FitsHeard}
use Rattle.journal_core.specs.declared.request.Request.{Request}
use Rattle.journal_core.specs.declared.heard.Heard.TheVariants.{Answer}
use Rattle.journal_text.specs.Lines.{IsRequest}
use Rattle.journal_text.specs.Exact.{IsWide, IsReadable}
use Rattle.journal_history.specs.declared.stop.Stop.{Stop}
use Rattle.journal_history.specs.declared.stop.Stop.TheVariants as stop
use Rattle.journal_history.specs.declared.node_ask.NodeAsk.{NodeAsk}
use Rattle.journal_history.specs.declared.node_ask.NodeAsk.TheVariants as ask
use Rattle.journal_history.specs.declared.node_ask.NodeAnswer.{NodeAnswer}
use Rattle.journal_history.specs.declared.node_ask.NodeAnswer.TheVariants as answer
use Rattle.journal_history.specs.declared.history_line.HistoryLine.{HistoryLine}
use Rattle.journal_history.specs.declared.record.Told.{Told}
use Rattle.journal_history.specs.declared.record.Told.TheVariants as told
use Rattle.journal_history.specs.declared.record.Record.{Record}
use Rattle.journal_history.specs.declared.record.Record.TheVariants as record_
use Rattle.ns_tree.specs.declared.inode.Inode.{Inode}
use Rattle.ns_tree.specs.declared.inode.Inode.TheVariants.{Dir, File}
use Rattle.ns_tree.specs.declared.inode.Row.{Row}
use Rattle.ns_tree.specs.declared.end.LastSpace.{LastSpace}
use Rattle.ns_tree.specs.declared.end.End.{End}
use Rattle.play_script.specs.Lines.{Lacks}
use Rattle.play_script.specs.Words.{is_name}
use Rattle.report_judge.specs.declared.answer.Lists.{Lists}
use Rattle.report_judge.specs.Reading.{lists_of}
use Rattle.report_judge.specs.Reads.{IsReportOf}

-- ## Lines
-- the numbers of a stop are of 64 bits
abbrev pub IsStop : Stop → Type 0
IsStop (stop.Effects keep) = IsWide keep
IsStop (stop.DiskCalls calls choice) = IsWide calls

-- what was asked has a text
abbrev pub IsAsked : NodeAsk → Type 0
IsAsked (ask.Act late r) = IsRequest r
IsAsked ask.Kill = Unit {0}
IsAsked ask.Restart = Unit {0}
IsAsked (ask.Arm calls s) = IsWide calls × IsStop s

-- a reply has a text, and answers the request
abbrev pub IsReplied : Request → NodeAnswer → Type 0
IsReplied r (answer.Replied reply) = IsReadable reply × FitsHeard r (Answer reply)
IsReplied r (answer.Stopped keep) = IsWide keep
IsReplied r _ = ⊥

abbrev pub IsDone : NodeAnswer → Type 0
IsDone answer.Done = Unit {0}
IsDone answer.Idle = Unit {0}
IsDone _ = ⊥

abbrev pub IsAnswered : NodeAsk → NodeAnswer → Type 0
IsAnswered (ask.Act late r) a = IsReplied r a
IsAnswered ask.Kill a = IsDone a
IsAnswered ask.Restart a = IsDone a
IsAnswered (ask.Arm calls s) a = IsDone a

-- a line of a history of so many actors, and of their operator
pub record IsHistoryLine (actors : ℕ) (h : HistoryLine) : Type 0 where
  pub caller : h.caller ≤ actors
  pub asked : IsAsked h.ask
  pub answered : IsAnswered h.ask h.answer

abbrev pub IsHeard : Request → Told → Type 0
IsHeard r (told.Reply reply) = IsReadable reply × FitsHeard r (Answer reply)
IsHeard r told.Dropped = Unit {0}
IsHeard r told.Muted = Unit {0}
IsHeard r told.Silent = Unit {0}

abbrev pub IsNodeOf : ℕ → ℕ → Type 0
IsNodeOf nodes node = (1 ≤ node) × (node ≤ nodes)

-- an order, and no request
abbrev pub IsOrder : NodeAsk → Type 0
IsOrder (ask.Act late r) = ⊥
IsOrder ask.Kill = Unit {0}
IsOrder ask.Restart = Unit {0}
IsOrder (ask.Arm calls s) = IsWide calls × IsStop s

-- a line of a record over so many nodes; a result is some bytes in a line
abbrev pub IsRecordLine : ℕ → Record → Type 0
IsRecordLine nodes (record_.Call node r t) = IsNodeOf nodes node × IsRequest r × IsHeard r t
IsRecordLine nodes (record_.Late node r) = IsNodeOf nodes node × IsRequest r
IsRecordLine nodes (record_.Operator node q done) = IsNodeOf nodes node × IsOrder q
IsRecordLine nodes (record_.Outcome text) = (text ≢ []) × Lacks 10 text

-- ## What an actor holds at last
-- a text without a tab, in a line
abbrev pub IsColumn : List ℕ → Type 0
IsColumn text = Lacks 10 text × Lacks 9 text

-- the numbers have their widths, and a file at most 16,384 blocks
abbrev pub IsInode : Inode → Type 0
IsInode (Dir mtime permission user group names space) = IsWide mtime × IsWide names × IsWide space × IsColumn user × IsColumn group
IsInode (File replication mtime atime block_size permission user group lengths open_) =
    (replication < 2 ^ 16) × IsWide mtime × IsWide atime × IsWide block_size × (length lengths ≤ 16384) × AllByRecursion IsWide lengths × IsColumn user × IsColumn group

pub record IsRow (row : Row) : Type 0 where
  pub path : IsColumn row.path
  pub inode : IsInode row.inode

abbrev pub IsHeld : Option LastSpace → Type 0
IsHeld None = Unit {0}
IsHeld (Some last) = IsWide last.position × AllByRecursion IsRow last.rows

-- ## The whole
-- each has a name of its own
abbrev pub AreNamed : List End → Type 0
AreNamed [] = Unit {0}
AreNamed (e ∷ ends) = (is_name e.name ≡ true) × AllByRecursion (λ (other : End). other.name ≢ e.name) ends × AreNamed ends

-- Lists within the limits: a permitted number of nodes with a history each, at most eight actors
-- with names of their own, and a record for each of them and one for the operator.
pub record AreWritten (lists : Lists) : Type 0 where
  pub permitted : PermittedNodes lists.mesh.nodes
  pub histories : length lists.mesh.histories ≡ lists.mesh.nodes
  pub history_lines : AllByRecursion (AllByRecursion (IsHistoryLine (length lists.ends))) lists.mesh.histories
  pub actors : length lists.ends ≤ 8
  pub named : AreNamed lists.ends
  pub held : AllByRecursion (λ (e : End). IsHeld e.last) lists.ends
  pub records : length lists.ends < length lists.mesh.records
  pub record_lines : AllByRecursion (AllByRecursion (IsRecordLine lists.mesh.nodes)) lists.mesh.records

-- no lists are read of the bytes, and they are no report of lists within the limits
pub record NoReport (bytes : List ℕ) : Type 0 where
  pub none : lists_of bytes ≡ None
  pub of_none : (lists : Lists) → AreWritten lists → IsReportOf bytes lists → ⊥
