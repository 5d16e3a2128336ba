-- A command is done where its input is right and nothing fails.
use Rattle.std.specs.Prelude.{ℕ, ◌≡◌, ◌⊎◌, ◌≤◌, true, List, [], ◌∷◌, Some, None, length}
use Rattle.base_outside.specs.Faults.{Rose}
use Rattle.journal_core.specs.declared.node_state.NodeState.{NodeState}
use Rattle.journal_core.specs.declared.request.Request.{Request}
use Rattle.journal_core.specs.Segments.{AreSound}
use Rattle.journal_text.specs.Reading.{reading_of}
use Rattle.journal_text.specs.declared.request_line.ReadRequest.TheVariants.{Read}
use Rattle.disk_segment.specs.RowsTell.{AreStarts}
use Rattle.disk_files.specs.Durable.{StandsAs, AreFilled}
use Rattle.journal_session.specs.Lines.{AreLines}
use Rattle.journal_session.specs.Session.{AreAll}
use Rattle.mesh.specs.declared.whole.Mesh.{Mesh}
use Rattle.ns_tree.specs.declared.end.End.{End}
use Rattle.play_script.specs.Scripts.{ScriptView}
use Rattle.play_script.specs.Grammar.{IsScriptText}
use Rattle.play_report.specs.Limit.{longest_report}
use Rattle.cli_commands.specs.Tools.{Tool}
use Rattle.cli_commands.specs.declared.status.Status.{Status}
use Rattle.cli_commands.specs.declared.status.Status.TheVariants as status
use Rattle.cli_commands.specs.Uses.{SourceUse, SinkUse, DiskUse, AReadFailed, AWriteFailed}
use Rattle.cli_commands.specs.Commands.{Asked, play, run, piped, mirror, boot, node, fsck, judge, states, gen, list}
use Rattle.qj_cli.specs.Sound.{AreSound as AreSoundLists, ComeOf}
use Rattle.qj_cli.specs.Boots.{IsBooted}
use Rattle.qj_cli.specs.Report.{IsReport}
use Rattle.qj_cli.specs.Plays.{longest_script}
use Rattle.qj_cli.specs.Pipes.{pipe_line_of}
use Rattle.cli_commands.specs.Listing.{longest_file, IsInGrammar, file_under}

-- ## Input in its grammar and within the limits
-- the source's bytes are a script's
pub record HasText (source : SourceUse) : Type 0 where
  pub bytes : List ℕ
  pub told : source.told ≡ Some bytes
  pub short : length bytes ≤ longest_script
  pub script : ScriptView
  pub reads : IsScriptText bytes script

-- and none of its reports is longer than a report may be
pub record HasScript (Leaves : ScriptView → Mesh → List End → Type 0) (source : SourceUse) : Type 0 where
  pub has : HasText source
  pub within : (text : List ℕ) → IsReport Leaves has.bytes text → length text ≤ longest_report

-- and no line of it is one that pipes don't carry
pub record HasPiped (source : SourceUse) : Type 0 where
  pub has : HasScript AreSoundLists source
  pub carried : pipe_line_of has.has.bytes ≡ None

-- a script with names, over whose nodes a standby doesn't write more than a report may have
pub record HasNames (source : SourceUse) : Type 0 where
  pub has : HasText source
  pub named : has.script.named ≡ true
  pub within : (text : List ℕ) → IsBooted has.bytes text → length text ≤ longest_report

abbrev pub AreRequests : List (List ℕ) → Type 0
AreRequests [] = Unit {0}
AreRequests (line ∷ lines) = ((request : Request) × (reading_of line ≡ Read request)) × AreRequests lines

-- the source's bytes are request lines, of which the last may lack its end
pub record HasRequests (source : SourceUse) : Type 0 where
  pub bytes : List ℕ
  pub told : source.told ≡ Some bytes
  pub lines : List (List ℕ)
  pub all : AreAll bytes lines
  pub each : AreLines lines
  pub requests : AreRequests lines

-- the source's bytes are no more than a report may have
pub record HasShort (source : SourceUse) : Type 0 where
  pub bytes : List ℕ
  pub told : source.told ≡ Some bytes
  pub short : length bytes ≤ longest_report

-- the disk's files stand for a state that a node may have
pub record HasNode {D : Type 0} (disk : DiskUse D) : Type 0 where
  pub tells : disk.tells disk.before
  pub state : NodeState
  pub stood : StandsAs (disk.view disk.before).seen state
  pub sound : AreSound state.segments
  pub starts : AreStarts state.segments
  pub filled : AreFilled state.segments

-- the disk has such a file as the tool wants under the name
pub record HasFile {D : Type 0} (of : Tool) (disk : DiskUse D) (name : List ℕ) : Type 0 where
  pub tells : disk.tells disk.before
  pub bytes : List ℕ
  pub there : file_under disk name ≡ Some bytes
  pub short : length bytes ≤ longest_file
  pub is : IsInGrammar of bytes

-- what a command wants of its input
abbrev pub IsRight : {D : Type 0} → Asked → SourceUse → DiskUse D → Type 0
IsRight play source disk = HasScript ComeOf source
IsRight run source disk = HasScript AreSoundLists source
IsRight piped source disk = HasPiped source
IsRight mirror source disk = HasText source
IsRight boot source disk = HasNames source
IsRight node source disk = HasRequests source × HasNode disk
IsRight fsck source disk = Unit {0}
IsRight judge source disk = HasShort source
IsRight states source disk = HasShort source
IsRight (gen number edits nodes) source disk = Unit {0}
IsRight (list of name) source disk = HasFile of disk name

-- ## The clause
-- no count of faults rose
pub record NothingFails {D : Type 0} (source : SourceUse) (sink : SinkUse) (disk : DiskUse D) : Type 0 where
  pub reads : AReadFailed source → ⊥
  pub writes : AWriteFailed sink → ⊥
  pub calls : Rose (disk.faults disk.before) (disk.faults disk.now) → ⊥

-- A command that was done has status Ok, or Unsound where it told a finding, or that lists don't
-- agree; or of a report BadScript, where it told a line that breaks a rule.
abbrev pub IsDone : Asked → Status → Type 0
IsDone play s = s ≡ status.Ok
IsDone run s = s ≡ status.Ok
IsDone piped s = s ≡ status.Ok
IsDone mirror s = s ≡ status.Ok
IsDone boot s = s ≡ status.Ok
IsDone node s = s ≡ status.Ok
IsDone fsck s = (s ≡ status.Ok) ⊎ (s ≡ status.Unsound)
IsDone judge s = (s ≡ status.Ok) ⊎ ((s ≡ status.Unsound) ⊎ (s ≡ status.BadScript))
IsDone states s = (s ≡ status.Ok) ⊎ ((s ≡ status.Unsound) ⊎ (s ≡ status.BadScript))
IsDone (gen number edits nodes) s = s ≡ status.Ok
IsDone (list of name) s = s ≡ status.Ok

-- where the input is right and nothing fails the command is done, or memory ran out
abbrev pub IsComplete : {D : Type 0} → Asked → SourceUse → SinkUse → DiskUse D → Status → Type 0
IsComplete asked source sink disk s = IsRight asked source disk → NothingFails source sink disk → IsDone asked s ⊎ (s ≡ status.OutOfMemory)
