-- Where the input is right and nothing fails a command is done, or memory ran out.
use Rattle.std.proofs.Common.{◌≡◌, ℕ, ◌<◌, ◌≤◌, List, Option, Some, None, Bool, true, false, ◌==◌, refl, sym, ap, subst, ◌∙◌, arith, inl, inr, ◌⊎◌, ⊎_elim, length}
use Rattle.std.specs.Prelude.{if◌then◌else◌, Result, Ok, Err, IfOk, IsErr}
use Rattle.base_outside.specs.Faults.{Rose}
use Rattle.journal_core.specs.declared.segment.Segment.{Segment}
use Rattle.disk_node.specs.Opening.{IsRefusedFile}
use Rattle.disk_node.proofs.Reopens.{one_segments, not_unfilled}
use Rattle.disk_files.specs.Durable.{StandsAs, AreFilled}
use Rattle.journal_session.specs.declared.served.Served.{Served}
use Rattle.journal_session.specs.declared.served.Served.TheVariants as served
use Rattle.base_disk.specs.Files.{Files}
use Rattle.mesh.specs.declared.whole.Mesh.{Mesh}
use Rattle.ns_tree.specs.declared.end.End.{End}
use Rattle.play_script.specs.Scripts.{ScriptView}
use Rattle.play_script.specs.Rules.{fault_of}
use Rattle.play_script.specs.Laws.{ScriptBreaksNoRule}
use Rattle.play_script.specs.Naming.{names_fault_of}
use Rattle.play_script.proofs.NamingLaws.{names_break_no_rule}
use Rattle.cli_commands.specs.declared.status.Status.{Status}
use Rattle.cli_commands.specs.declared.status.Status.TheVariants as status
use Rattle.cli_commands.specs.declared.command_fault.CommandFault.{CommandFault}
use Rattle.cli_commands.specs.declared.command_fault.CommandFault.TheVariants as fault
use Rattle.cli_commands.specs.declared.command.Command.{Command}
use Rattle.cli_commands.specs.Tools.{Tool}
use Rattle.cli_commands.specs.Uses.{SourceUse, SinkUse, DiskUse}
use Rattle.cli_commands.specs.Faults.{status_of}
use Rattle.cli_commands.specs.Told.{IsToldAs, TellsFault, TellsText, Told, wrote_text, told_fault}
use Rattle.cli_commands.specs.Commands.{Asked, asked_in, play, run, piped, mirror, boot, node, fsck, judge, states, gen, list, AskFor}
use Rattle.qj_cli.specs.Sound.{AreSound, ComeOf}
use Rattle.qj_cli.specs.Pipes.{pipe_fault_of, first_of, pipe_line_of, IsPipedFault, Pipes}
use Rattle.qj_cli.specs.Plays.{longest_script, AreTold, IsReadWhole, IsTooLong, IsReadingFault, IsPlayFault, Plays}
use Rattle.qj_cli.specs.Report.{HasLongReport}
use Rattle.cli_commands.specs.Listing.{longest_file, IsTooLong as IsTooLongFile, file_under, IsFileFault, OfFile, GivesListing, IsListFault}
use Rattle.cli_commands.specs.Serving.{status_at, is_disk_fault, IsNodeSessionOf, IsNodeSession, ServesNode, IsUnopened, IsServedOrNot, opened, unopened, Serves}
use Rattle.cli_commands.specs.Checks.{status_with, GivesFindings, IsCheckFault}
use Rattle.qj_cli.specs.Generates.{IsSummaryFault, Generates}
use Rattle.qj_cli.specs.Boots.{IsBooted, HasLongBoot, IsBootFault, Boots}
use Rattle.qj_cli.specs.Mirrors.{Mirrors}
use Rattle.play_report.specs.Limit.{longest_report}
use Rattle.qj_cli.specs.Judging.{IsLongReport, agreeing, disagreeing, IsJudgeFault, JudgesReport}
use Rattle.qj_cli.specs.States.{states_of, none_of, TellsReport}
use Rattle.qj_cli.specs.Does.{Does, Refuses, NeedsThreads, ByThreads, ReadsNone}
use Rattle.qj_cli.specs.Complete.{HasText, HasScript, HasPiped, HasNames, HasShort, HasRequests, HasNode, HasFile, NothingFails, IsComplete}
use Rattle.cli_commands.proofs.OneListing.{in_grammar}
use Rattle.cli_commands.specs.Usage.{asks_piped}
use Rattle.cli_commands.proofs.WordLaws.{one_command, pipes_asked}
use Rattle.qj_cli.proofs.RequestLaws.{no_bad_next, no_long_next}

-- it is done, or memory ran out
abbrev Done : Status → Type 0
Done s = (s ≡ status.Ok) ⊎ (s ≡ status.OutOfMemory)

-- ## What was told
-- memory that ran out is told as that
memory_told : (told : CommandFault) (s : Status) → IsToldAs fault.OutOfMemory told → s ≡ status_of told → Done s
memory_told told s (inl e) is = inr (is ∙ ap status_of e)
memory_told told s (inr e) is = inr (is ∙ ap status_of e.0)

text_done : (good s : Status) (bytes : List ℕ) (sink : SinkUse) → good ≡ status.Ok → (Rose sink.faults_before sink.faults_now → ⊥) → TellsText good bytes s sink → Done s
text_done good s bytes sink e writes (inl w) = inl (w.0 ∙ e)
text_done good s bytes sink e writes (inr w) = absurd (writes w.1)

-- ## A play
some_told : (told : Option (List ℕ)) (bytes read : List ℕ) → told ≡ Some bytes → AreTold told read → read ≡ bytes
some_told None bytes read e is = absurd (cc e)
some_told (Some x) bytes read e is = is ∙ cc e

module _ (source : SourceUse) (right : HasText source) (no_rule : ScriptBreaksNoRule) where
  same_bytes : (read : List ℕ) → AreTold source.told read → read ≡ right.bytes
  same_bytes read is = some_told source.told right.bytes read right.told is

  unbroken : (read : List ℕ) → IsReadWhole source read → fault_of read ≡ None
  unbroken read whole = ap fault_of (same_bytes read whole.told) ∙ no_rule right.bytes right.script right.reads

  not_long : IsTooLong source → ⊥
  not_long long =
      let same : length long.bytes ≡ length right.bytes = ap length (same_bytes long.bytes long.told) in
      let more : longest_script < length long.bytes = long.long in
      let short : length right.bytes ≤ longest_script = right.short in
      omega (arith, same, more, short)

module _ (Leaves : ScriptView → Mesh → List End → Type 0) (source : SourceUse) (right : HasScript Leaves source)
    (reads : Rose source.faults_before source.faults_now → ⊥) (no_rule : ScriptBreaksNoRule) where
  not_reported : (read : List ℕ) → IsReadWhole source read → HasLongReport Leaves read → ⊥
  not_reported read whole long =
      let same : HasLongReport Leaves right.has.bytes = subst (HasLongReport Leaves) (same_bytes source right.has no_rule read whole.told) long in
      let within = right.within same.text same.report in
      let longer = same.longer in
      omega (arith, within, longer)

  limit_none : (number : ℕ) → IsPlayFault Leaves source (fault.Limit number) → ⊥
  limit_none number (inl is) = not_long source right.has no_rule is.1
  limit_none number (inr is) = not_reported is.0 is.1 is.2.2

  play_fault : (of : CommandFault) (s : Status) (sink : SinkUse) → IsPlayFault Leaves source of → TellsFault of s sink → Done s
  play_fault (fault.Usage place) s sink is tells = absurd is
  play_fault (fault.BadScript line rule) s sink is tells = let none : fault_of is.0 ≡ None = unbroken source right.has no_rule is.0 is.1 in let some = is.2 in absurd (cc (none, some))
  play_fault (fault.BadReport line rule) s sink is tells = absurd is
  play_fault fault.NoFile s sink is tells = absurd is
  play_fault (fault.BadBytes place cause) s sink is tells = absurd is
  play_fault (fault.BadImage place cause) s sink is tells = absurd is
  play_fault (fault.BadFile name) s sink is tells = absurd is
  play_fault fault.NoPath s sink is tells = absurd is
  play_fault fault.NotJson s sink is tells = absurd is
  play_fault (fault.BadEntry index) s sink is tells = absurd is
  play_fault (fault.TooManyEntries number) s sink is tells = absurd is
  play_fault (fault.Limit number) s sink is tells = absurd (limit_none number is)
  play_fault fault.ReadFault s sink is tells = absurd (reads is)
  play_fault fault.DiskFault s sink is tells = absurd is
  play_fault fault.OutOfMemory s sink is tells = memory_told tells.told s tells.told_as tells.status_is

  play_done : (sink : SinkUse) (s : Status) → (Rose sink.faults_before sink.faults_now → ⊥) → Plays Leaves source sink s → Done s
  play_done sink s writes (wrote_text good bytes gives tells) = text_done good s bytes sink gives.good_is writes tells
  play_done sink s writes (told_fault of is tells) = play_fault of s sink is tells

-- ## A play through pipes
module _ (source : SourceUse) (right : HasPiped source) (reads : Rose source.faults_before source.faults_now → ⊥) (no_rule : ScriptBreaksNoRule) where
  carried : (read : List ℕ) → IsReadWhole source read → pipe_fault_of read ≡ None
  carried read whole =
      let same : read ≡ right.has.has.bytes = same_bytes source right.has.has no_rule read whole.told in
      ap (λ o. first_of o (fault_of read)) (ap pipe_line_of same ∙ right.carried) ∙ unbroken source right.has.has no_rule read whole

  piped_fault : (of : CommandFault) (s : Status) (sink : SinkUse) → IsPipedFault source of → TellsFault of s sink → Done s
  piped_fault (fault.Usage place) s sink is tells = absurd is
  piped_fault (fault.BadScript line rule) s sink is tells = let none : pipe_fault_of is.0 ≡ None = carried is.0 is.1 in let some = is.2 in absurd (cc (none, some))
  piped_fault (fault.BadReport line rule) s sink is tells = absurd is
  piped_fault fault.NoFile s sink is tells = absurd is
  piped_fault (fault.BadBytes place cause) s sink is tells = absurd is
  piped_fault (fault.BadImage place cause) s sink is tells = absurd is
  piped_fault (fault.BadFile name) s sink is tells = absurd is
  piped_fault fault.NoPath s sink is tells = absurd is
  piped_fault fault.NotJson s sink is tells = absurd is
  piped_fault (fault.BadEntry index) s sink is tells = absurd is
  piped_fault (fault.TooManyEntries number) s sink is tells = absurd is
  piped_fault (fault.Limit number) s sink is tells = absurd (limit_none AreSound source right.has reads no_rule number is)
  piped_fault fault.ReadFault s sink is tells = absurd (reads is)
  piped_fault fault.DiskFault s sink is tells = absurd is
  piped_fault fault.OutOfMemory s sink is tells = memory_told tells.told s tells.told_as tells.status_is

  piped_done : (sink : SinkUse) (s : Status) → (Rose sink.faults_before sink.faults_now → ⊥) → Pipes source sink s → Done s
  piped_done sink s writes (wrote_text good bytes gives tells) = text_done good s bytes sink gives.report.good_is writes tells
  piped_done sink s writes (told_fault of is tells) = piped_fault of s sink is tells

-- ## A mirror of a play's nodes
module _ (source : SourceUse) (right : HasText source) (reads : Rose source.faults_before source.faults_now → ⊥) (no_rule : ScriptBreaksNoRule) where
  mirror_fault : (of : CommandFault) (s : Status) (sink : SinkUse) → IsReadingFault source of → TellsFault of s sink → Done s
  mirror_fault (fault.Usage place) s sink is tells = absurd is
  mirror_fault (fault.BadScript line rule) s sink is tells =
      let none : fault_of is.0 ≡ None = unbroken source right no_rule is.0 is.1 in let some = is.2 in absurd (cc (none, some))
  mirror_fault (fault.BadReport line rule) s sink is tells = absurd is
  mirror_fault fault.NoFile s sink is tells = absurd is
  mirror_fault (fault.BadBytes place cause) s sink is tells = absurd is
  mirror_fault (fault.BadImage place cause) s sink is tells = absurd is
  mirror_fault (fault.BadFile name) s sink is tells = absurd is
  mirror_fault fault.NoPath s sink is tells = absurd is
  mirror_fault fault.NotJson s sink is tells = absurd is
  mirror_fault (fault.BadEntry index) s sink is tells = absurd is
  mirror_fault (fault.TooManyEntries number) s sink is tells = absurd is
  mirror_fault (fault.Limit number) s sink is tells = absurd (not_long source right no_rule is.1)
  mirror_fault fault.ReadFault s sink is tells = absurd (reads is)
  mirror_fault fault.DiskFault s sink is tells = absurd is
  mirror_fault fault.OutOfMemory s sink is tells = memory_told tells.told s tells.told_as tells.status_is

  mirror_done : (sink : SinkUse) (s : Status) → (Rose sink.faults_before sink.faults_now → ⊥) → Mirrors source sink s → Done s
  mirror_done sink s writes (wrote_text good bytes gives tells) = text_done good s bytes sink gives.good_is writes tells
  mirror_done sink s writes (told_fault of is tells) = mirror_fault of s sink is tells

-- ## A standby that boots over a play's nodes
module _ (source : SourceUse) (right : HasNames source) (reads : Rose source.faults_before source.faults_now → ⊥) (no_rule : ScriptBreaksNoRule) where
  names_unbroken : (read : List ℕ) → IsReadWhole source read → names_fault_of read ≡ None
  names_unbroken read whole =
      ap names_fault_of (same_bytes source right.has no_rule read whole.told) ∙ names_break_no_rule right.has.bytes right.has.script no_rule right.has.reads right.named

  not_long_boot : HasLongBoot source → ⊥
  not_long_boot long =
      let booted = subst (λ (bytes : List ℕ). IsBooted bytes long.text) (same_bytes source right.has no_rule long.bytes long.read.told) long.booted in
      let within = right.within long.text booted in
      let longer = long.longer in
      omega (arith, within, longer)

  boot_limit : (number : ℕ) → IsBootFault source (fault.Limit number) → ⊥
  boot_limit number (inl is) = not_long source right.has no_rule is.1
  boot_limit number (inr is) = not_long_boot is.1

  boot_fault : (of : CommandFault) (s : Status) (sink : SinkUse) → IsBootFault source of → TellsFault of s sink → Done s
  boot_fault (fault.Usage place) s sink is tells = absurd is
  boot_fault (fault.BadScript line rule) s sink is tells =
      let none : names_fault_of is.0 ≡ None = names_unbroken is.0 is.1 in let some = is.2 in absurd (cc (none, some))
  boot_fault (fault.BadReport line rule) s sink is tells = absurd is
  boot_fault fault.NoFile s sink is tells = absurd is
  boot_fault (fault.BadBytes place cause) s sink is tells = absurd is
  boot_fault (fault.BadImage place cause) s sink is tells = absurd is
  boot_fault (fault.BadFile name) s sink is tells = absurd is
  boot_fault fault.NoPath s sink is tells = absurd is
  boot_fault fault.NotJson s sink is tells = absurd is
  boot_fault (fault.BadEntry index) s sink is tells = absurd is
  boot_fault (fault.TooManyEntries number) s sink is tells = absurd is
  boot_fault (fault.Limit number) s sink is tells = absurd (boot_limit number is)
  boot_fault fault.ReadFault s sink is tells = absurd (reads is)
  boot_fault fault.DiskFault s sink is tells = absurd is
  boot_fault fault.OutOfMemory s sink is tells = memory_told tells.told s tells.told_as tells.status_is

  boot_done : (sink : SinkUse) (s : Status) → (Rose sink.faults_before sink.faults_now → ⊥) → Boots source sink s → Done s
  boot_done sink s writes (wrote_text good bytes gives tells) = text_done good s bytes sink gives.good_is writes tells
  boot_done sink s writes (told_fault of is tells) = boot_fault of s sink is tells

-- ## A generated script
summary_fault : (of : CommandFault) (s : Status) (sink : SinkUse) → IsSummaryFault of → TellsFault of s sink → Done s
summary_fault (fault.Usage place) s sink is tells = absurd is
summary_fault (fault.BadScript line rule) s sink is tells = absurd is
summary_fault (fault.BadReport line rule) s sink is tells = absurd is
summary_fault fault.NoFile s sink is tells = absurd is
summary_fault (fault.BadBytes place cause) s sink is tells = absurd is
summary_fault (fault.BadImage place cause) s sink is tells = absurd is
summary_fault (fault.BadFile name) s sink is tells = absurd is
summary_fault fault.NoPath s sink is tells = absurd is
summary_fault fault.NotJson s sink is tells = absurd is
summary_fault (fault.BadEntry index) s sink is tells = absurd is
summary_fault (fault.TooManyEntries number) s sink is tells = absurd is
summary_fault (fault.Limit number) s sink is tells = absurd is
summary_fault fault.ReadFault s sink is tells = absurd is
summary_fault fault.DiskFault s sink is tells = absurd is
summary_fault fault.OutOfMemory s sink is tells = memory_told tells.told s tells.told_as tells.status_is

generates_done : (number edits nodes : ℕ) (sink : SinkUse) (s : Status) → (Rose sink.faults_before sink.faults_now → ⊥) → Generates number edits nodes sink s → Done s
generates_done number edits nodes sink s writes (wrote_text good bytes gives tells) = text_done good s bytes sink gives.good_is writes tells
generates_done number edits nodes sink s writes (told_fault of is tells) = summary_fault of s sink is tells

-- ## A listing
module _ {D : Type 0} (of : Tool) (name : List ℕ) (disk : DiskUse D) (right : HasFile of disk name) (calls : Rose (disk.faults disk.before) (disk.faults disk.now) → ⊥) where
  there : (P : Option (List ℕ) → Type 0) → OfFile disk name P → P (Some right.bytes)
  there P is = subst P (is.same right.tells ∙ right.there) is.so

  some_file : Some right.bytes ≡ None → ⊥
  some_file e = cc e

  file_long : (file : Option (List ℕ)) → file ≡ Some right.bytes → IsTooLongFile file → ⊥
  file_long None e is = is
  file_long (Some bytes) e is =
      let same : length bytes ≡ length right.bytes = ap length (let p : bytes ≡ right.bytes = cc e in p) in
      let short : length right.bytes ≤ longest_file = right.short in
      omega (arith, same, is, short)

  list_fault : (why : CommandFault) (s : Status) (sink : SinkUse) → IsListFault of name disk why → TellsFault why s sink → Done s
  list_fault (fault.Usage place) s sink is tells = absurd is
  list_fault (fault.BadScript line rule) s sink is tells = absurd is
  list_fault (fault.BadReport line rule) s sink is tells = absurd is
  list_fault fault.NoFile s sink is tells = absurd (some_file (there (λ file. IsFileFault of file fault.NoFile) is))
  list_fault (fault.BadBytes place cause) s sink is tells = absurd (in_grammar of right.bytes (fault.BadBytes place cause) right.is
      (there (λ file. IsFileFault of file (fault.BadBytes place cause)) is).1)
  list_fault (fault.BadImage place cause) s sink is tells = absurd (in_grammar of right.bytes (fault.BadImage place cause) right.is
      (there (λ file. IsFileFault of file (fault.BadImage place cause)) is).1)
  list_fault (fault.BadFile file) s sink is tells = absurd is
  list_fault fault.NoPath s sink is tells = absurd (in_grammar of right.bytes fault.NoPath right.is (there (λ file. IsFileFault of file fault.NoPath) is).1)
  list_fault fault.NotJson s sink is tells = absurd (in_grammar of right.bytes fault.NotJson right.is (there (λ file. IsFileFault of file fault.NotJson) is).1)
  list_fault (fault.BadEntry index) s sink is tells = absurd (in_grammar of right.bytes (fault.BadEntry index) right.is (there (λ file. IsFileFault of file (fault.BadEntry index)) is).1)
  list_fault (fault.TooManyEntries number) s sink is tells = absurd (in_grammar of right.bytes (fault.TooManyEntries number) right.is
      (there (λ file. IsFileFault of file (fault.TooManyEntries number)) is).1)
  list_fault (fault.Limit number) s sink is tells = absurd (file_long (file_under disk name) right.there (is.2 right.tells))
  list_fault fault.ReadFault s sink is tells = absurd is
  list_fault fault.DiskFault s sink is tells = absurd (calls is.0)
  list_fault fault.OutOfMemory s sink is tells = memory_told tells.told s tells.told_as tells.status_is

  listed : (sink : SinkUse) (s : Status) → (Rose sink.faults_before sink.faults_now → ⊥) → Told (GivesListing of name disk) (IsListFault of name disk) s sink → Done s
  listed sink s writes (wrote_text good bytes gives tells) = text_done good s bytes sink gives.0 writes tells
  listed sink s writes (told_fault why is tells) = list_fault why s sink is tells

-- ## A check of the files
-- it is done, with findings or none, or memory ran out
abbrev Checked : Status → Type 0
Checked s = ((s ≡ status.Ok) ⊎ (s ≡ status.Unsound)) ⊎ (s ≡ status.OutOfMemory)

with_findings : (b : Bool) → ((if b then status.Ok else status.Unsound) ≡ status.Ok) ⊎ ((if b then status.Ok else status.Unsound) ≡ status.Unsound)
with_findings true = inl refl
with_findings false = inr refl

good_checked : (s good : Status) → s ≡ good → (good ≡ status.Ok) ⊎ (good ≡ status.Unsound) → Checked s
good_checked s good e (inl is) = inl (inl (e ∙ is))
good_checked s good e (inr is) = inl (inr (e ∙ is))

memory_checked : (s : Status) → Done s → Checked s
memory_checked s (inl e) = inl (inl e)
memory_checked s (inr e) = inr e

module _ {D : Type 0} (disk : DiskUse D) (calls : Rose (disk.faults disk.before) (disk.faults disk.now) → ⊥) where
  check_fault : (why : CommandFault) (s : Status) (sink : SinkUse) → IsCheckFault disk why → TellsFault why s sink → Checked s
  check_fault (fault.Usage place) s sink is tells = absurd is
  check_fault (fault.BadScript line rule) s sink is tells = absurd is
  check_fault (fault.BadReport line rule) s sink is tells = absurd is
  check_fault fault.NoFile s sink is tells = absurd is
  check_fault (fault.BadBytes place cause) s sink is tells = absurd is
  check_fault (fault.BadImage place cause) s sink is tells = absurd is
  check_fault (fault.BadFile file) s sink is tells = absurd is
  check_fault fault.NoPath s sink is tells = absurd is
  check_fault fault.NotJson s sink is tells = absurd is
  check_fault (fault.BadEntry index) s sink is tells = absurd is
  check_fault (fault.TooManyEntries number) s sink is tells = absurd is
  check_fault (fault.Limit number) s sink is tells = absurd is
  check_fault fault.ReadFault s sink is tells = absurd is
  check_fault fault.DiskFault s sink is tells = absurd (calls is)
  check_fault fault.OutOfMemory s sink is tells = memory_checked s (memory_told tells.told s tells.told_as tells.status_is)

  checked : (sink : SinkUse) (s : Status) → (Rose sink.faults_before sink.faults_now → ⊥) → Told (GivesFindings disk) (IsCheckFault disk) s sink → Checked s
  checked sink s writes (wrote_text good bytes gives (inl w)) = good_checked s (status_with gives.findings) (w.0 ∙ gives.good_is) (with_findings (gives.findings == 0))
  checked sink s writes (wrote_text good bytes gives (inr w)) = absurd (writes w.1)
  checked sink s writes (told_fault why is tells) = check_fault why s sink is tells

-- ## A node
module _ {D : Type 0} (source : SourceUse) (sink : SinkUse) (disk : DiskUse D) (s : Status) (right : HasRequests source) (held : HasNode disk) (nothing : NothingFails source sink disk) where
  no_disk_fault : Serves source sink disk s → s ≡ status.DiskFault → ⊥
  no_disk_fault is e = nothing.calls (is.cause.rose (ap is_disk_fault e))

  not_refused : (files now : Files) (name : List ℕ) → files ≡ (disk.view disk.before).seen → IsRefusedFile files now name → ⊥
  not_refused files now name e (inl none) = none.0 held.state (subst (λ (f : Files). StandsAs f held.state) (sym e) held.stood)
  not_refused files now name e (inr bad) =
      let stood : StandsAs files held.state = subst (λ (f : Files). StandsAs f held.state) (sym e) held.stood in
      let same : bad.segments ≡ held.state.segments = one_segments files bad.segments held.state.segments bad.stands stood.segments bad.sound held.sound bad.starts held.starts in
      not_unfilled bad.front bad.rest bad.segment (subst (λ (gs : List Segment). AreFilled gs) (sym same ∙ bad.split) held.filled) bad.accepted bad.empty

  -- why no node was opened
  unopened_done : (t : Status) → (t ≡ status.DiskFault → ⊥) → IsUnopened sink disk t → Done t
  unopened_done status.Ok none why = absurd why
  unopened_done status.Usage none why = absurd why
  unopened_done status.BadScript none why = absurd why
  unopened_done status.BadBytes none why = absurd (not_refused (disk.view disk.before).seen (disk.view disk.now).seen why.0 refl (why.1 held.tells))
  unopened_done status.Limit none why = absurd why
  unopened_done status.Unsound none why = absurd why
  unopened_done status.ReadFault none why = absurd why
  unopened_done status.WriteFault none why = absurd why
  unopened_done status.DiskFault none why = absurd (none refl)
  unopened_done status.OutOfMemory none why = inr refl
  unopened_done status.Locked none why = absurd why

  -- how a session ended
  session_of : (told : Option (List ℕ)) (o : Served) (left before now : Option (List ℕ)) → told ≡ Some right.bytes
      → IsNodeSessionOf disk o told left before now → IsNodeSession disk o right.bytes left before now
  session_of None o left before now e is = absurd (cc e)
  session_of (Some bytes) o left before now e is = subst (λ (x : List ℕ). IsNodeSession disk o x left before now) (let p : bytes ≡ right.bytes = cc e in p) is

  session_done : (o : Served) (left before now : Option (List ℕ)) → s ≡ status_at o → (s ≡ status.DiskFault → ⊥) → (s ≡ status.ReadFault → ⊥) → (s ≡ status.WriteFault → ⊥)
      → IsNodeSession disk o right.bytes left before now → Done s
  session_done served.Done left before now is d r w session = inl is
  session_done (served.BadLine number rule) left before now is d r w session =
      let by = session.session in
      absurd (no_bad_next right.bytes right.lines session.lines by.rest right.all right.each right.requests by.whole by.ends.0.0 _ rule by.ends.2)
  session_done served.LongLine left before now is d r w session =
      let by = session.session in
      absurd (no_long_next right.bytes right.lines session.lines by.rest right.all right.each right.requests by.whole by.ends.0.0 by.ends.2)
  session_done served.LongInput left before now is d r w session =
      let more = session.session.ends.1 in
      let within = right.all.1 in
      absurd (omega (arith, more, within))
  session_done served.ReadFault left before now is d r w session = absurd (r is)
  session_done served.WriteFault left before now is d r w session = absurd (w is)
  session_done served.DiskFault left before now is d r w session = absurd (d is)
  session_done served.OutOfMemory left before now is d r w session = inr is

  opened_done : (s ≡ status.DiskFault → ⊥) → ServesNode source sink disk s → Done s
  opened_done none o =
      session_done o.outcome source.left sink.before o.replied o.status_is none (λ e. nothing.reads (o.read_fault e)) (λ e. nothing.writes (o.write_fault e))
      (session_of source.told o.outcome source.left sink.before o.replied right.told (o.session held.tells))

  served_done : (s ≡ status.DiskFault → ⊥) → IsServedOrNot source sink disk s → Done s
  served_done none (opened o) = opened_done none o
  served_done none (unopened o) = unopened_done s none o.why

-- ## A judgement
-- it was judged, or it has a line that breaks a rule, or memory ran out
abbrev Judged : Status → Type 0
Judged s = ((s ≡ status.Ok) ⊎ ((s ≡ status.Unsound) ⊎ (s ≡ status.BadScript))) ⊎ (s ≡ status.OutOfMemory)

memory_judged : (s : Status) → Done s → Judged s
memory_judged s (inl e) = inl (inl e)
memory_judged s (inr e) = inr e

-- a line that breaks a rule is told as that, or as memory that ran out
line_told : (line rule : ℕ) (told : CommandFault) (s : Status) → IsToldAs (fault.BadReport line rule) told → s ≡ status_of told → Judged s
line_told line rule told s (inl e) is = inl (inr (inr (is ∙ ap status_of e)))
line_told line rule told s (inr e) is = inr (is ∙ ap status_of e.0)

module _ (source : SourceUse) (right : HasShort source) (reads : Rose source.faults_before source.faults_now → ⊥) where
  same_report : (read : List ℕ) → AreTold source.told read → read ≡ right.bytes
  same_report read is = some_told source.told right.bytes read right.told is

  not_longer : IsLongReport source → ⊥
  not_longer long =
      let same : length long.bytes ≡ length right.bytes = ap length (same_report long.bytes long.told) in
      let more : longest_report < length long.bytes = long.long in
      let short : length right.bytes ≤ longest_report = right.short in
      omega (arith, same, more, short)

  judge_told : (told of : CommandFault) (s : Status) → IsToldAs of told → s ≡ status_of told → IsJudgeFault source of → Judged s
  judge_told told (fault.BadReport line rule) s told_as is f = line_told line rule told s told_as is
  judge_told told (fault.Limit number) s told_as is f = absurd (not_longer f.1)
  judge_told told fault.ReadFault s told_as is f = absurd (reads f)
  judge_told told fault.OutOfMemory s told_as is f = memory_judged s (memory_told told s told_as is)
  judge_told told (fault.Usage place) s told_as is f = absurd f
  judge_told told (fault.BadScript line rule) s told_as is f = absurd f
  judge_told told fault.NoFile s told_as is f = absurd f
  judge_told told (fault.BadBytes place cause) s told_as is f = absurd f
  judge_told told (fault.BadImage place cause) s told_as is f = absurd f
  judge_told told (fault.BadFile name) s told_as is f = absurd f
  judge_told told fault.NoPath s told_as is f = absurd f
  judge_told told fault.NotJson s told_as is f = absurd f
  judge_told told (fault.BadEntry index) s told_as is f = absurd f
  judge_told told (fault.TooManyEntries number) s told_as is f = absurd f
  judge_told told fault.DiskFault s told_as is f = absurd f

  judging_done : (sink : SinkUse) (s : Status) → (Rose sink.faults_before sink.faults_now → ⊥) → JudgesReport source sink s → Judged s
  judging_done sink s writes (wrote_text good text (agreeing bytes read is text_is of) (inl w)) = inl (inl (w.0 ∙ is))
  judging_done sink s writes (wrote_text good text (disagreeing bytes found read is text_is of place) (inl w)) = inl (inr (inl (w.0 ∙ is)))
  judging_done sink s writes (wrote_text good text gives (inr w)) = absurd (writes w.1)
  judging_done sink s writes (told_fault of f told) = judge_told told.told of s told.told_as told.status_is f

  telling_done : (sink : SinkUse) (s : Status) → (Rose sink.faults_before sink.faults_now → ⊥) → TellsReport source sink s → Judged s
  telling_done sink s writes (wrote_text good text (states_of bytes read is of agrees) (inl w)) = inl (inl (w.0 ∙ is))
  telling_done sink s writes (wrote_text good text (none_of bytes found read is text_is of place) (inl w)) = inl (inr (inl (w.0 ∙ is)))
  telling_done sink s writes (wrote_text good text gives (inr w)) = absurd (writes w.1)
  telling_done sink s writes (told_fault of f told) = judge_told told.told of s told.told_as told.status_is f

-- ## Each command
pub completes : {D : Type 0} (asked : Asked) (source : SourceUse) (sink : SinkUse) (disk : DiskUse D) (s : Status) → ScriptBreaksNoRule
    → Does asked source sink disk s → IsComplete asked source sink disk s
completes play source sink disk s no_rule does = λ right nothing. play_done ComeOf source right nothing.reads no_rule sink s nothing.writes does.0
completes run source sink disk s no_rule does = λ right nothing. play_done AreSound source right nothing.reads no_rule sink s nothing.writes does.0
completes piped source sink disk s no_rule does = λ right nothing. piped_done source right nothing.reads no_rule sink s nothing.writes does.0
completes mirror source sink disk s no_rule does = λ right nothing. mirror_done source right nothing.reads no_rule sink s nothing.writes does.0
completes boot source sink disk s no_rule does = λ right nothing. boot_done source right nothing.reads no_rule sink s nothing.writes does.0
completes node source sink disk s no_rule does =
    λ right nothing. served_done source sink disk s right.0 right.1 nothing (no_disk_fault source sink disk s right.0 right.1 nothing does) does.served
completes fsck source sink disk s no_rule does = λ right nothing. checked disk nothing.calls sink s nothing.writes does.told
completes judge source sink disk s no_rule does = λ right nothing. judging_done source right nothing.reads sink s nothing.writes does.0
completes states source sink disk s no_rule does = λ right nothing. telling_done source right nothing.reads sink s nothing.writes does.0
completes (gen number edits nodes) source sink disk s no_rule does = λ right nothing. generates_done number edits nodes sink s nothing.writes does.0
completes (list of name) source sink disk s no_rule does = λ right nothing. listed of name disk right nothing.calls sink s nothing.writes does.told

-- the words are this command's
pub does_for : {D : Type 0} (words : List (List ℕ)) (did asked : Asked) (source : SourceUse) (sink : SinkUse) (disk : DiskUse D) (s : Status) → AskFor words did → AskFor words asked
    → Does did source sink disk s → Does asked source sink disk s
does_for words did asked source sink disk s a b does = subst (λ (x : Asked). Does x source sink disk s) (one_command words did asked a b) does

-- the place is this one
pub refused : {D : Type 0} (at place : ℕ) (sink : SinkUse) (disk : DiskUse D) (s : Status) → Some at ≡ Some place → Refuses at sink disk s → Refuses place sink disk s
refused at place sink disk s e is = subst (λ (n : ℕ). Refuses n sink disk s) (let same : at ≡ place = cc e in same) is

-- the command is this one
pub does_as : {D : Type 0} (is by : Command) (source : SourceUse) (sink : SinkUse) (disk : DiskUse D) (s : Status) → is ≡ by
    → Does (asked_in by) source sink disk s → Does (asked_in is) source sink disk s
does_as is by source sink disk s e does = subst (λ (c : Command). Does (asked_in c) source sink disk s) (sym e) does

-- `run` and `piped` need threads
by_threads : (asked : Asked) → NeedsThreads asked → (asked ≡ run) ⊎ (asked ≡ piped)
by_threads play n = absurd n
by_threads run n = inl refl
by_threads piped n = inr refl
by_threads mirror n = absurd n
by_threads boot n = absurd n
by_threads node n = absurd n
by_threads fsck n = absurd n
by_threads judge n = absurd n
by_threads states n = absurd n
by_threads (gen number edits nodes) n = absurd n
by_threads (list of name) n = absurd n

-- the words that need threads ask for pipes, or else for `run`
pub asks_run : (words : List (List ℕ)) (asked : Asked) → NeedsThreads asked → AskFor words asked → asks_piped words ≡ false → AskFor words run
asks_run words asked needs is other = ⊎_elim (λ (e : asked ≡ run). subst (AskFor words) e is)
    (λ (e : asked ≡ piped). let yes : asks_piped words ≡ true = pipes_asked words (subst (AskFor words) e is) in absurd (cc (other, yes))) (by_threads asked needs)

-- a command by threads leaves the disk alone
pub does_by_threads : {D : Type 0} (asked : Asked) (source : SourceUse) (sink : SinkUse) (disk : DiskUse D) (s : Status) → ByThreads asked source sink s → disk.now ≡ disk.before
    → Does asked source sink disk s
does_by_threads play source sink disk s is e = absurd is
does_by_threads run source sink disk s is e = (is, e)
does_by_threads piped source sink disk s is e = (is, e)
does_by_threads mirror source sink disk s is e = absurd is
does_by_threads boot source sink disk s is e = absurd is
does_by_threads node source sink disk s is e = absurd is
does_by_threads fsck source sink disk s is e = absurd is
does_by_threads judge source sink disk s is e = absurd is
does_by_threads states source sink disk s is e = absurd is
does_by_threads (gen number edits nodes) source sink disk s is e = absurd is
does_by_threads (list of name) source sink disk s is e = absurd is

-- and reads its source
pub reads_some : (asked : Asked) → NeedsThreads asked → ReadsNone asked → ⊥
reads_some play needs none = absurd needs
reads_some run needs none = none
reads_some piped needs none = none
reads_some mirror needs none = absurd needs
reads_some boot needs none = absurd needs
reads_some node needs none = absurd needs
reads_some fsck needs none = absurd needs
reads_some judge needs none = absurd needs
reads_some states needs none = absurd needs
reads_some (gen number edits nodes) needs none = absurd needs
reads_some (list of name) needs none = absurd needs

-- a result that can't be one of success
pub no_exit : {T E : Type 0} (r : Result T E) → IfOk r (λ t. ⊥) → IsErr r
no_exit (Ok t) h = absurd h
no_exit (Err e) h = refl
