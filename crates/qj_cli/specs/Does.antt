-- What each command does.
use Rattle.std.specs.Prelude.{ℕ, ◌≡◌}
use Rattle.cli_commands.specs.declared.status.Status.{Status}
use Rattle.cli_commands.specs.declared.command_fault.CommandFault.TheVariants as fault
use Rattle.cli_commands.specs.Uses.{SourceUse, SinkUse, DiskUse}
use Rattle.cli_commands.specs.Told.{TellsFault}
use Rattle.cli_commands.specs.Commands.{Asked, play, run, piped, mirror, boot, node, fsck, judge, states, gen, list}
use Rattle.qj_cli.specs.Sound.{AreSound, ComeOf}
use Rattle.qj_cli.specs.Plays.{Plays}
use Rattle.qj_cli.specs.Pipes.{Pipes}
use Rattle.cli_commands.specs.Listing.{Lists}
use Rattle.cli_commands.specs.Serving.{Serves}
use Rattle.cli_commands.specs.Checks.{Checks}
use Rattle.qj_cli.specs.Generates.{Generates}
use Rattle.qj_cli.specs.Boots.{Boots}
use Rattle.qj_cli.specs.Mirrors.{Mirrors}
use Rattle.qj_cli.specs.Judging.{JudgesReport}
use Rattle.qj_cli.specs.States.{TellsReport}

-- With this status, by what it did to its source, its sink and its disk. A play leaves the disk
-- alone, also that of a generated script.
abbrev pub Does : {D : Type 0} → Asked → SourceUse → SinkUse → DiskUse D → Status → Type 0
Does play source sink disk s = Plays ComeOf source sink s × (disk.now ≡ disk.before)
Does run source sink disk s = Plays AreSound source sink s × (disk.now ≡ disk.before)
Does piped source sink disk s = Pipes source sink s × (disk.now ≡ disk.before)
Does mirror source sink disk s = Mirrors source sink s × (disk.now ≡ disk.before)
Does boot source sink disk s = Boots source sink s × (disk.now ≡ disk.before)
Does node source sink disk s = Serves source sink disk s
Does fsck source sink disk s = Checks disk sink s
Does judge source sink disk s = JudgesReport source sink s × (disk.now ≡ disk.before)
Does states source sink disk s = TellsReport source sink s × (disk.now ≡ disk.before)
Does (gen number edits nodes) source sink disk s = Generates number edits nodes sink s × (disk.now ≡ disk.before)
Does (list of name) source sink disk s = Lists of name disk sink s

-- The words are wrong from this place on: that is told, and the disk is left alone.
abbrev pub Refuses : {D : Type 0} → ℕ → SinkUse → DiskUse D → Status → Type 0
Refuses place sink disk s = TellsFault (fault.Usage place) s sink × (disk.now ≡ disk.before)

-- the commands that need threads
abbrev pub NeedsThreads : Asked → Type 0
NeedsThreads run = Unit {0}
NeedsThreads piped = Unit {0}
NeedsThreads _ = ⊥

-- what such a command does to its source and its sink
abbrev pub ByThreads : Asked → SourceUse → SinkUse → Status → Type 0
ByThreads run source sink s = Plays AreSound source sink s
ByThreads piped source sink s = Pipes source sink s
ByThreads _ source sink s = ⊥

-- the commands that read no source
abbrev pub ReadsNone : Asked → Type 0
ReadsNone play = ⊥
ReadsNone run = ⊥
ReadsNone piped = ⊥
ReadsNone mirror = ⊥
ReadsNone boot = ⊥
ReadsNone node = ⊥
ReadsNone fsck = Unit {0}
ReadsNone judge = ⊥
ReadsNone states = ⊥
ReadsNone (gen number edits nodes) = Unit {0}
ReadsNone (list of name) = Unit {0}
