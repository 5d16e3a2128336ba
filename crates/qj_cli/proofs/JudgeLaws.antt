-- What is due of a report that a source gives.
use Rattle.std.proofs.Common.{◌≡◌, ℕ, suc, ◌<◌, ◌≤◌, List, Option, Some, None, refl, arith, inl, inr, length}
use Rattle.std.specs.Prelude.{IfSome}
use Rattle.base_outside.specs.Whole.{GivesAll}
use Rattle.play_report.specs.Limit.{longest_report}
use Rattle.cli_commands.specs.declared.status.Status.{Status}
use Rattle.cli_commands.specs.declared.command_fault.CommandFault.{CommandFault}
use Rattle.cli_commands.specs.declared.command_fault.CommandFault.TheVariants as fault
use Rattle.cli_commands.specs.Uses.{SourceUse, NoReadFailed}
use Rattle.qj_cli.specs.Plays.{AreTold}
use Rattle.qj_cli.specs.Due.{IsDueOf, IsFaultOf}
use Rattle.qj_cli.specs.Judging.{IsReadReport, IsLongReport, GivesJudgement, agreeing, disagreeing, IsJudgeFault}
use Rattle.qj_cli.proofs.PlayLaws.{are_told, is_read_out, some_of_length}

pub read_report : (source : SourceUse) (bytes : List ℕ) → GivesAll source.told source.left bytes → NoReadFailed source → length bytes ≤ longest_report → IsReadReport source bytes
read_report source bytes all same short = record {
  told = are_told source.told source.left bytes all;
  read_out = is_read_out source.told source.left bytes all;
  no_fault = same;
  short = short;
}

-- a source that doesn't tell its bytes may have had any number of them
more_bytes : (most : ℕ) (told : Option (List ℕ)) → IfSome told (λ bytes. most < length bytes) → (bytes : List ℕ) × AreTold told bytes × (most < length bytes)
more_bytes most None h = let long = some_of_length (suc most) in (long.0, tt, (let is : length long.0 ≡ suc most = long.1 in omega (arith, is)))
more_bytes most (Some told) h = (told, refl, h)

long_report : (most : ℕ) (source : SourceUse) → most ≡ longest_report → IfSome source.told (λ bytes. most < length bytes) → NoReadFailed source → IsLongReport source
long_report most source e h same =
    let long = more_bytes most source.told h in
    record { bytes = long.0; told = long.1; no_fault = same; long = (let more : most < length long.0 = long.2 in omega (arith, more, e)) }

pub too_long : (source : SourceUse) → IfSome source.told (λ bytes. longest_report < length bytes) → NoReadFailed source → IsJudgeFault source (fault.Limit 268435456)
too_long source h same = (refl, long_report longest_report source refl h same)

-- the judgement of the bytes that were read
pub due_is : (source : SourceUse) (bytes : List ℕ) (good : Status) (text : List ℕ) → IsReadReport source bytes → IsDueOf bytes good text → GivesJudgement source good text
due_is source bytes good text read (inl a) = agreeing bytes read a.0 a.1 a.2
due_is source bytes good text read (inr d) = disagreeing bytes d.0 read d.1 d.2 d.3 d.4

pub fault_is : (source : SourceUse) (bytes : List ℕ) (of : CommandFault) → IsReadReport source bytes → IsFaultOf bytes of → IsJudgeFault source of
fault_is source bytes (fault.BadReport line rule) read n = (bytes, read, n.0, n.1, n.2)
fault_is source bytes fault.OutOfMemory read n = read.no_fault
fault_is source bytes (fault.Usage place) read n = absurd n
fault_is source bytes (fault.BadScript line rule) read n = absurd n
fault_is source bytes fault.NoFile read n = absurd n
fault_is source bytes (fault.BadBytes place cause) read n = absurd n
fault_is source bytes (fault.BadImage place cause) read n = absurd n
fault_is source bytes (fault.BadFile name) read n = absurd n
fault_is source bytes fault.NoPath read n = absurd n
fault_is source bytes fault.NotJson read n = absurd n
fault_is source bytes (fault.BadEntry index) read n = absurd n
fault_is source bytes (fault.TooManyEntries number) read n = absurd n
fault_is source bytes (fault.Limit number) read n = absurd n
fault_is source bytes fault.ReadFault read n = absurd n
fault_is source bytes fault.DiskFault read n = absurd n
