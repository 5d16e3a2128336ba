-- What is due of a source.
use Rattle.std.proofs.Common.{◌≡◌, ℕ, zero, suc, ◌<◌, ◌≤◌, List, [], ◌∷◌, Option, Some, None, refl, ap, arith, inr, length}
use Rattle.std.specs.Prelude.{IfSome}
use Rattle.base_outside.specs.Whole.{GivesAll}
use Rattle.mesh.specs.declared.whole.Mesh.{Mesh}
use Rattle.ns_tree.specs.declared.end.End.{End}
use Rattle.play_script.specs.Scripts.{ScriptView}
use Rattle.play_script.proofs.ScriptLaws.{breaks_no_rule}
use Rattle.play_report.specs.Text.{text_of}
use Rattle.play_report.specs.Limit.{longest_report}
use Rattle.cli_commands.specs.declared.status.Status.TheVariants as status
use Rattle.cli_commands.specs.declared.command_fault.CommandFault.{CommandFault}
use Rattle.cli_commands.specs.declared.command_fault.CommandFault.TheVariants as fault
use Rattle.cli_commands.specs.Uses.{SourceUse, NoReadFailed}
use Rattle.qj_cli.specs.Plays.{longest_script, AreTold, IsReadOut, IsReadWhole, GivesScript, IsReadingFault, IsReportFault, GivesReport, IsPlayFault}
use Rattle.qj_cli.specs.Report.{IsReport}

pub are_told : (told left : Option (List ℕ)) (bytes : List ℕ) → GivesAll told left bytes → AreTold told bytes
are_told None left bytes all = tt
are_told (Some told) left bytes all = all.0

pub is_read_out : (told left : Option (List ℕ)) (bytes : List ℕ) → GivesAll told left bytes → IsReadOut told left
is_read_out None left bytes all = tt
is_read_out (Some told) left bytes all = all.1

read_whole : (source : SourceUse) (bytes : List ℕ) → GivesAll source.told source.left bytes → NoReadFailed source → length bytes ≤ longest_script → IsReadWhole source bytes
read_whole source bytes all same short = record {
  told = are_told source.told source.left bytes all;
  read_out = is_read_out source.told source.left bytes all;
  no_fault = same;
  short = short;
}

pub some_of_length : (n : ℕ) → (bytes : List ℕ) × (length bytes ≡ n)
some_of_length zero = ([], refl)
some_of_length (suc n) = let shorter = some_of_length n in (0 ∷ shorter.0, ap (λ k. suc k) shorter.1)

-- a source that doesn't tell its bytes may have had any number of them
long_bytes : (told : Option (List ℕ)) → IfSome told (λ bytes. longest_script < length bytes) → (bytes : List ℕ) × AreTold told bytes × (longest_script < length bytes)
long_bytes None h = let long = some_of_length 1048577 in (long.0, tt, (let is : length long.0 ≡ 1048577 = long.1 in omega arith))
long_bytes (Some told) h = (told, refl, h)

pub too_long : (source : SourceUse) → IfSome source.told (λ bytes. longest_script < length bytes) → NoReadFailed source → IsReadingFault source (fault.Limit 1048576)
too_long source h same =
    let long = long_bytes source.told h in
    (refl, record { bytes = long.0; told = long.1; no_fault = same; long = long.2 })

-- ## A script that was read, and its lists

pub report_of : (Leaves : ScriptView → Mesh → List End → Type 0) (source : SourceUse) (script : ScriptView) (m : Mesh) (ends : List End) (text : List ℕ)
    → (given : GivesScript source script) → Leaves script m ends → text ≡ text_of m ends
    → IsReport Leaves given.bytes text
report_of Leaves source script m ends text given left is = record { script = script; reads = given.reads; mesh = m; ends = ends; leaves = left; printed = is }

pub gives_report : (Leaves : ScriptView → Mesh → List End → Type 0) (source : SourceUse) (script : ScriptView) (m : Mesh) (ends : List End)
    (text : List ℕ) → GivesScript source script → Leaves script m ends → text ≡ text_of m ends
    → length text ≤ longest_report → GivesReport Leaves source status.Ok text
gives_report Leaves source script m ends text given left is within = record {
  good_is = refl;
  bytes = given.bytes;
  read = given.read;
  due = record { unbroken = breaks_no_rule given.bytes script given.reads; printed = record { report = report_of Leaves source script m ends text given left is; within = within } };
}

pub report_fault : (Leaves : ScriptView → Mesh → List End → Type 0) (source : SourceUse) (script : ScriptView) (m : Mesh) (ends : List End)
    (of : CommandFault) → GivesScript source script → Leaves script m ends → IsReportFault (text_of m ends) of
    → IsPlayFault Leaves source of
report_fault Leaves source script m ends (fault.Usage place) given left is = absurd is
report_fault Leaves source script m ends (fault.BadScript line rule) given left is = absurd is
report_fault Leaves source script m ends (fault.BadReport line rule) given left is = absurd is
report_fault Leaves source script m ends fault.NoFile given left is = absurd is
report_fault Leaves source script m ends (fault.BadBytes place cause) given left is = absurd is
report_fault Leaves source script m ends (fault.BadImage place cause) given left is = absurd is
report_fault Leaves source script m ends (fault.BadFile name) given left is = absurd is
report_fault Leaves source script m ends fault.NoPath given left is = absurd is
report_fault Leaves source script m ends fault.NotJson given left is = absurd is
report_fault Leaves source script m ends (fault.BadEntry index) given left is = absurd is
report_fault Leaves source script m ends (fault.TooManyEntries number) given left is = absurd is
report_fault Leaves source script m ends (fault.Limit number) given left is =
    inr (
      given.bytes,
      given.read,
      (
        is.0,
        breaks_no_rule given.bytes script given.reads,
        record { text = text_of m ends; report = report_of Leaves source script m ends (text_of m ends) given left refl; longer = is.1 },
      ),
    )
report_fault Leaves source script m ends fault.ReadFault given left is = absurd is
report_fault Leaves source script m ends fault.DiskFault given left is = absurd is
report_fault Leaves source script m ends fault.OutOfMemory given left is = given.read.no_fault
