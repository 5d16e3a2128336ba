-- What is due of a script that is played through pipes.
use Rattle.std.proofs.Common.{◌≡◌, ℕ, ◌+◌, ◌≤◌, List, [], ◌∷◌, ◌++◌, Option, Some, None, refl, sym, ap, ◌∙◌, arith, length}
use Rattle.mesh.specs.declared.whole.Mesh.{Mesh}
use Rattle.ns_tree.specs.declared.end.End.{End}
use Rattle.play_script.specs.Grammar.{IsScriptText}
use Rattle.play_script.specs.Lines.{lines_of, Lacks}
use Rattle.play_script.specs.Rules.{or_later, fault_of}
use Rattle.play_script.specs.Scripts.{ScriptView}
use Rattle.play_script.proofs.LineLaws.{line_first, line_open, no_lines}
use Rattle.play_script.proofs.ScriptLaws.{breaks_no_rule}
use Rattle.play_report.specs.Text.{text_of}
use Rattle.play_report.specs.Limit.{longest_report}
use Rattle.cli_commands.specs.declared.command_fault.CommandFault.{CommandFault}
use Rattle.cli_commands.specs.declared.command_fault.CommandFault.TheVariants as fault
use Rattle.cli_commands.specs.declared.status.Status.TheVariants as status
use Rattle.cli_commands.specs.Uses.{SourceUse}
use Rattle.qj_cli.specs.Sound.{AreSound}
use Rattle.qj_cli.specs.Plays.{GivesScript, IsReportFault}
use Rattle.qj_cli.specs.Pipes.{pipe_rule, pipe_from, pipe_line_of, first_of, pipe_fault_of, GivesPiped, GivesPipedReport, IsPipedFault}
use Rattle.qj_cli.proofs.PlayLaws.{report_of, report_fault}

-- ## Line by line
module _ (number : ℕ) (rest line others : List ℕ) (e : rest ≡ line ++ 10 ∷ others) (l : Lacks 10 line) (rule : Option ℕ) (r : rule ≡ pipe_rule line) where
  pipe_here : pipe_from number (lines_of rest) ≡ or_later number rule (pipe_from (number + 1) (lines_of others))
  unfolding pipe_from
  pipe_here = ap (pipe_from number) (line_first rest line others e l) ∙ ap (λ o. or_later number o (pipe_from (number + 1) (lines_of others))) (sym r)

  pub pipe_told : (k : ℕ) → rule ≡ Some k → pipe_from number (lines_of rest) ≡ Some (number, k)
  pipe_told k is = pipe_here ∙ ap (λ o. or_later number o (pipe_from (number + 1) (lines_of others))) is

  pub pipe_untold : rule ≡ None → pipe_from number (lines_of rest) ≡ pipe_from (number + 1) (lines_of others)
  pipe_untold is = pipe_here ∙ ap (λ o. or_later number o (pipe_from (number + 1) (lines_of others))) is

-- after the last line feed
pub pipe_none : (number : ℕ) (rest : List ℕ) → Lacks 10 rest → pipe_from number (lines_of rest) ≡ None
unfolding pipe_from
pipe_none number [] l = ap (pipe_from number) (no_lines [] refl)
pipe_none number (b ∷ bs) l = ap (pipe_from number) (line_open (b ∷ bs) l (omega arith))

pub ruleset pipes = (pipe_told, pipe_untold, pipe_none)

-- ## The script
pub carried : (bytes : List ℕ) (s : ScriptView) (other : Option (ℕ × ℕ)) → other ≡ pipe_line_of bytes → other ≡ None → IsScriptText bytes s → pipe_fault_of bytes ≡ None
carried bytes s other e none is = ap (λ o. first_of o (fault_of bytes)) (sym e ∙ none) ∙ breaks_no_rule bytes s is

pub not_carried : (bytes : List ℕ) (s : ScriptView) (other : Option (ℕ × ℕ)) (line rule : ℕ) → other ≡ pipe_line_of bytes → other ≡ Some (line, rule) → IsScriptText bytes s
    → pipe_fault_of bytes ≡ Some (line, rule)
not_carried bytes s other line rule e some is = ap (λ o. first_of o (fault_of bytes)) (sym e ∙ some) ∙ ap (first_of (Some (line, rule))) (breaks_no_rule bytes s is)

pub first_broken : (bytes : List ℕ) (other : Option (ℕ × ℕ)) (own told : ℕ × ℕ) → other ≡ pipe_line_of bytes → fault_of bytes ≡ Some own → Some told ≡ first_of other (Some own)
    → pipe_fault_of bytes ≡ Some told
first_broken bytes other own told e is first = ap (λ o. first_of o (fault_of bytes)) (sym e) ∙ ap (first_of other) is ∙ sym first

-- ## The report
gives_script : (source : SourceUse) (script : ScriptView) → GivesPiped source script → GivesScript source script
gives_script source script given = record { bytes = given.bytes; read = given.read; reads = given.reads }

pub piped_report : (source : SourceUse) (script : ScriptView) (m : Mesh) (ends : List End) (text : List ℕ) → GivesPiped source script → AreSound script m ends → text ≡ text_of m ends
    → length text ≤ longest_report → GivesPipedReport source status.Ok text
piped_report source script m ends text given sound is within = record {
  report = record {
    good_is = refl;
    bytes = given.bytes;
    read = given.read;
    due = record {
      unbroken = breaks_no_rule given.bytes script given.reads;
      printed = record {
        report = report_of AreSound source script m ends text (record { bytes = given.bytes; read = given.read; reads = given.reads }) sound is;
        within = within;
      };
    };
  };
  unbroken = given.unbroken;
}

pub piped_fault : (source : SourceUse) (script : ScriptView) (m : Mesh) (ends : List End) (of : CommandFault) → GivesPiped source script → AreSound script m ends
    → IsReportFault (text_of m ends) of → IsPipedFault source of
piped_fault source script m ends (fault.Usage place) given sound is = absurd is
piped_fault source script m ends (fault.BadScript line rule) given sound is = absurd is
piped_fault source script m ends (fault.BadReport line rule) given sound is = absurd is
piped_fault source script m ends fault.NoFile given sound is = absurd is
piped_fault source script m ends (fault.BadBytes place cause) given sound is = absurd is
piped_fault source script m ends (fault.BadImage place cause) given sound is = absurd is
piped_fault source script m ends (fault.BadFile name) given sound is = absurd is
piped_fault source script m ends fault.NoPath given sound is = absurd is
piped_fault source script m ends fault.NotJson given sound is = absurd is
piped_fault source script m ends (fault.BadEntry index) given sound is = absurd is
piped_fault source script m ends (fault.TooManyEntries number) given sound is = absurd is
piped_fault source script m ends (fault.Limit number) given sound is = report_fault AreSound source script m ends (fault.Limit number) (gives_script source script given) sound is
piped_fault source script m ends fault.ReadFault given sound is = absurd is
piped_fault source script m ends fault.DiskFault given sound is = absurd is
piped_fault source script m ends fault.OutOfMemory given sound is = report_fault AreSound source script m ends fault.OutOfMemory (gives_script source script given) sound is
