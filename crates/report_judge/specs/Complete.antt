-- What is no report, that it alone is told so, and by which line.
use Rattle.std.specs.Prelude.{ℕ, ◌≡◌, ◌≢◌, ◌+◌, ◌-◌, ◌⊎◌, List, [], ◌∷◌, ◌++◌, count_by, length, take, drop, map}
use Rattle.ns_tree.specs.declared.end.End.{End}
use Rattle.report_judge.specs.declared.rules.Rule.{Rule}
use Rattle.report_judge.specs.declared.rules.Rule.TheVariants as rule_
use Rattle.report_judge.specs.declared.unread.Unread.{Unread}
use Rattle.report_judge.specs.declared.unread.Unread.TheVariants as unread
use Rattle.report_judge.specs.declared.answer.Lists.{Lists}
use Rattle.report_judge.specs.declared.answer.Reading.{Reading}
use Rattle.report_judge.specs.declared.answer.Reading.TheVariants as reading
use Rattle.report_judge.specs.declared.judgement.Judgement.{Judgement}
use Rattle.report_judge.specs.declared.judgement.Judgement.TheVariants as judgement
use Rattle.report_judge.specs.Reads.{ends_line, IsReportOf}
use Rattle.report_judge.specs.Pieces.{pieces, Taken, IsBroken}
use Rattle.report_judge.specs.Callers.{bare}
use Rattle.report_judge.specs.Reading.{names_from, ListsView, lists_in, printed}
use Rattle.report_judge.specs.Written.{AreWritten, NoReport}

-- ## The first line that breaks a rule
-- the actors by their names alone
abbrev pub bared : List End → List End
bared ends = map (λ (e : End). bare e.name) ends

-- the names that the lines behind the first tell, each but once, and at most eight
abbrev pub told_names : List ℕ → List End
told_names bytes = names_from [] (drop 1 (pieces bytes))

-- No report of lists within the limits, whose actors have the names that these bytes tell, begins
-- with these bytes through the end of this line.
abbrev pub BeginsNone : List ℕ → ℕ → Type 0
BeginsNone bytes line =
    (front more rest : List ℕ) → bytes ≡ front ++ 10 ∷ more → count_by ends_line front + 1 ≡ line → (lists : Lists) → AreWritten lists
    → bared lists.ends ≡ told_names bytes → IsReportOf (front ++ 10 ∷ rest) lists → ⊥

-- the number of a rule
abbrev pub rule_number : Rule → ℕ
rule_number rule_.FirstLine = 1
rule_number rule_.NodeLine = 2
rule_number rule_.HistoryLine = 3
rule_number rule_.ActorLine = 4
rule_number rule_.RecordLine = 5
rule_number rule_.PositionLine = 6
rule_number rule_.RowLine = 7
rule_number rule_.LastLine = 8
rule_number rule_.Spelling = 9

-- Read from the first line on, the bytes break this rule in this line, and none before.
pub record BreaksAt (bytes : List ℕ) (line number : ℕ) : Type 0 where
  pub left : ℕ
  pub rule : Rule
  pub broken : IsBroken (lists_in (pieces bytes)) left rule
  pub in_line : line ≡ count_by ends_line (take (length bytes - left) bytes) + 1
  pub numbered : number ≡ rule_number rule

-- no line is broken, and the lists that the lines say are spelled otherwise
pub record SpellsOtherwise (bytes : List ℕ) : Type 0 where
  pub view : ListsView
  pub is_read : lists_in (pieces bytes) ≡ Taken view []
  pub apart : bytes ≢ printed view

-- This line is the first that breaks a rule, and it breaks this one: no report begins so. Or it is
-- rule 9, and no line breaks one of the others.
abbrev pub IsFirst : List ℕ → ℕ → ℕ → Type 0
IsFirst bytes line rule = (BreaksAt bytes line rule × BeginsNone bytes line) ⊎ ((rule ≡ 9) × SpellsOtherwise bytes)

-- ## What is told
-- what stopped the reading
abbrev pub IsUnread : List ℕ → Unread → Type 0
IsUnread bytes (unread.Bad left rule) = NoReport bytes × (IsBroken (lists_in (pieces bytes)) left rule ⊎ ((rule ≡ rule_.Spelling) × SpellsOtherwise bytes))
IsUnread bytes unread.OutOfMemory = Unit {0}

-- bytes that break a rule are no report of lists within the limits
abbrev pub IsComplete : List ℕ → Reading → Type 0
IsComplete bytes (reading.Read lists) = Unit {0}
IsComplete bytes (reading.Bad line rule) = NoReport bytes × IsFirst bytes line rule

-- so each report of lists within the limits is judged
abbrev pub Completes : List ℕ → Judgement → Type 0
Completes bytes (judgement.Bad line rule) = NoReport bytes × IsFirst bytes line rule
Completes bytes _ = Unit {0}
