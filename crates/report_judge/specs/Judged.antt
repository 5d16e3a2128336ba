-- What a report is judged, and what the judgement says.
use Rattle.std.specs.Prelude.{ℕ, ◌≡◌, ◌↔◌, ◌∷◌, ◌++◌, [], List, Some, None, length, codes, decimal}
use Rattle.journal_history.specs.declared.mark.Mark.{Mark}
use Rattle.run_safety.specs.Run.{IsRun}
use Rattle.run_safety.specs.Safe.{IsSafe}
use Rattle.mesh.specs.declared.whole.Mesh.{Mesh}
use Rattle.mesh.specs.Agree.{Agrees}
use Rattle.mesh.specs.Order.{epoch_order}
use Rattle.mesh_judge.specs.declared.part.Part.{Part}
use Rattle.mesh_judge.specs.declared.part.Part.TheVariants as part
use Rattle.mesh_judge.specs.Broken.{BreaksFirst}
use Rattle.report_judge.specs.declared.answer.Lists.{Lists}
use Rattle.report_judge.specs.Reading.{ListsView, shown, lists_of}
use Rattle.play_report.specs.Text.{text_of}
use Rattle.report_judge.specs.Reads.{IsReportOf, IsReadAs, IsLine}
use Rattle.report_judge.specs.Written.{AreWritten, NoReport}
use Rattle.report_judge.specs.Places.{TellsPlace}
use Rattle.report_judge.specs.declared.judgement.Finding.{Finding}
use Rattle.report_judge.specs.declared.judgement.Judgement.{Judgement}
use Rattle.report_judge.specs.declared.judgement.Judgement.TheVariants as judgement

-- what lists are judged: nothing else comes
abbrev pub JudgesLists : Lists → Judgement → Type 0
JudgesLists lists judgement.Agrees = Agrees lists.mesh
JudgesLists lists (judgement.Disagrees found) = BreaksFirst found.part lists.mesh × TellsPlace lists found
JudgesLists lists (judgement.Bad line rule) = ⊥

-- The bytes are the report of lists that agree. What moved the nodes of these lists, in the order
-- of the epochs, is a run of the journal world, and safe: an acknowledged edit survives, and
-- finalised segments agree.
pub record OfAgreeing (bytes : List ℕ) : Type 0 where
  pub lists : Lists
  pub is_read : IsReadAs bytes lists
  pub agrees : Agrees lists.mesh
  pub run : IsRun lists.mesh.nodes (epoch_order lists.mesh)
  pub safe : IsSafe lists.mesh.nodes (epoch_order lists.mesh)

-- with these marks
abbrev pub marked_by : Mesh → List (List Mark) → Mesh
marked_by m plan = record m { plan = plan }

-- They are the report of lists that don't agree, with whatever marks: this is the first part that
-- doesn't hold.
pub record OfDisagreeing (bytes : List ℕ) (broken : Part) : Type 0 where
  pub lists : Lists
  pub is_read : IsReadAs bytes lists
  pub breaks : BreaksFirst broken lists.mesh
  pub apart : Agrees lists.mesh → ⊥
  pub others : (plan : List (List Mark)) → Agrees (marked_by lists.mesh plan) → ⊥

abbrev pub Judges : List ℕ → Judgement → Type 0
Judges bytes judgement.Agrees = OfAgreeing bytes
Judges bytes (judgement.Disagrees found) = OfDisagreeing bytes found.part
Judges bytes (judgement.Bad line rule) = IsLine bytes line

-- They are the report of lists of which this part is the first that doesn't hold, and the place
-- that is told is where.
pub record OfPlace (bytes : List ℕ) (found : Finding) : Type 0 where
  pub lists : Lists
  pub is_read : IsReadAs bytes lists
  pub breaks : BreaksFirst found.part lists.mesh
  pub place : TellsPlace lists found

abbrev pub Places : List ℕ → Judgement → Type 0
Places bytes (judgement.Disagrees found) = OfPlace bytes found
Places bytes _ = Unit {0}

-- ## One verdict
-- the lists in the bytes agree, with some marks
pub record SomeAgree (bytes : List ℕ) : Type 0 where
  pub lists : Lists
  pub are : lists_of bytes ≡ Some (shown lists)
  pub agrees : Agrees lists.mesh

-- there are lists in the bytes, and with no marks do they agree
pub record NoneAgree (bytes : List ℕ) : Type 0 where
  pub view : ListsView
  pub are : lists_of bytes ≡ Some view
  pub none : (lists : Lists) → shown lists ≡ view → Agrees lists.mesh → ⊥

abbrev pub IsDisagreeing : Judgement → Type 0
IsDisagreeing (judgement.Disagrees found) = Unit {0}
IsDisagreeing _ = ⊥

abbrev pub IsBad : Judgement → Type 0
IsBad (judgement.Bad line rule) = Unit {0}
IsBad _ = ⊥

-- Each verdict is told just where it is so: that they agree, where the lists in the bytes agree with
-- some marks; that they don't, where there are lists in the bytes, and with whatever marks they don't
-- agree; and that the bytes are bad, where there are no lists in them.
pub record IsJust (bytes : List ℕ) (j : Judgement) : Type 0 where
  pub agrees : (j ≡ judgement.Agrees) ↔ SomeAgree bytes
  pub disagrees : IsDisagreeing j ↔ NoneAgree bytes
  pub bad : IsBad j ↔ (lists_of bytes ≡ None)

-- Bytes of which lists are read are called bad by none; and lists that agree under some marks are
-- told to break no part.
pub record VerdictsExclude : Type 0 where
  pub agrees_or_bad : (bytes : List ℕ) → OfAgreeing bytes → NoReport bytes → ⊥
  pub disagrees_or_bad : (bytes : List ℕ) (broken : Part) → OfDisagreeing bytes broken → NoReport bytes → ⊥
  pub agrees_or_disagrees : (bytes : List ℕ) (broken : Part) → OfAgreeing bytes → OfDisagreeing bytes broken → ⊥

-- Of lists within the limits, with marks for each of their actors: if they agree, their report is
-- told to agree; so what is told not to agree is the report of no such lists that do.
pub record AgreementIsTold : Type 0 where
  pub agrees : (lists : Lists) → AreWritten lists → length lists.mesh.plan ≡ length lists.ends → Agrees lists.mesh → SomeAgree (text_of lists.mesh lists.ends)
  pub disagrees : (bytes : List ℕ) (lists : Lists) → AreWritten lists → length lists.mesh.plan ≡ length lists.ends → IsReportOf bytes lists → NoneAgree bytes → Agrees lists.mesh → ⊥

-- ## In words
abbrev pub part_word : Part → List ℕ
part_word part.Sizes = codes "Sizes"
part_word part.Nodes = codes "Nodes"
part_word part.Callers = codes "Callers"
part_word part.Operator = codes "Operator"
part_word part.Histories = codes "Histories"
part_word part.Calls = codes "Calls"
part_word part.Marks = codes "Marks"
part_word part.Rounds = codes "Rounds"

-- the line that is written
abbrev pub agrees_text : List ℕ
agrees_text = codes "agrees\n"

abbrev pub disagrees_text : Finding → List ℕ
disagrees_text found = codes "disagrees " ++ part_word found.part ++ 32 ∷ found.list ++ 32 ∷ decimal found.line ++ 10 ∷ []
