-- What comes of reading a report.
use Rattle.std.specs.Prelude.{ℕ, ◌≡◌, ◌+◌, ◌-◌, ◌<◌, ◌≤◌, ◌==◌, Bool, List, [], Some, count_by, length}
use Rattle.mesh.specs.declared.whole.Mesh.{Mesh}
use Rattle.mesh.specs.Agree.{operator_of, record_of}
use Rattle.mesh.specs.Matches.{AreWithin}
use Rattle.mesh_judge.specs.Parts.{GoesByPlan}
use Rattle.mesh_judge.specs.Plans.{AreCalled}
use Rattle.play_report.specs.Text.{text_of}
use Rattle.report_judge.specs.declared.answer.Reading.{Reading}
use Rattle.report_judge.specs.declared.answer.Reading.TheVariants as reading
use Rattle.report_judge.specs.declared.answer.Lists.{Lists}
use Rattle.report_judge.specs.Reading.{shown, lists_of}

-- the bytes are the report of these lists
abbrev pub IsReportOf : List ℕ → Lists → Type 0
IsReportOf bytes lists = bytes ≡ text_of lists.mesh lists.ends

unfoldable pub ends_line : ℕ → Bool
ends_line b = b == 10

-- a line of these bytes, from 1, the last of which may lack its end
abbrev pub IsLine : List ℕ → ℕ → Type 0
IsLine bytes line = (1 ≤ line) × (line ≤ count_by ends_line bytes + 1)

-- the number of a rule
abbrev pub IsRule : ℕ → Type 0
IsRule rule = (1 ≤ rule) × (rule ≤ 9)

-- an actor's record goes by its marks, if it goes by any
abbrev pub IsMarkedIfAny : Mesh → ℕ → Type 0
IsMarkedIfAny m c = AreWithin m.nodes (record_of m c) → AreCalled [] (record_of m c) → GoesByPlan m c

-- They are the lists in the bytes, of which the bytes are the report, with marks for each of their
-- actors, by which its record goes if it goes by any.
pub record IsReadAs (bytes : List ℕ) (lists : Lists) : Type 0 where
  pub is_report : IsReportOf bytes lists
  pub are : lists_of bytes ≡ Some (shown lists)
  pub sized : length lists.mesh.plan ≡ length lists.mesh.records - 1
  pub marked : (c : ℕ) → c < operator_of lists.mesh → IsMarkedIfAny lists.mesh c

-- What is read are the lists in the bytes. What breaks a rule is a line of theirs.
abbrev pub Tells : List ℕ → Reading → Type 0
Tells bytes (reading.Read lists) = IsReadAs bytes lists
Tells bytes (reading.Bad line rule) = IsLine bytes line × IsRule rule
