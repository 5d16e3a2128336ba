use Rattle.std.proofs.Common.{refl, arith, List, ℕ, ◌++◌, ◌∷◌, []}
use Rattle.std.specs.Prelude.{codes}
use Rattle.std.proofs.lemmas.Fmt.{decimal_digit}
use Rattle.disk_files.specs.declared.node_number.NodeNumber.TheVariants.{Promised, Writer, Committed}
use Rattle.list_fsck.specs.declared.file_role.FileRole.TheVariants as role
use Rattle.list_fsck.specs.declared.segment_bytes.SegmentBytes.TheVariants.{Whole}
use Rattle.list_fsck.specs.Examples.{folder, other_name}
use Rattle.list_fsck.proofs.NumberLaws.{committed_fine, promised_fine, writer_judged}
use Rattle.list_fsck.proofs.SegmentLaws.{final_judged}
use Rattle.list_fsck.proofs.Session.{content, named_other, two_held}
use Rattle.list_fsck.proofs.worked.another_end_is_told.Goals as goal

pub returns-clause-verdicts : goal.returns-clause-verdicts
returns-clause-verdicts c = (
  role.Number Committed,
  refl,
  committed_fine (folder other_name) 0 (codes "committed-txid") 2 two_held,
  (
    role.Final 2 3,
    named_other,
    final_judged (folder other_name) 0 other_name (Whole 2 3) 2 3 content,
    (
      role.Number Promised,
      refl,
      promised_fine (folder other_name) 3 (codes "last-promised-epoch") 2 two_held,
      (role.Number Writer, refl, writer_judged (folder other_name) 3 (codes "last-writer-epoch") 2 2 two_held two_held, refl),
    ),
  ),
)

-- the text with these numerals
told : List ℕ → List ℕ → List ℕ → List ℕ → List ℕ
told r v w n =
    ((codes "ok " ++ (codes "committed-txid" ++ 10 ∷ []))
    ++ ((codes "bad " ++ (other_name ++ 32 ∷ (r ++ 32 ∷ (v ++ 32 ∷ (w ++ 10 ∷ [])))))
    ++ ((codes "ok " ++ (codes "last-promised-epoch" ++ 10 ∷ [])) ++ ((codes "ok " ++ (codes "last-writer-epoch" ++ 10 ∷ [])) ++ []))))
    ++ (codes "findings " ++ (n ++ 10 ∷ []))

pub returns-clause-text : goal.returns-clause-text
unfolding told
returns-clause-text c = λ i. told (decimal_digit 3 (omega arith) i) (decimal_digit 3 (omega arith) i) (decimal_digit 2 (omega arith) i) (decimal_digit 1 (omega arith) i)
