use Rattle.std.proofs.Common.{refl, ap, arith, List, ℕ, ◌++◌, ◌∷◌, []}
use Rattle.std.specs.Prelude.{codes}
use Rattle.std.proofs.lemmas.Fmt.{decimal_digit}
use Rattle.disk_files.specs.declared.node_number.NodeNumber.TheVariants.{Promised, Writer, Committed}
use Rattle.list_fsck.specs.declared.file_role.FileRole.TheVariants as role
use Rattle.list_fsck.specs.declared.segment_bytes.SegmentBytes.TheVariants.{Whole}
use Rattle.list_fsck.specs.Examples.{folder, clean_name}
use Rattle.list_fsck.proofs.NumberLaws.{committed_fine, promised_fine, writer_judged}
use Rattle.list_fsck.proofs.SegmentLaws.{final_judged}
use Rattle.list_fsck.proofs.Session.{content, named_clean, two_held}
use Rattle.list_fsck.proofs.worked.a_known_session_is_clean.Goals as goal

pub returns-clause-verdicts : goal.returns-clause-verdicts
returns-clause-verdicts c = (
  role.Number Committed,
  refl,
  committed_fine (folder clean_name) 0 (codes "committed-txid") 2 two_held,
  (
    role.Final 2 2,
    named_clean,
    final_judged (folder clean_name) 0 clean_name (Whole 2 3) 2 2 content,
    (
      role.Number Promised,
      refl,
      promised_fine (folder clean_name) 2 (codes "last-promised-epoch") 2 two_held,
      (role.Number Writer, refl, writer_judged (folder clean_name) 2 (codes "last-writer-epoch") 2 2 two_held two_held, refl),
    ),
  ),
)

pub returns-clause-text : goal.returns-clause-text
returns-clause-text c =
    ap (λ (l : List ℕ). codes "ok committed-txid" ++ 10 ∷ (codes "ok edits_0000000000000000002-0000000000000000002" ++ 10 ∷
    (codes "ok last-promised-epoch" ++ 10 ∷ (codes "ok last-writer-epoch" ++ 10 ∷ (codes "findings " ++ (l ++ 10 ∷ []))))))
    (decimal_digit 0 (omega arith))
