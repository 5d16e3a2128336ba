-- Worked holdings: edits that are submitted together, a tail that catches up, and images.
use Rattle.std.specs.Prelude.{◌≡◌, ℕ, true, List, [], ◌∷◌, codes, Some, None}
use Rattle.journal_core.specs.declared.heard.Heard.TheVariants.{Answer}
use Rattle.journal_core.specs.declared.refusal.Refusal.TheVariants as refusal
use Rattle.journal_core.specs.declared.reply.Reply.TheVariants as reply
use Rattle.edit_ops.specs.Records.{EditView, record_of}
use Rattle.ns_tree.specs.declared.inode.Inode.TheVariants.{Dir}
use Rattle.ns_tree.specs.Space.{Space, pair, empty_space}
use Rattle.ns_edits.specs.declared.refusal.AdmitRefusal.TheVariants.{Exists, NoParent}
use Rattle.ns_edits.specs.Examples.{mkdir_u, plain, called}
use Rattle.writer_core.specs.Views.{WriterView}
use Rattle.writer_core.specs.Writer.{new_writer}
use Rattle.edit_ops.specs.declared.op.Op.TheVariants.{Mkdir}
use Rattle.play_names.specs.Submissions.{Pends, Refused, Repeats, Submission, submit_edits, nothing_submitted}
use Rattle.play_names.specs.Holding.{Holding, Tails, new_holding, save_image, reload_image, min_to_keep}
use Rattle.play_names.specs.Tails.{Caught, GoesOn, Ends, tail_hears}

-- ## Edits that are submitted together after the record that began the segment
unfoldable pub three_edits : List EditView
three_edits = called 7 (mkdir_u 10) ∷ called 8 (mkdir_u 11) ∷ called 7 (mkdir_u 10) ∷ plain (Mkdir (codes "/v/w") 12 493 (codes "u") (codes "g")) ∷ []

abbrev pub writer_at : ℕ → WriterView
writer_at next = record (new_writer 1) { next = next }

abbrev pub one_more : Submission
one_more = submit_edits (writer_at 2) three_edits (nothing_submitted empty_space)

-- one is to be logged, another is there by then, a third repeats the first, and the last has no
-- parent
pub record EditsAreToldApart : Type 0 where
  pub dues : one_more.dues ≡ Pends ∷ Refused Exists ∷ Repeats 2 true ∷ Refused NoParent ∷ []
  pub bodies : one_more.bodies ≡ record_of (called 7 (mkdir_u 10)) ∷ []

-- ## A tail
-- a directory in the root
unfoldable pub with_u : Space
with_u =
    record {
      pairs =
          pair (codes "/") (Dir 10 493 (codes "hdfs") (codes "supergroup") 0 0) ∷ pair (codes "/u") (Dir 10 493 (codes "u") (codes "g") 0 0) ∷ [];
      calls = [];
    }

abbrev pub at_one : Holding
at_one = record new_holding { space = with_u; position = 1 }

-- what it is given is applied, and another pass begins; one in which no node has more is its last
pub record ATailCatchesUp : Type 0 where
  pub applies :
      tail_hears 1 None 1 [] (Answer (reply.Edits (record { first = 1; bodies = record_of (plain (mkdir_u 10)) ∷ [] }))) new_holding
      ≡ GoesOn (record at_one { work = Tails None 1 [] })
  pub ends : tail_hears 1 None 1 [] (Answer (reply.Refused (refusal.NotHere 1))) (record at_one { work = Tails None 1 [] }) ≡ Ends Caught at_one

-- ## Images
-- the two newest are kept, and what is before the older of them may be purged
pub record ImagesAreKept : Type 0 where
  pub newest : (reload_image (record (save_image at_one) { space = empty_space; position = 0 })).position ≡ 1
  pub kept : min_to_keep 0 (save_image (record (save_image (record (save_image at_one) { position = 7 })) { position = 9 })).images ≡ Some 8
