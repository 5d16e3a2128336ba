use Rattle.std.proofs.Common.{ap, ◌∙◌, ◌++◌, arith, List, ℕ}
use Rattle.std.specs.Prelude.{Option, Some, None, codes}
use Rattle.std.proofs.lemmas.Fmt.{decimal_digit}
use Rattle.base_words.specs.Padded.{padded}
use Rattle.disk_frame.specs.Reading.{entry_at, batch_in}
use Rattle.disk_segment.specs.Names.{InProgress, Record, name_of}
use Rattle.disk_node.specs.Decoded.{record_epoch, frames_in}
use Rattle.disk_node.specs.FileState.{segment_of, progress_file, or_file, way_file, segment_at}
use Rattle.disk_node.proofs.state_examples.segment_files_are_read.Goals as goal

pub returns-clause-in_progress : goal.returns-clause-in_progress
unfolding segment_at name_of padded frames_in batch_in entry_at
returns-clause-in_progress c files none there = λ i. segment_of 2 (record_epoch (none i)) None (or_file (way_file files 2 (record_epoch (none i))) (there i))

pub returns-clause-final_ : goal.returns-clause-final_
unfolding segment_at name_of padded frames_in batch_in entry_at
returns-clause-final_ c files there = ap (λ (file : Option (List ℕ)). segment_of 2 (record_epoch (files (name_of 2 Record))) file (progress_file files 2)) there

pub returns-clause-under_way : goal.returns-clause-under_way
unfolding segment_at name_of padded frames_in batch_in entry_at
returns-clause-under_way c files recorded there =
    let way = ap (λ (l : List ℕ). files (codes "edits_inprogress_" ++ (padded 19 2 ++ (codes ".epoch=" ++ l)))) (decimal_digit 1 (omega arith)) ∙ there in
    (λ i. segment_of 2 (record_epoch (recorded i)) None (or_file (way_file files 2 (record_epoch (recorded i))) (files (name_of 2 InProgress))))
    ∙ ap (λ (file : Option (List ℕ)). segment_of 2 (Some 1) None (or_file file (files (name_of 2 InProgress)))) way
