use Rattle.std.proofs.Common.{◌∙◌}
use Rattle.base_words.proofs.PaddedLaws.{length-padded}
use Rattle.base_files.proofs.RecordLaws.{filled_in}
use Rattle.base_files.proofs.grammar.print_record.Goals as goal

pub returns : goal.returns
returns c = filled_in c.copy_from_slice.new.self c.copy_from_slice-2.new.self _ _ (c.copy_from_slice.ensures.after ∙ c.print19.ensures)
    (c.copy_from_slice-2.ensures.after ∙ c.print19-2.ensures) (length-padded 19 c.args.epoch)
