use Rattle.list_oiv.proofs.entries.EntriesRowText.text.Goals as goal

pub array_text-requires : goal.array_text-requires
array_text-requires c = c.requires.1.before
