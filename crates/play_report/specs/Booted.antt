-- What is told of a standby that began from an image: where it stands, and its rows; or why it
-- doesn't get there.
use Rattle.std.specs.Prelude.{ℕ, List, [], ◌∷◌, ◌++◌, Option, Some, None, codes}
use Rattle.journal_text.specs.Texts.{numbers_text}
use Rattle.ns_tree.specs.declared.end.LastSpace.{LastSpace}
use Rattle.play_names.specs.Results.{cause_words}
use Rattle.play_report.specs.Text.{rows_text}
use Rattle.writer_core.specs.declared.cause.Cause.{Cause}

-- the txid of the image that it began from, if there was one
abbrev pub image_words : Option ℕ → List ℕ
image_words None = codes " none"
image_words (Some txid) = numbers_text (txid ∷ [])

-- that image, how many entries the standby has applied, and its namespace's rows
unfoldable pub booted_text : Option ℕ → LastSpace → List ℕ
booted_text image last = codes "boot" ++ image_words image ++ numbers_text (last.position ∷ []) ++ 10 ∷ [] ++ rows_text last.rows ++ codes "end\n"

-- the log begins after the entry that follows its position
unfoldable pub unreachable_text : ℕ → ℕ → List ℕ
unreachable_text have first = codes "boot unreachable" ++ numbers_text (have ∷ first ∷ []) ++ codes "\nend\n"

-- too few nodes answered after its position, for these causes
unfoldable pub booted_behind_text : ℕ → List Cause → List ℕ
booted_behind_text txid causes = codes "boot behind" ++ numbers_text (txid ∷ []) ++ cause_words causes ++ codes "\nend\n"
