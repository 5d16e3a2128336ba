-- How many bytes the bodies of edits take in an acceptance.
use Rattle.std.specs.Prelude.{◌*◌, ◌≤◌, List, length, map}
use Rattle.std.specs.List.{AllByRecursion}
use Rattle.edit_ops.specs.Records.{EditView, record_of}
use Rattle.journal_text.specs.Texts.{bodies_text}
use Rattle.play_script.specs.Edits.{edits_text, IsSayable}

-- no more than ten for each byte of the text that says them in a line of a script
abbrev pub EditsFit : Type 0
EditsFit = (edits : List EditView) → AllByRecursion IsSayable edits → length (bodies_text (map record_of edits)) ≤ 10 * length (edits_text edits)
