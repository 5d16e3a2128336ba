use Rattle.std.proofs.Common.{◌≡◌, ◌++◌, length, map, false}
use Rattle.std.specs.List.{AllByRecursion}
use Rattle.edit_codec.specs.EditTexts.{text_of}
use Rattle.base_words.specs.Words.{words_of}
use Rattle.play_script.specs.Edits.{texts_between, are_edits}
use Rattle.play_script.specs.Reading.{HasText}
use Rattle.play_script.proofs.edits.read_edits.Given as goal

-- the texts so far are the edits'
abbrev pub invariant-loop-first : goal.invariant-loop-first
invariant-loop-first l =
    (are_edits (words_of l.rest) ≡ are_edits (words_of l.text)) × (map (text_of false) l.edits ++ texts_between (words_of l.rest) ≡ texts_between (words_of l.text))
    × AllByRecursion HasText l.edits

abbrev pub decreases-loop-first : goal.decreases-loop-first
decreases-loop-first l = length l.rest
