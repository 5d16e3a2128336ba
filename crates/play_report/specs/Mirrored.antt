-- What is told of a mirror after a pass: what each node told, the segments that are held, and those
-- that are missing.
use Rattle.std.specs.Prelude.{ℕ, ◌+◌, ◌-◌, List, [], ◌∷◌, ◌++◌, codes, sum_by}
use Rattle.std.specs.List.{flat_map}
use Rattle.journal_core.specs.declared.segment_line.SegmentLine.{SegmentLine}
use Rattle.journal_text.specs.Texts.{numbers_text}
use Rattle.writer_core.specs.declared.cause.Cause.{Cause}
use Rattle.writer_core.specs.declared.cause.Cause.TheVariants.{Ok, Silent, OutOfSync, Refused}
use Rattle.writer_calls.specs.declared.synced.Missing.{Missing}
use Rattle.writer_calls.specs.declared.told.NodeTold.{NodeTold}
use Rattle.play_names.specs.Results.{cause_words}
use Rattle.play_report.specs.Summary.{summary_line}

-- ## Nodes
-- how many final segments it told, or why it told none
abbrev pub told_after : Cause → ℕ → List ℕ
told_after Ok count = numbers_text (count ∷ [])
told_after Silent count = cause_words (Silent ∷ [])
told_after OutOfSync count = cause_words (OutOfSync ∷ [])
told_after (Refused refusal) count = cause_words (Refused refusal ∷ [])

unfoldable pub told_text : ℕ → NodeTold → List ℕ
told_text node told = codes "node" ++ numbers_text (node ∷ []) ++ told_after told.cause told.lines ++ 10 ∷ []

-- the nodes from that number on
unfoldable pub nodes_told_text : ℕ → List NodeTold → List ℕ
nodes_told_text node [] = []
nodes_told_text node (told ∷ rest) = told_text node told ++ nodes_told_text (node + 1) rest

-- ## Segments
unfoldable pub held_text : SegmentLine → List ℕ
held_text l = codes "segment" ++ numbers_text (l.start ∷ l.end ∷ []) ++ 10 ∷ []

unfoldable pub missing_text : Missing → List ℕ
missing_text m = codes "missing" ++ numbers_text (m.start ∷ m.end ∷ []) ++ numbers_text (m.node ∷ []) ++ cause_words (m.cause ∷ []) ++ 10 ∷ []

-- how many edits they have
abbrev pub edits_in : List SegmentLine → ℕ
edits_in lines = sum_by (λ l. l.end + 1 - l.start) lines

-- ## The whole
unfoldable pub mirror_text : List NodeTold → List SegmentLine → List Missing → List ℕ
mirror_text heard lines missing =
    nodes_told_text 1 heard ++ flat_map held_text lines ++ flat_map missing_text missing ++ summary_line (codes "edits") (edits_in lines) ++ codes "end\n"
