-- A node's state, and what became of its segments.
use Rattle.std.specs.Prelude.{ℕ, Bool, true, false, is_some, not, List, [], ◌++◌, map, filter, codes, decimal, Option, Some, None, if◌then◌else◌}
use Rattle.journal_core.specs.declared.segment.Segment.{Segment}
use Rattle.journal_core.specs.declared.node_state.NodeState.{NodeState}
use Rattle.journal_core.specs.declared.request.Request.{Request}
use Rattle.journal_core.specs.declared.request.Request.TheVariants as request
use Rattle.journal_core.specs.Segments.{find_segment, info_of}
use Rattle.journal_history.specs.declared.node_ask.NodeAsk.{NodeAsk}
use Rattle.journal_history.specs.declared.node_ask.NodeAsk.TheVariants as ask
use Rattle.node_states.specs.Fields.{key_text, first_text, number_text, limit_text, flag_text, array_text, closed}
use Rattle.node_states.specs.Answers.{segment_text}

unfoldable pub state_text : NodeState → List ℕ
state_text s =
    key_text (codes "state") ++ (first_text (codes "promised") s.promised ++ (number_text (codes "writer") s.writer ++ (number_text (codes "committed") s.committed
    ++ (number_text (codes "known") s.known ++ (number_text (codes "serial") s.serial ++ (limit_text (codes "open") s.opened ++ (flag_text (codes "up") s.up ++ closed)))))))

-- the start of the segment that a request may put or change
abbrev pub named : Request → Option ℕ
named (request.Start head start) = Some start
named (request.Journal head start batch) = Some start
named (request.Finalize head start end) = Some start
named (request.Accept head batch) = Some batch.first
named _ = None

abbrev pub found_text : Option Segment → List ℕ
found_text None = []
found_text (Some g) = segment_text (info_of g)

abbrev pub named_text : Option ℕ → List Segment → List ℕ
named_text None gs = []
named_text (Some start) gs = found_text (find_segment start gs)

abbrev pub starts_of : List Segment → List ℕ
starts_of gs = map (λ g. g.start) gs

-- the starts that are no segment's any more
abbrev pub removed : List ℕ → List Segment → List ℕ
removed starts gs = filter (λ start. not (is_some (find_segment start gs))) starts

unfoldable pub removed_text : List ℕ → List Segment → List ℕ
removed_text starts gs = key_text (codes "removed") ++ array_text (map decimal (removed starts gs))

abbrev pub is_purge : NodeAsk → Bool
is_purge (ask.Act late (request.Purge head min)) = true
is_purge _ = false

abbrev pub named_in : NodeAsk → Option ℕ
named_in (ask.Act late r) = named r
named_in _ = None

-- what became of the segments: those that a purge removed, or the one that was named
abbrev pub change_text : List Segment → NodeAsk → List Segment → List ℕ
change_text old a new = if is_purge a then removed_text (starts_of old) new else named_text (named_in a) new
