-- What a mirror holds, and what a pass over nodes makes of it.
use Rattle.std.specs.Prelude.{◌≡◌, ℕ, ◌+◌, ◌-◌, ◌==◌, ◌≤◌, ◌⊎◌, Bool, true, false, not, nat_lt, nat_le, ◌&&◌, if◌then◌else◌, List, [], ◌∷◌, ◌++◌, length, map, filter, take, drop}
use Rattle.std.specs.Prelude.{All, Contains, Option, Some, None, is_some, is_none, option_map}
use Rattle.std.specs.List.{fold, filter_map, list_any}
use Rattle.journal_core.specs.Laws.{IsQuestion}
use Rattle.journal_core.specs.Reads.{most_edits}
use Rattle.journal_core.specs.Segments.{find_segment, end_of}
use Rattle.journal_core.specs.declared.peer_call.PeerCall.{PeerCall}
use Rattle.journal_core.specs.declared.segment.Segment.{Segment}
use Rattle.journal_core.specs.declared.segment_line.SegmentLine.{SegmentLine}
use Rattle.writer_core.specs.declared.cause.Cause.{Cause}
use Rattle.writer_calls.specs.declared.mirror_read.MirrorRead.{MirrorRead}
use Rattle.writer_calls.specs.declared.mirror_read.MirrorRead.TheVariants as read
use Rattle.writer_calls.specs.declared.synced.Missing.{Missing}
use Rattle.writer_calls.specs.declared.synced.Synced.{Synced}
use Rattle.writer_calls.specs.declared.told.ToldLine.{ToldLine}
use Rattle.writer_calls.specs.Told.{lines_told, nodes_told, numbered}
use Rattle.writer_calls.specs.Fetching.{AreGiven, IsStopped}

-- ## What is held
-- a segment with this start is held
abbrev pub is_held : ℕ → List Segment → Bool
is_held start segments = is_some (find_segment start segments)

-- a segment as a line
abbrev pub line_of : Segment → SegmentLine
line_of g = record { start = g.start; end = end_of g; is_final = g.is_final; epoch = g.epoch }

abbrev pub lines_of : List Segment → List SegmentLine
lines_of segments = map line_of segments

-- by rising start; a line whose start is there already changes nothing
unfoldable pub hold_line : List SegmentLine → SegmentLine → List SegmentLine
hold_line [] new = new ∷ []
hold_line (line ∷ lines) new =
    if line.start == new.start then line ∷ lines
    else if nat_lt new.start line.start then new ∷ line ∷ lines
    else line ∷ hold_line lines new

-- these lines one after the other
abbrev pub hold_lines : List SegmentLine → List SegmentLine → List SegmentLine
hold_lines held new = fold hold_line held new

-- ## What comes of a line that was told
-- it is held, or the node stopped for this cause before it was read whole
pub record LineOutcome : Type 0 where
  pub told : ToldLine
  pub stopped : Option Cause

abbrev pub is_read : LineOutcome → Bool
is_read o = is_none o.stopped

-- the lines that are held, in the order in which they were told
abbrev pub lines_read : List LineOutcome → List SegmentLine
lines_read outcomes = map (λ o. o.told.line) (filter is_read outcomes)

abbrev pub missing_as : ToldLine → Cause → Missing
missing_as told cause = record { start = told.line.start; end = told.line.end; node = told.node; cause = cause }

-- the lines at which a node stopped
abbrev pub lines_stopped : List LineOutcome → List Missing
lines_stopped outcomes = filter_map (λ o. option_map (missing_as o.told) o.stopped) outcomes

abbrev pub IsOutcome : List PeerCall → List Segment → ToldLine → Option Cause → Type 0
IsOutcome calls held told None = is_held told.line.start held ≡ true
IsOutcome calls held told (Some cause) = IsStopped told.node told.line.start told.line.end calls cause

-- ## What calls make of a mirror
-- A line of the segment was told, and by these calls the node that told it gave each of its bodies.
pub record IsRead (told : List ToldLine) (calls : List PeerCall) (g : Segment) : Type 0 where
  pub node : ℕ
  pub is_told : Contains told (record { node = node; line = line_of g })
  pub given : AreGiven node calls g.start g.bodies

-- By these calls these outcomes came of lines that were told, in order. Nothing is let go; a
-- further segment was read whole; what is held is what was held and the lines that were read.
pub record Takes (told : List ToldLine) (calls : List PeerCall) (outcomes : List LineOutcome) (old new : List Segment) : Type 0 where
  pub kept : (start : ℕ) (g : Segment) → find_segment start old ≡ Some g → find_segment start new ≡ Some g
  pub came : (start : ℕ) (g : Segment) → find_segment start new ≡ Some g → (find_segment start old ≡ Some g) ⊎ IsRead told calls g
  pub lines : lines_of new ≡ hold_lines (lines_of old) (lines_read outcomes)
  pub each : All (λ o. IsOutcome calls new o.told o.stopped) outcomes
  pub grows : length old ≤ length new

-- Calls were made, all of them questions. This holds also where memory was wanting: then of the
-- lines that were read so far.
pub record Passes (before after : List PeerCall) (old new : List Segment) : Type 0 where
  pub added : List PeerCall
  pub calls : after ≡ before ++ added
  pub questions : All (λ c. IsQuestion c.request) added
  pub outcomes : List LineOutcome
  pub takes : Takes (lines_told added) added outcomes old new

-- ## A whole pass
-- the told lines of which no segment is held
abbrev pub unheld : List Segment → List ToldLine → List ToldLine
unheld segments told = filter (λ t. not (is_held t.line.start segments)) told

-- a line by its node, its first and its last txid
abbrev pub place_of : ToldLine → ℕ × ℕ × ℕ
place_of t = (t.node, t.line.start, t.line.end)

abbrev pub place_missing : Missing → ℕ × ℕ × ℕ
place_missing m = (m.node, m.start, m.end)

-- what a pass over so many nodes answers
pub record IsSynced (nodes : ℕ) (before after : List PeerCall) (old new : List Segment) (s : Synced) : Type 0 where
  pub passes : Passes before after old new
  -- each node was asked for its manifest, in order
  pub asked : nodes_told passes.added ≡ numbered 1 s.heard.items
  pub all : length s.heard.items ≡ nodes
  -- each final line that was told has its outcome
  pub each_line : map (λ o. o.told) passes.outcomes ≡ lines_told passes.added
  -- Those of which no segment is held now are missing, and no others: so each line that was told is
  -- held or missing, and not both.
  pub missing : map place_missing s.missing.items ≡ map place_of (unheld new (lines_told passes.added))
  pub stopped : All (λ m. IsStopped m.node m.start m.end passes.added m.cause) s.missing.items
  -- so many segments are held more
  pub begun : length new ≡ length old + s.begun

-- ## What a mirror gives
-- the segment has an edit at this txid
abbrev pub has_txid : ℕ → Segment → Bool
has_txid txid g = nat_le g.start txid && nat_lt txid (g.start + length g.bodies)

-- A held segment has this txid, and these are its bodies from there on, at most 256; or none has it.
abbrev pub IsReadOf : List Segment → ℕ → MirrorRead → Type 0
IsReadOf segments from (read.Edits batch) =
    (g : Segment) × Contains segments g × (has_txid from g ≡ true) × (batch ≡ record { first = from; bodies = take most_edits (drop (from - g.start) g.bodies) })
IsReadOf segments from read.NotHeld = list_any (has_txid from) segments ≡ false
IsReadOf segments from read.OutOfMemory = Unit {0}
