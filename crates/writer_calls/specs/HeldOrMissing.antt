-- Each final line that is told in a pass is held or missing, and not both.
use Rattle.std.specs.Prelude.{◌≡◌, ℕ, ◌⊎◌, true, false, List, map, Contains}
use Rattle.journal_core.specs.declared.peer_call.PeerCall.{PeerCall}
use Rattle.journal_core.specs.declared.segment.Segment.{Segment}
use Rattle.writer_calls.specs.declared.synced.Synced.{Synced}
use Rattle.writer_calls.specs.declared.told.ToldLine.{ToldLine}
use Rattle.writer_calls.specs.Told.{lines_told}
use Rattle.writer_calls.specs.Mirrors.{is_held, place_of, place_missing, IsSynced}

-- one of the missing lines is this one
abbrev pub IsMissing : Synced → ToldLine → Type 0
IsMissing s t = Contains (map place_missing s.missing.items) (place_of t)

abbrev pub LinesAreHeldOrMissing : Type 0
LinesAreHeldOrMissing =
    (nodes : ℕ) (before after : List PeerCall) (old new : List Segment) (s : Synced) (t : ToldLine) (synced : IsSynced nodes before after old new s)
    → Contains (lines_told synced.passes.added) t
    → ((is_held t.line.start new ≡ true) × (IsMissing s t → ⊥)) ⊎ ((is_held t.line.start new ≡ false) × IsMissing s t)
