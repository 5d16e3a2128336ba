-- How much more the open segment takes.
use Rattle.std.specs.Prelude.{ℕ, ◌+◌, ◌-◌, ◌≡◌, ◌<◌, ◌≤◌, ◌↔◌, List, length, None, true, false, nat_lt, if◌then◌else◌}
use Rattle.std.specs.List.{list_any}
use Rattle.journal_core.specs.Limits.{max_body, max_batch}
use Rattle.writer_core.specs.Views.{WriterView}
use Rattle.writer_core.specs.Writer.{is_writing, log_limit}

-- The bodies that still fit: a segment has at most 16,384 edits, and the last is the record that
-- ends it. None where no segment is open.
abbrev pub room_of : WriterView → ℕ
room_of w = if is_writing w.phase then w.start + 16383 - w.next else 0

-- A batch that is small enough in itself passes no limit exactly where the segment has room for it.
abbrev pub RoomIsExact : Type 0
RoomIsExact =
    (w : WriterView) (bodies : List (List ℕ)) → is_writing w.phase ≡ true → 0 < length bodies → length bodies ≤ max_batch
    → list_any (λ body. nat_lt max_body (length body)) bodies ≡ false → (log_limit w bodies ≡ None) ↔ (length bodies ≤ room_of w)
