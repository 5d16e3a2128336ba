-- A segment that is being written.
use Rattle.std.specs.Prelude.{◌≡◌, ℕ, ◌+◌, ◌<◌, List, [], ◌++◌, length, false, nat_lt}
use Rattle.std.specs.List.{flat_map, list_any}
use Rattle.journal_core.specs.Views.{BatchView}
use Rattle.journal_core.specs.Limits.{max_body, max_batch}
use Rattle.disk_frame.specs.Frames.{frame_bytes}
use Rattle.disk_frame.specs.Segments.{header_bytes}
use Rattle.list_back.specs.declared.segment_writer.SegmentWriter.{SegmentWriter}
use Rattle.list_back.specs.Pieces.{batches}

-- the bodies that wait have room for one more, and are short enough for a frame
pub record HasRoom (w : SegmentWriter) : Type 0 where
  pub room : length w.waiting < max_batch
  pub short : list_any (λ body. nat_lt max_body (length body)) w.waiting ≡ false

-- these bodies were written, but for those that wait
pub record IsWritten (start epoch : ℕ) (bodies : List (List ℕ)) (w : SegmentWriter) : Type 0 where
  pub frames : List BatchView
  pub bytes : w.bytes.items ≡ header_bytes start epoch ++ flat_map frame_bytes frames
  pub goes_on : (more : List (List ℕ)) → batches start [] (bodies ++ more) ≡ frames ++ batches w.first w.waiting more
  pub next : w.first + length w.waiting ≡ start + length bodies
