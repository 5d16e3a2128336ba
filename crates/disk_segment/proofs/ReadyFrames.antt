-- The bytes of a batch that were made before they are written.
use Rattle.std.proofs.Common.{◌≡◌, ◌≤◌, ℕ, List, [], ◌∷◌, ◌++◌, length, take, drop, ap, sym, ◌∙◌, arith}
use Rattle.std.proofs.lemmas.List.{append-nil, drop_all, drop_at, take_all, drop-drop, length-append, length-drop}
use Rattle.base_words.specs.Fields.{overwritten}
use Rattle.journal_core.specs.Views.{BatchView}
use Rattle.disk_frame.specs.Frames.{frame_bytes}
use Rattle.disk_frame.specs.Segments.{header_bytes}
use Rattle.disk_segment.specs.Calls.{after_seal, content_of, IsFrameOf}
use Rattle.disk_segment.proofs.FileBytes.{header_long}

pub frame_long : (b : BatchView) (bytes : List ℕ) → IsFrameOf b bytes → 25 ≤ length bytes
frame_long b bytes is = omega (arith, ap length is.behind, length-drop 24 bytes, length-append (frame_bytes b) (0 ∷ []))

pub behind_is : (b : BatchView) (bytes : List ℕ) → IsFrameOf b bytes → drop 25 bytes ≡ after_seal b
behind_is b bytes is = sym (drop-drop 1 24 bytes) ∙ ap (λ (l : List ℕ). drop 1 l) is.behind

pub after_long : (b : BatchView) (bytes : List ℕ) → IsFrameOf b bytes → length (drop 25 bytes) ≡ length (frame_bytes b)
after_long b bytes is = ap length (behind_is b bytes is) ∙ omega (arith, length-drop 1 (frame_bytes b ++ 0 ∷ []), length-append (frame_bytes b) (0 ∷ []))

-- with a header in front it is a content
pub content_put : (b : BatchView) (epoch : ℕ) (bytes new : List ℕ) → IsFrameOf b bytes → new ≡ header_bytes b.first epoch ++ drop 24 bytes → new ≡ content_of b.first epoch (frame_bytes b)
unfolding content_of
content_put b epoch bytes new is put = put ∙ ap (λ (l : List ℕ). header_bytes b.first epoch ++ l) is.behind

pub frame_put : (b : BatchView) (epoch : ℕ) (bytes new : List ℕ) → IsFrameOf b bytes → new ≡ header_bytes b.first epoch ++ drop 24 bytes → IsFrameOf b new
frame_put b epoch bytes new is put = record {
  behind = ap (λ (l : List ℕ). drop 24 l) put
      ∙ drop_at (header_bytes b.first epoch) (drop 24 bytes) 24 (header_long b.first epoch) ∙ is.behind;
  good = is.good;
}

-- a header is written over the first bytes
pub header_over : (b : BatchView) (start epoch : ℕ) (bytes new : List ℕ) → start ≡ b.first → new ≡ overwritten bytes 0 (header_bytes start epoch) → new ≡ header_bytes b.first epoch ++ drop 24 bytes
header_over b start epoch bytes new first put = put ∙ ap (λ (n : ℕ). header_bytes n epoch ++ drop 24 bytes) first

pub content_over : (b : BatchView) (start epoch : ℕ) (bytes new : List ℕ) → IsFrameOf b bytes → start ≡ b.first
    → new ≡ overwritten bytes 0 (header_bytes start epoch) → new ≡ content_of b.first epoch (frame_bytes b)
content_over b start epoch bytes new is first put = content_put b epoch bytes new is (header_over b start epoch bytes new first put)

pub frame_over : (b : BatchView) (start epoch : ℕ) (bytes new : List ℕ) → IsFrameOf b bytes → start ≡ b.first → new ≡ overwritten bytes 0 (header_bytes start epoch) → IsFrameOf b new
frame_over b start epoch bytes new is first put = frame_put b epoch bytes new is (header_over b start epoch bytes new first put)

-- where a header is written over the front of a frame's bytes, the first `long` of them, which are
-- all, are a content
pub content_whole : (b : BatchView) (start epoch long : ℕ) (bytes out : List ℕ) → IsFrameOf b bytes → long ≡ length bytes → start ≡ b.first → out ≡ overwritten bytes 0 (header_bytes start epoch)
    → take long (out ++ drop (length out) bytes) ≡ content_of b.first epoch (frame_bytes b)
content_whole b start epoch long bytes out is long_is first put =
    let same : length out ≡ length bytes = ap length (header_over b start epoch bytes out first put)
    ∙ omega (
      arith,
      length-append (header_bytes b.first epoch) (drop 24 bytes),
      length-drop 24 bytes,
      frame_long b bytes is,
      header_long b.first epoch,
    ) in
    ap (λ (l : List ℕ). take long (out ++ l)) (drop_all (length out) bytes (omega (arith, same))) ∙ ap (λ (l : List ℕ). take long l) (append-nil out)
    ∙ take_all long out (omega (arith, long_is, same)) ∙ content_over b start epoch bytes out is first put

pub ruleset frames = (frame_long, behind_is, after_long, content_over, frame_over)
