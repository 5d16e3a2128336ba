-- What a reader of the edits of a file tells next.
use Rattle.std.proofs.Common.{◌≡◌, ◌≢◌, ℕ, ◌+◌, ◌≤◌, List, [], length, drop, Option, Some, None, Result, Ok, Err, refl, sym, ap, ◌∙◌, subst, arith}
use Rattle.edit_ops.specs.Records.{EditView}
use Rattle.edit_codec.specs.declared.decoded.Decoded.{Decoded}
use Rattle.edit_codec.specs.Decoding.{IsDecoded}
use Rattle.disk_frame.specs.declared.entry.Entry.{Entry}
use Rattle.disk_frame.specs.Entries.{EntriesView, IsNext}
use Rattle.disk_frame.specs.Answers.{IsWholeFrame}
use Rattle.disk_frame.proofs.RuleLaws.{rules_kept, next_within}
use Rattle.disk_frame.proofs.ReadLaws.{placed}
use Rattle.list_oev.specs.declared.segment_listing.SegmentCause.{SegmentCause}
use Rattle.list_oev.specs.declared.segment_fault.SegmentFault.{SegmentFault}
use Rattle.list_oev.specs.declared.segment_fault.SegmentFault.TheVariants.{Memory, Damage}
use Rattle.list_oev.specs.Segment.{Begins, IsSegment}
use Rattle.list_oev.specs.Damage.{cause_of_edit, IsBadBody, IsDamaged}
use Rattle.list_oev.specs.Places.{Reader, Between, Within, IsAt, between, within, Enters, StandsStill, IsTelling, IsNextEdit}
use Rattle.list_oev.proofs.PlaceLaws.{at_end, in_frame, enters, passes, spoils}

pub bad_body : (body : List ℕ) (answer : Decoded) (cause : SegmentCause) → IsDecoded body answer → cause_of_edit answer ≡ Some cause → IsBadBody body cause
bad_body body answer cause right told = record { answer = answer; right = right; told = told }

-- nothing was ahead, and nothing has changed
still : (start : ℕ) (edits : List EditView) (old new : Reader) → Between start edits old → StandsStill old new → new.ahead ≡ old.ahead → Between start edits new
still start edits old new b s e = record {
  nothing = ap (λ (v : EntriesView). v.bodies) e ∙ b.nothing;
  begins = subst (λ (n : ℕ). Begins new.bytes start edits n) (sym s.end) (subst (λ (z : List ℕ). Begins z start edits old.end) (sym s.bytes) b.begins);
  txid_is = s.txid ∙ b.txid_is;
  ahead_is = ap (λ (v : EntriesView). v.txid) e ∙ b.ahead_is;
}

-- ---- entering a frame

pub record Sizes (next at : ℕ) (bytes : List ℕ) (count size : ℕ) : Type 0 where
  pub there : at + size ≤ length bytes
  pub last : next + count ≤ 4611686018427387905

pub sizes : (next at : ℕ) (bytes : List ℕ) (count size : ℕ) → IsWholeFrame next (drop at bytes) count size → Sizes next at bytes count size
sizes next at bytes count size w =
    let p = placed bytes at next count size w in
    let n : next + length w.batch.bodies ≤ 4611686018427387905 = next_within next w.batch w.good in
    record { there = omega (arith, p.there); last = omega (arith, w.count_is, n) }

no_bodies : (bodies : List (List ℕ)) → 1 ≤ length bodies → bodies ≢ []
no_bodies bodies h e = omega (arith, h, ap length e)

pub entered : (old new : Reader) (count size : ℕ) (w : IsWholeFrame old.txid (drop old.end old.bytes) count size) → new.bytes ≡ old.bytes → new.end ≡ old.end + size → new.txid ≡ old.txid + count
    → new.ahead ≡ record { txid = w.batch.first; place = old.end + 17; bodies = w.batch.bodies }
    → (start : ℕ) (edits : List EditView) → Between start edits old → Enters start edits old new
entered old new count size w eb ee et ea start edits b =
    let k = rules_kept old.txid w.batch w.good in
    let bodies : new.ahead.bodies ≡ w.batch.bodies = ap (λ (v : EntriesView). v.bodies) ea in
    let txid : new.ahead.txid ≡ old.txid = ap (λ (v : EntriesView). v.txid) ea ∙ k.first in
    record {
      at = enters start edits old new w.batch b w.spells w.good eb (omega (arith, ee, w.size_is)) (omega (arith, et, w.count_is)) txid (ap (λ (v : EntriesView). v.place) ea) bodies;
      some = λ h. no_bodies w.batch.bodies k.some (sym bodies ∙ h);
      same = eb;
      ahead = txid;
    }

-- ---- an entry of a frame

pub tells : (start : ℕ) (edits : List EditView) (old r new : Reader) (entry : Entry) (result : Result (Option (ℕ × EditView)) SegmentFault)
    → Within start edits r → r.bytes ≡ old.bytes → old.ahead.txid ≡ start + length edits
    → IsNext r.ahead entry new.ahead → StandsStill r new → IsTelling entry result → IsNextEdit start edits old result new
tells start edits old r new entry (Ok (Some told)) w eb ea next s is =
    let p = passes start edits r new entry told.1 w next s.bytes s.end s.txid is.1 in
    record {
      sound = p.sound;
      txid_is = is.0 ∙ p.txid_is;
      small = omega (arith, is.0, p.small);
      at = p.at;
      same = p.same ∙ eb;
      before = omega (arith, ea, is.0, p.txid_is);
      behind = omega (arith, is.0, p.behind);
    }
tells start edits old r new entry (Ok None) w eb ea next s is = absurd is
tells start edits old r new entry (Err (Damage place cause)) w eb ea next s is =
    let d : IsDamaged r.bytes entry.place cause = spoils start edits r entry new.ahead cause w next is.1 in
    subst (λ (z : List ℕ). IsDamaged z place cause) eb (subst (λ (n : ℕ). IsDamaged r.bytes n cause) (sym is.0) d)
tells start edits old r new entry (Err Memory) w eb ea next s is = tt

-- where the reader stands
stands : (start : ℕ) (edits : List EditView) (r : Reader) → IsAt start edits r → r.ahead.txid ≡ start + length edits
stands start edits r (between b) = b.ahead_is
stands start edits r (within w) = w.ahead_is

-- in a frame
pub tells_here : (start : ℕ) (edits : List EditView) (old new : Reader) (entry : Entry) (result : Result (Option (ℕ × EditView)) SegmentFault) → IsNext old.ahead entry new.ahead → StandsStill old new
    → IsTelling entry result → IsAt start edits old → IsNextEdit start edits old result new
tells_here start edits old new entry result next s is at =
    tells start edits old old new entry result (in_frame start edits old entry.body.now new.ahead.bodies at next.body) refl (stands start edits old at) next s is

-- after the seal of a frame that was entered
pub tells_there : (start : ℕ) (edits : List EditView) (old r new : Reader) (entry : Entry) (result : Result (Option (ℕ × EditView)) SegmentFault) → Between start edits old
    → Enters start edits old r → IsNext r.ahead entry new.ahead → StandsStill r new → IsTelling entry result → IsNextEdit start edits old result new
tells_there start edits old r new entry result b e next s is = tells start edits old r new entry result e.at e.same b.ahead_is next s is

-- after the frames so far
as_before : (start : ℕ) (edits : List EditView) (old mid new : Reader) (result : Result (Option (ℕ × EditView)) SegmentFault) → mid.bytes ≡ old.bytes → mid.ahead.txid ≡ old.ahead.txid
    → IsNextEdit start edits mid result new → IsNextEdit start edits old result new
as_before start edits old mid new (Ok (Some told)) eb ea p = record {
  sound = p.sound;
  txid_is = p.txid_is;
  small = p.small;
  at = p.at;
  same = p.same ∙ eb;
  before = sym ea ∙ p.before;
  behind = p.behind;
}
as_before start edits old mid new (Ok None) eb ea s = subst (λ (z : List ℕ). IsSegment z start edits) eb s
as_before start edits old mid new (Err (Damage place cause)) eb ea d = subst (λ (z : List ℕ). IsDamaged z place cause) eb d
as_before start edits old mid new (Err Memory) eb ea t = tt

pub tells_after : (start : ℕ) (edits : List EditView) (old mid new : Reader) (result : Result (Option (ℕ × EditView)) SegmentFault) → old.ahead.bodies ≡ [] → mid.ahead ≡ old.ahead
    → StandsStill old mid
    → (Between start edits mid → IsNextEdit start edits mid result new) → IsAt start edits old → IsNextEdit start edits old result new
tells_after start edits old mid new result h e s f at =
    as_before start edits old mid new result s.bytes (ap (λ (v : EntriesView). v.txid) e) (f (still start edits old mid (at_end start edits old at h) s e))
