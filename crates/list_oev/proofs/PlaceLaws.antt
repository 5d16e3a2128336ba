-- How a reader goes through the edits of a file.
use Rattle.std.proofs.Common.{◌≡◌, ℕ, ◌+◌, ◌≤◌, List, [], ◌∷◌, ◌++◌, length, drop, None, refl, sym, ap, ◌∙◌, subst, append_assoc, arith}
use Rattle.std.specs.List.{flat_map}
use Rattle.std.specs.Int.{w16, to_be_bytes}
use Rattle.std.proofs.lemmas.List.{append-nil, drop-drop, length-append}
use Rattle.std.proofs.lemmas.List.Concat.{flat_map-append}
use Rattle.journal_core.specs.Views.{BatchView}
use Rattle.edit_ops.specs.Records.{EditView}
use Rattle.edit_ops.specs.Grammar.{IsRecord}
use Rattle.disk_frame.specs.declared.frame_cause.FrameCause.{FrameCause}
use Rattle.disk_frame.specs.declared.entry.Entry.{Entry}
use Rattle.disk_frame.specs.Entries.{EntriesView, IsNext}
use Rattle.disk_frame.specs.Frames.{frame_bytes, entry_bytes, broken_rule, IsTail}
use Rattle.disk_frame.specs.Faults.{Spells, IsBadFrame}
use Rattle.disk_frame.specs.Segments.{HasHeader}
use Rattle.disk_frame.proofs.FrameLaws.{goes_on, no_frames}
use Rattle.disk_frame.proofs.RuleLaws.{next_within}
use Rattle.list_oev.specs.declared.segment_listing.SegmentCause.{SegmentCause}
use Rattle.list_oev.specs.Segment.{AreRecords, Begins, IsSegment}
use Rattle.list_oev.specs.Damage.{cause_of_frame, IsBadBody, IsDamaged, bad_frame, bad_edit}
use Rattle.list_oev.specs.Places.{Reader, Between, Within, IsAt, between, within, Passes}
use Rattle.list_oev.proofs.RecordLaws.{records_length, records_append}

-- a frame of edits more
pub begins_more : (bytes : List ℕ) (start : ℕ) (edits done : List EditView) (end : ℕ) (frame : BatchView) → Begins bytes start edits end → Spells (drop end bytes) frame
    → broken_rule (start + length edits) frame ≡ None → AreRecords frame.bodies done → Begins bytes start (edits ++ done) (end + length (frame_bytes frame))
begins_more bytes start edits done end frame b spells good are =
    let d : drop end bytes ≡ drop b.behind (drop 24 bytes) = ap (λ (n : ℕ). drop n bytes) b.end_is ∙ sym (drop-drop b.behind 24 bytes) in
    record {
      epoch = b.epoch;
      bodies = b.bodies ++ frame.bodies;
      behind = b.behind + length (frame_bytes frame);
      header = b.header;
      frames = goes_on start (drop 24 bytes) b.bodies b.behind frame b.frames (subst (λ (z : List ℕ). Spells z frame) d spells)
          (subst (λ (n : ℕ). broken_rule (start + n) frame ≡ None) (records_length b.bodies edits b.are) good);
      are = records_append b.bodies frame.bodies edits done b.are are;
      end_is = omega (arith, b.end_is);
    }

-- a frame passed to its end
closes : (start : ℕ) (edits : List EditView) (r : Reader) → Within start edits r → r.ahead.bodies ≡ [] → Between start edits r
closes start edits r w h =
    let e : w.frame.bodies ≡ w.records = w.bodies_are ∙ (ap (λ (z : List (List ℕ)). w.records ++ z) h ∙ append-nil w.records) in
    let are : AreRecords w.frame.bodies w.done = subst (λ (z : List (List ℕ)). AreRecords z w.done) (sym e) w.are in
    let more : Begins r.bytes start (w.before ++ w.done) (w.seal + length (frame_bytes w.frame)) =
    begins_more r.bytes start w.before w.done w.seal w.frame w.begins w.spells w.good are in
    let n : length w.done ≡ length w.frame.bodies = records_length w.frame.bodies w.done are in
    record {
      nothing = h;
      begins = subst (λ (z : ℕ). Begins r.bytes start edits z) (sym w.end_is) (subst (λ (z : List EditView). Begins r.bytes start z (w.seal + length (frame_bytes w.frame))) (sym w.all) more);
      txid_is = omega (arith, w.txid_is, n, ap length w.all, length-append w.before w.done);
      ahead_is = w.ahead_is;
    }

pub at_end : (start : ℕ) (edits : List EditView) (r : Reader) → IsAt start edits r → r.ahead.bodies ≡ [] → Between start edits r
at_end start edits r (between b) h = b
at_end start edits r (within w) h = closes start edits r w h

pub in_frame : (start : ℕ) (edits : List EditView) (r : Reader) (body : List ℕ) (others : List (List ℕ)) → IsAt start edits r → r.ahead.bodies ≡ body ∷ others → Within start edits r
in_frame start edits r body others (between b) h = let e : body ∷ others ≡ [] = sym h ∙ b.nothing in cc
in_frame start edits r body others (within w) h = w

pub ends : (start : ℕ) (edits : List EditView) (r : Reader) → Between start edits r → IsTail (drop r.end r.bytes) → IsSegment r.bytes start edits
ends start edits r b tail =
    let d : drop r.end r.bytes ≡ drop b.begins.behind (drop 24 r.bytes) = ap (λ (n : ℕ). drop n r.bytes) b.begins.end_is ∙ sym (drop-drop b.begins.behind 24 r.bytes) in
    record {
      epoch = b.begins.epoch;
      bodies = b.begins.bodies;
      whole_length = r.end;
      file = record { header = b.begins.header; frames_length = b.begins.behind; frames = record { frames = b.begins.frames; tail = subst IsTail d tail }; whole = b.begins.end_is };
      are = b.begins.are;
    }

pub has_bad_frame : (start : ℕ) (edits : List EditView) (r : Reader) (cause : FrameCause) → Between start edits r
    → IsBadFrame r.txid (drop r.end r.bytes) cause → IsDamaged r.bytes r.end (cause_of_frame cause)
has_bad_frame start edits r cause b bad =
    bad_frame cause (record { start = start; edits = edits; begins = b.begins; bad = subst (λ (n : ℕ). IsBadFrame n (drop r.end r.bytes) cause) b.txid_is bad }) refl

pub fresh : (bytes : List ℕ) (start epoch : ℕ) (r : Reader) → HasHeader bytes start epoch → r.bytes ≡ bytes → r.end ≡ 24 → r.txid ≡ start
    → r.ahead.txid ≡ start → r.ahead.bodies ≡ [] → Between start [] r
fresh bytes start epoch r header eb ee et ea en =
    let h : HasHeader r.bytes start epoch = subst (λ (z : List ℕ). HasHeader z start epoch) (sym eb) header in
    record {
      nothing = en;
      begins = record { epoch = epoch; bodies = []; behind = 0; header = h; frames = no_frames start (drop 24 r.bytes); are = tt; end_is = ee };
      txid_is = omega (arith, et);
      ahead_is = omega (arith, ea);
    }

-- a frame that keeps the rules is entered
pub enters : (start : ℕ) (edits : List EditView) (r new : Reader) (frame : BatchView) → Between start edits r → Spells (drop r.end r.bytes) frame → broken_rule r.txid frame ≡ None
    → new.bytes ≡ r.bytes → new.end ≡ r.end + length (frame_bytes frame) → new.txid ≡ r.txid + length frame.bodies
    → new.ahead.txid ≡ r.txid → new.ahead.place ≡ r.end + 17 → new.ahead.bodies ≡ frame.bodies → Within start edits new
enters start edits r new frame b spells good eb ee et ht hp hb = record {
  before = edits;
  seal = r.end;
  begins = subst (λ (z : List ℕ). Begins z start edits r.end) (sym eb) b.begins;
  frame = frame;
  spells = subst (λ (z : List ℕ). Spells (drop r.end z) frame) (sym eb) spells;
  good = subst (λ (n : ℕ). broken_rule n frame ≡ None) b.txid_is good;
  records = [];
  done = [];
  are = tt;
  bodies_are = sym hb;
  all = sym (append-nil edits);
  end_is = ee;
  txid_is = omega (arith, et, b.txid_is);
  ahead_is = ht ∙ b.txid_is;
  place_is = omega (arith, hp);
}

entry_length : (body : List ℕ) → length (entry_bytes body) ≡ 2 + length body
entry_length body = omega (arith, length-append (to_be_bytes w16 (length body)) body)

records_more : (records : List (List ℕ)) (body : List ℕ) → length (flat_map entry_bytes (records ++ body ∷ [])) ≡ length (flat_map entry_bytes records) + 2 + length body
records_more records body =
    let e : flat_map entry_bytes (records ++ body ∷ []) ≡ flat_map entry_bytes records ++ (entry_bytes body ++ []) = flat_map-append entry_bytes records (body ∷ []) in
    let l : length (flat_map entry_bytes records ++ (entry_bytes body ++ [])) ≡ length (flat_map entry_bytes records) + length (entry_bytes body ++ []) =
    length-append (flat_map entry_bytes records) (entry_bytes body ++ []) in
    let k : length (entry_bytes body ++ []) ≡ length (entry_bytes body) = ap length (append-nil (entry_bytes body)) in
    omega (arith, ap length e, l, k, entry_length body)

-- an entry of the frame that is a record is passed
pub passes : (start : ℕ) (edits : List EditView) (old new : Reader) (entry : Entry) (edit : EditView) → Within start edits old → IsNext old.ahead entry new.ahead
    → new.bytes ≡ old.bytes → new.end ≡ old.end → new.txid ≡ old.txid → IsRecord entry.body.now edit → Passes start edits old new entry.txid edit
passes start edits old new entry edit w next eb ee et is =
    let bodies : w.frame.bodies ≡ (w.records ++ entry.body.now ∷ []) ++ new.ahead.bodies =
    w.bodies_are ∙ (ap (λ (z : List (List ℕ)). w.records ++ z) next.body ∙ sym (append_assoc w.records (entry.body.now ∷ []) new.ahead.bodies)) in
    let all : edits ++ edit ∷ [] ≡ w.before ++ (w.done ++ edit ∷ []) = ap (λ (z : List EditView). z ++ edit ∷ []) w.all ∙ append_assoc w.before w.done (edit ∷ []) in
    let le : length edits ≡ length w.before + length w.done = ap length w.all ∙ length-append w.before w.done in
    let lr : length w.done ≡ length w.records = records_length w.records w.done w.are in
    let lf : length w.frame.bodies ≡ length w.records + (1 + length new.ahead.bodies) =
    omega (arith, ap length w.bodies_are, length-append w.records old.ahead.bodies, ap length next.body) in
    let lim : start + length w.before + length w.frame.bodies ≤ 4611686018427387905 = next_within (start + length w.before) w.frame w.good in
    let lp : length (edits ++ edit ∷ []) ≡ length edits + 1 = omega (arith, length-append edits (edit ∷ [])) in
    record {
      sound = is.edit;
      txid_is = next.txid ∙ w.ahead_is;
      small = omega (arith, next.txid, w.ahead_is, le, lr, lf, lim);
      at = within (record {
        before = w.before;
        seal = w.seal;
        begins = subst (λ (z : List ℕ). Begins z start w.before w.seal) (sym eb) w.begins;
        frame = w.frame;
        spells = subst (λ (z : List ℕ). Spells (drop w.seal z) w.frame) (sym eb) w.spells;
        good = w.good;
        records = w.records ++ entry.body.now ∷ [];
        done = w.done ++ edit ∷ [];
        are = records_append w.records (entry.body.now ∷ []) w.done (edit ∷ []) w.are (is, tt);
        bodies_are = bodies;
        all = all;
        end_is = ee ∙ w.end_is;
        txid_is = et ∙ w.txid_is;
        ahead_is = omega (arith, next.txid_after, w.ahead_is, lp);
        place_is = omega (arith, next.place_after, next.place, w.place_is, records_more w.records entry.body.now);
      });
      same = eb;
      before = sym next.txid;
      behind = omega (arith, next.txid_after, next.txid);
    }

-- an entry of the frame that is no record is the damage
pub spoils : (start : ℕ) (edits : List EditView) (old : Reader) (entry : Entry) (after : EntriesView) (cause : SegmentCause) → Within start edits old → IsNext old.ahead entry after
    → IsBadBody entry.body.now cause → IsDamaged old.bytes entry.place cause
spoils start edits old entry after cause w next bad = bad_edit (record {
  start = start;
  edits = w.before;
  seal = w.seal;
  begins = w.begins;
  frame = w.frame;
  spells = w.spells;
  good = w.good;
  records = w.records;
  done = w.done;
  are = w.are;
  body = entry.body.now;
  others = after.bodies;
  bodies_are = w.bodies_are ∙ ap (λ (z : List (List ℕ)). w.records ++ z) next.body;
  bad = bad;
  at = omega (arith, next.place, w.place_is);
})
