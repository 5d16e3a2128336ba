-- A segment that is written body by body has the bytes of its bodies, and they are a segment's file
-- of those.
use Rattle.std.proofs.Common.{◌≡◌, ℕ, ◌+◌, ◌<◌, ◌≤◌, Bool, true, false, cond, ltb, List, [], ◌∷◌, ◌++◌, length, take, None, refl, sym, ap, subst, ◌∙◌, arith, append_assoc, append-nil, length-append}
use Rattle.std.specs.List.{flat_map, list_any}
use Rattle.std.proofs.lemmas.Bool.{ltb-true, ltb-false, lt-ltb, le-ltb, or_parts, or_from}
use Rattle.std.proofs.lemmas.List.{take_all}
use Rattle.std.proofs.lemmas.List.Concat.{flat_map-append}
use Rattle.journal_core.specs.Views.{BatchView}
use Rattle.journal_core.specs.Limits.{max_number, max_batch}
use Rattle.disk_frame.specs.Frames.{frame_bytes, is_bad_body, broken_rule}
use Rattle.disk_frame.specs.Segments.{header_bytes, IsSegmentFile}
use Rattle.disk_frame.proofs.RuleLaws.{keeps_rules}
use Rattle.disk_frame.proofs.SegmentLaws.{new_segment, segment_one_more}
use Rattle.std.specs.Prelude.{Vec}
use Rattle.std.specs.declared.alloc.Global.{Global}
use Rattle.list_back.specs.declared.segment_writer.SegmentWriter.{SegmentWriter}
use Rattle.list_back.specs.Pieces.{batch_of, batches, AreFull, segment_bytes}
use Rattle.list_back.specs.Writing.{IsWritten}

-- ## The batches, body by body

pub one_waits : (first : ℕ) (waiting : List (List ℕ)) (body : List ℕ) (more : List (List ℕ)) → length waiting + 1 < max_batch
    → batches first waiting (body ∷ more) ≡ batches first (waiting ++ body ∷ []) more
unfolding batches
one_waits first [] body more h = ap (λ (b : Bool). cond b (batches first (body ∷ []) more) (batch_of first (body ∷ []) ∷ batches (first + max_batch) [] more)) (lt-ltb _ _ h)
one_waits first (w ∷ waiting) body more h =
    ap (λ (b : Bool). cond b (batches first ((w ∷ waiting) ++ body ∷ []) more) (batch_of first ((w ∷ waiting) ++ body ∷ []) ∷ batches (first + max_batch) [] more)) (lt-ltb _ _ h)

pub one_frame : (first : ℕ) (waiting : List (List ℕ)) (body : List ℕ) (more : List (List ℕ)) → max_batch ≤ length waiting + 1
    → batches first waiting (body ∷ more) ≡ batch_of first (waiting ++ body ∷ []) ∷ batches (first + max_batch) [] more
unfolding batches
one_frame first [] body more h = absurd (omega arith)
one_frame first (w ∷ waiting) body more h =
    ap (λ (b : Bool). cond b (batches first ((w ∷ waiting) ++ body ∷ []) more) (batch_of first ((w ∷ waiting) ++ body ∷ []) ∷ batches (first + max_batch) [] more)) (le-ltb _ _ h)

pub none_waits : (first : ℕ) → batches first [] [] ≡ []
unfolding batches
none_waits first = refl

pub some_wait : (first : ℕ) (waiting : List (List ℕ)) → 0 < length waiting → batches first waiting [] ≡ batch_of first waiting ∷ []
unfolding batches
some_wait first [] h = absurd (omega arith)
some_wait first (w ∷ waiting) h = refl

full_front : (b : BatchView) (bs : List BatchView) → length b.bodies ≡ max_batch → AreFull bs → AreFull (b ∷ bs)
full_front b [] e h = (omega (arith, e), omega (arith, e))
full_front b (c ∷ bs) e h = (e, h)

pub full_batches : (bodies : List (List ℕ)) (first : ℕ) (waiting : List (List ℕ)) → length waiting < max_batch → AreFull (batches first waiting bodies)
full_batches [] first [] room = subst AreFull (sym (none_waits first)) tt
full_batches [] first (w ∷ waiting) room =
    let one : AreFull (batch_of first (w ∷ waiting) ∷ []) = (omega arith, omega (arith, room)) in
    subst AreFull (sym (some_wait first (w ∷ waiting) (omega arith))) one
full_batches (body ∷ bodies) first waiting room = by (λ n held r. full_batches bodies n held r) (ltb (length waiting + 1) max_batch) refl
  where
    long : length (waiting ++ body ∷ []) ≡ length waiting + 1
    long = length-append waiting (body ∷ [])

    by : ((n : ℕ) (held : List (List ℕ)) → length held < max_batch → AreFull (batches n held bodies))
        → (t : Bool) → ltb (length waiting + 1) max_batch ≡ t → AreFull (batches first waiting (body ∷ bodies))
    by rec true is =
        let less : length waiting + 1 < max_batch = ltb-true _ _ is in
        subst AreFull (sym (one_waits first waiting body bodies less)) (rec first (waiting ++ body ∷ []) (omega (arith, less, long)))
    by rec false is =
        let full : max_batch ≤ length waiting + 1 = ltb-false _ _ is in
        let same : length (waiting ++ body ∷ []) ≡ max_batch = omega (arith, long, full, room) in
        subst AreFull (sym (one_frame first waiting body bodies full))
        (full_front (batch_of first (waiting ++ body ∷ [])) (batches (first + max_batch) [] bodies) same (rec (first + max_batch) [] (omega arith)))

-- ## The bytes are a segment's file

-- bodies that a frame may hold
abbrev pub AreGood : List (List ℕ) → Type 0
AreGood bodies = list_any is_bad_body bodies ≡ false

two_goods : (xs ys : List (List ℕ)) → AreGood (xs ++ ys) → AreGood xs × AreGood ys
two_goods [] ys h = (refl, h)
two_goods (x ∷ xs) ys h =
    let p = or_parts (is_bad_body x) (list_any is_bad_body (xs ++ ys)) h in
    let r = two_goods xs ys p.1 in
    (or_from (is_bad_body x) (list_any is_bad_body xs) p.0 r.0, r.1)

frame_rules : (first : ℕ) (bodies : List (List ℕ)) → 1 ≤ length bodies → length bodies ≤ max_batch → AreGood bodies
    → first + length bodies ≤ max_number + 1 → broken_rule first (batch_of first bodies) ≡ None
frame_rules first bodies some few good within = keeps_rules first (batch_of first bodies)
    (record { some = some; most = omega (arith, few); bodies = good; first = refl; last = omega (arith, within, some) })

-- a segment's file without a tail
abbrev IsWhole : List ℕ → ℕ → ℕ → List (List ℕ) → Type 0
IsWhole bytes start epoch bodies = IsSegmentFile bytes start epoch bodies (length bytes)

one_more_frame : (bytes : List ℕ) (start epoch first : ℕ) (done bodies : List (List ℕ)) → IsWhole bytes start epoch done → start + length done ≡ first
    → broken_rule first (batch_of first bodies) ≡ None
    → IsWhole (bytes ++ frame_bytes (batch_of first bodies)) start epoch (done ++ bodies)
one_more_frame bytes start epoch first done bodies whole next good =
    let b = batch_of first bodies in
    let s = segment_one_more bytes start epoch done (length bytes) b [] whole (ap (λ (n : ℕ). broken_rule n b) next ∙ good) tt in
    let spelled : take (length bytes) bytes ++ (frame_bytes b ++ []) ≡ bytes ++ frame_bytes b = (λ i. take_all (length bytes) bytes (omega arith) i ++ append-nil (frame_bytes b) i) in
    let long : length bytes + length (frame_bytes b) ≡ length (bytes ++ frame_bytes b) = sym (length-append bytes (frame_bytes b)) in
    let P : List ℕ → ℕ → Type 0 = λ x n. IsSegmentFile x start epoch (done ++ bodies) n in
    subst (λ (n : ℕ). P (bytes ++ frame_bytes b) n) long (subst (λ (x : List ℕ). P x (length bytes + length (frame_bytes b))) spelled s)

whole_as : (bytes : List ℕ) (start epoch : ℕ) (xs ys : List (List ℕ)) → xs ≡ ys → IsWhole bytes start epoch xs → IsWhole bytes start epoch ys
whole_as bytes start epoch xs ys e w = subst (λ (zs : List (List ℕ)). IsWhole bytes start epoch zs) e w

whole_bytes : (xs ys : List ℕ) (start epoch : ℕ) (bodies : List (List ℕ)) → xs ≡ ys → IsWhole xs start epoch bodies → IsWhole ys start epoch bodies
whole_bytes xs ys start epoch bodies e w = subst (λ (zs : List ℕ). IsWhole zs start epoch bodies) e w

rest_whole : (bodies : List (List ℕ)) (bytes : List ℕ) (start epoch first : ℕ) (done waiting : List (List ℕ)) → IsWhole bytes start epoch done
    → start + length done ≡ first → length waiting < max_batch
    → AreGood (waiting ++ bodies) → first + length waiting + length bodies ≤ max_number + 1
    → IsWhole (bytes ++ flat_map frame_bytes (batches first waiting bodies)) start epoch (done ++ (waiting ++ bodies))
rest_whole [] bytes start epoch first done [] whole next room good within =
    whole_bytes bytes _ start epoch (done ++ []) (sym (append-nil bytes)
    ∙ ap (λ (bs : List BatchView). bytes ++ flat_map frame_bytes bs) (sym (none_waits first)))
    (whole_as bytes start epoch done (done ++ []) (sym (append-nil done)) whole)
rest_whole [] bytes start epoch first done (w ∷ waiting) whole next room good within =
    let bodies : List (List ℕ) = (w ∷ waiting) ++ [] in
    let same : (w ∷ waiting) ++ [] ≡ w ∷ waiting = append-nil (w ∷ waiting) in
    let goods : AreGood (w ∷ waiting) = subst AreGood same good in
    let rules = frame_rules first (w ∷ waiting) (omega arith) (omega (arith, room)) goods (omega (arith, within)) in
    let made = one_more_frame bytes start epoch first done (w ∷ waiting) whole next rules in
    let spelled : bytes ++ frame_bytes (batch_of first (w ∷ waiting)) ≡ bytes ++ flat_map frame_bytes (batches first (w ∷ waiting) []) =
    ap (λ (z : List ℕ). bytes ++ z) (sym (append-nil (frame_bytes (batch_of first (w ∷ waiting)))))
    ∙ ap (λ (bs : List BatchView). bytes ++ flat_map frame_bytes bs) (sym (some_wait first (w ∷ waiting) (omega arith))) in
    whole_bytes _ _ start epoch (done ++ ((w ∷ waiting) ++ [])) spelled
    (whole_as _ start epoch (done ++ (w ∷ waiting)) (done ++ ((w ∷ waiting) ++ [])) (ap (λ (z : List (List ℕ)). done ++ z) (sym same)) made)
rest_whole (body ∷ bodies) bytes start epoch first done waiting whole next room good within =
    by (λ out front held w n r g i. rest_whole bodies out start epoch (start + length front) front held w n r g i) (ltb (length waiting + 1) max_batch) refl
  where
    regroup : (waiting ++ body ∷ []) ++ bodies ≡ waiting ++ body ∷ bodies
    regroup = append_assoc waiting (body ∷ []) bodies

    long : length (waiting ++ body ∷ []) ≡ length waiting + 1
    long = length-append waiting (body ∷ [])

    by : ((out : List ℕ) (front held : List (List ℕ)) → IsWhole out start epoch front → start + length front ≡ start + length front
        → length held < max_batch → AreGood (held ++ bodies) → start + length front + length held + length bodies ≤ max_number + 1
        → IsWhole (out ++ flat_map frame_bytes (batches (start + length front) held bodies)) start epoch (front ++ (held ++ bodies)))
        → (b : Bool) → ltb (length waiting + 1) max_batch ≡ b → IsWhole (bytes ++ flat_map frame_bytes (batches first waiting (body ∷ bodies))) start epoch (done ++ (waiting ++ body ∷ bodies))
    by rec true is =
        let less : length waiting + 1 < max_batch = ltb-true _ _ is in
        let r = rec bytes done (waiting ++ body ∷ []) whole refl (omega (arith, less, long)) (subst AreGood (sym regroup) good) (omega (arith, within, long, next)) in
        let spelled : batches (start + length done) (waiting ++ body ∷ []) bodies ≡ batches first waiting (body ∷ bodies) =
        ap (λ (n : ℕ). batches n (waiting ++ body ∷ []) bodies) next ∙ sym (one_waits first waiting body bodies less) in
        whole_bytes _ _ start epoch (done ++ (waiting ++ body ∷ bodies)) (ap (λ (bs : List BatchView). bytes ++ flat_map frame_bytes bs) spelled)
        (whole_as _ start epoch (done ++ ((waiting ++ body ∷ []) ++ bodies)) (done ++ (waiting ++ body ∷ bodies)) (ap (λ (z : List (List ℕ)). done ++ z) regroup) r)
    by rec false is =
        let full : max_batch ≤ length waiting + 1 = ltb-false _ _ is in
        let piece : List (List ℕ) = waiting ++ body ∷ [] in
        let goods = two_goods (waiting ++ body ∷ []) bodies (subst AreGood (sym regroup) good) in
        let rules = frame_rules first (waiting ++ body ∷ []) (omega (arith, long)) (omega (arith, long, room)) goods.0 (omega (arith, long, within)) in
        let made = one_more_frame bytes start epoch first done (waiting ++ body ∷ []) whole next rules in
        let out = bytes ++ frame_bytes (batch_of first (waiting ++ body ∷ [])) in
        let front = done ++ (waiting ++ body ∷ []) in
        let count : length front ≡ length done + length (waiting ++ body ∷ []) = length-append done (waiting ++ body ∷ []) in
        let after : start + length front ≡ first + max_batch = omega (arith, count, long, full, room, next) in
        let r = rec out front [] made refl (omega arith) goods.1 (omega (arith, after, within, room, full)) in
        let tail : bytes ++ (frame_bytes (batch_of first (waiting ++ body ∷ [])) ++ flat_map frame_bytes (batches (first + max_batch) [] bodies)) ≡
        bytes ++ flat_map frame_bytes (batches first waiting (body ∷ bodies)) =
        ap (λ (bs : List BatchView). bytes ++ flat_map frame_bytes bs) (sym (one_frame first waiting body bodies full)) in
        let spelled : out ++ flat_map frame_bytes (batches (start + length front) [] bodies) ≡ bytes ++ flat_map frame_bytes (batches first waiting (body ∷ bodies)) =
        ap (λ (n : ℕ). out ++ flat_map frame_bytes (batches n [] bodies)) after
        ∙ append_assoc bytes (frame_bytes (batch_of first (waiting ++ body ∷ []))) (flat_map frame_bytes (batches (first + max_batch) [] bodies))
        ∙ tail in
        let all : front ++ bodies ≡ done ++ (waiting ++ body ∷ bodies) = append_assoc done (waiting ++ body ∷ []) bodies ∙ ap (λ (z : List (List ℕ)). done ++ z) regroup in
        whole_bytes _ _ start epoch (done ++ (waiting ++ body ∷ bodies)) spelled (whole_as _ start epoch (front ++ bodies) (done ++ (waiting ++ body ∷ bodies)) all r)

header_long : (start epoch : ℕ) → 1 ≤ start → start ≤ max_number → 1 ≤ epoch → epoch ≤ max_number → IsWhole (header_bytes start epoch) start epoch []
header_long start epoch some_start start_within some_epoch epoch_within =
    let s = new_segment start epoch [] some_start start_within some_epoch epoch_within tt in
    let long : 24 ≡ length (header_bytes start epoch) = refl in
    subst (λ (n : ℕ). IsSegmentFile (header_bytes start epoch) start epoch [] n) long (subst (λ (x : List ℕ). IsSegmentFile x start epoch [] 24) (append-nil (header_bytes start epoch)) s)

pub segment_whole : (start epoch : ℕ) (bodies : List (List ℕ)) → 1 ≤ start → start ≤ max_number → 1 ≤ epoch → epoch ≤ max_number → AreGood bodies → start + length bodies ≤ max_number + 1
    → IsSegmentFile (segment_bytes start epoch bodies) start epoch bodies (length (segment_bytes start epoch bodies))
segment_whole start epoch bodies some_start start_within some_epoch epoch_within good within =
    rest_whole bodies (header_bytes start epoch) start epoch start [] [] (header_long start epoch some_start start_within some_epoch epoch_within)
    (omega arith) (omega arith) good (omega (arith, within))

-- ## The code of the writer

pub begins_written : (start epoch : ℕ) (w : SegmentWriter) → w.bytes.items ≡ header_bytes start epoch → w.first ≡ start → w.waiting ≡ [] → IsWritten start epoch [] w
begins_written start epoch w bytes first none = record {
  frames = [];
  bytes = bytes ∙ sym (append-nil (header_bytes start epoch));
  goes_on = λ more. (λ i. batches (sym first i) (sym none i) more);
  next = (λ i. first i + length (none i));
}

all_moved : (bodies more : List (List ℕ)) (body : List ℕ) → (bodies ++ body ∷ []) ++ more ≡ bodies ++ body ∷ more
all_moved bodies more body = append_assoc bodies (body ∷ []) more

pub pushed_waits : (start epoch : ℕ) (bodies waiting : List (List ℕ)) (body : List ℕ) (w : SegmentWriter) → length w.waiting + 1 < max_batch
    → waiting ≡ w.waiting ++ body ∷ [] → IsWritten start epoch bodies w
    → IsWritten start epoch (bodies ++ body ∷ []) (record { bytes = w.bytes; first = w.first; waiting = waiting })
pushed_waits start epoch bodies waiting body w room is h =
    let long : length waiting ≡ length w.waiting + 1 = ap length is ∙ length-append w.waiting (body ∷ []) in
    let all : length (bodies ++ body ∷ []) ≡ length bodies + 1 = length-append bodies (body ∷ []) in
    record {
      frames = h.frames;
      bytes = h.bytes;
      goes_on = λ more.
          ap (batches start []) (all_moved bodies more body) ∙ h.goes_on (body ∷ more)
          ∙ ap (λ (bs : List BatchView). h.frames ++ bs) (one_waits w.first w.waiting body more room ∙ ap (λ (ws : List (List ℕ)). batches w.first ws more) (sym is));
      next = omega (arith, long, all, h.next);
    }

pub pushed_frame : (start epoch first : ℕ) (bodies waiting none : List (List ℕ)) (body : List ℕ) (w : SegmentWriter) (bytes : Vec ℕ Global)
    → max_batch ≤ length w.waiting + 1 → length w.waiting < max_batch → waiting ≡ w.waiting ++ body ∷ []
    → bytes.items ≡ w.bytes.items ++ frame_bytes (batch_of w.first waiting) → first ≡ w.first + max_batch → none ≡ [] → IsWritten start epoch bodies w
    → IsWritten start epoch (bodies ++ body ∷ []) (record { bytes = bytes; first = first; waiting = none })
pushed_frame start epoch first bodies waiting none body w bytes full room is spelled at gone h =
    let all : length (bodies ++ body ∷ []) ≡ length bodies + 1 = length-append bodies (body ∷ []) in
    let nothing : length none ≡ 0 = ap length gone in
    let b = batch_of w.first (w.waiting ++ body ∷ []) in
    record {
      frames = h.frames ++ b ∷ [];
      bytes =
          spelled ∙ (λ i. h.bytes i ++ frame_bytes (batch_of w.first (is i))) ∙ append_assoc (header_bytes start epoch) (flat_map frame_bytes h.frames) (frame_bytes b)
          ∙ ap (λ (z : List ℕ). header_bytes start epoch ++ z) (ap (λ (z : List ℕ). flat_map frame_bytes h.frames ++ z)
          (sym (append-nil (frame_bytes b))) ∙ sym (flat_map-append frame_bytes h.frames (b ∷ [])));
      goes_on = λ more.
          ap (batches start []) (all_moved bodies more body) ∙ h.goes_on (body ∷ more)
          ∙ ap (λ (bs : List BatchView). h.frames ++ bs) (one_frame w.first w.waiting body more full)
          ∙ sym (append_assoc h.frames (b ∷ []) (batches (w.first + max_batch) [] more))
          ∙ (λ i. (h.frames ++ b ∷ []) ++ batches (sym at i) (sym gone i) more);
      next = omega (arith, all, nothing, at, full, room, h.next);
    }

no_body : (xs : List (List ℕ)) → length xs ≡ 0 → xs ≡ []
no_body [] e = refl
no_body (x ∷ xs) e = absurd (omega (arith, e))

pub finished_none : (start epoch : ℕ) (bodies : List (List ℕ)) (w : SegmentWriter) → length w.waiting ≡ 0 → IsWritten start epoch bodies w → w.bytes.items ≡ segment_bytes start epoch bodies
finished_none start epoch bodies w none h =
    let all : batches start [] bodies ≡ h.frames =
    ap (batches start []) (sym (append-nil bodies)) ∙ h.goes_on [] ∙ ap (λ (ws : List (List ℕ)). h.frames ++ batches w.first ws []) (no_body w.waiting none)
    ∙ ap (λ (bs : List BatchView). h.frames ++ bs) (none_waits w.first) ∙ append-nil h.frames in
    h.bytes ∙ ap (λ (bs : List BatchView). header_bytes start epoch ++ flat_map frame_bytes bs) (sym all)

pub finished_some : (start epoch : ℕ) (bodies : List (List ℕ)) (w : SegmentWriter) (bytes : List ℕ) → 0 < length w.waiting
    → bytes ≡ w.bytes.items ++ frame_bytes (batch_of w.first w.waiting) → IsWritten start epoch bodies w → bytes ≡ segment_bytes start epoch bodies
finished_some start epoch bodies w bytes some spelled h =
    let b = batch_of w.first w.waiting in
    let all : batches start [] bodies ≡ h.frames ++ b ∷ [] =
    ap (batches start []) (sym (append-nil bodies)) ∙ h.goes_on [] ∙ ap (λ (bs : List BatchView). h.frames ++ bs) (some_wait w.first w.waiting some) in
    spelled ∙ ap (λ (z : List ℕ). z ++ frame_bytes b) h.bytes ∙ append_assoc (header_bytes start epoch) (flat_map frame_bytes h.frames) (frame_bytes b)
    ∙ ap (λ (z : List ℕ). header_bytes start epoch ++ z) (ap (λ (z : List ℕ). flat_map frame_bytes h.frames ++ z) (sym (append-nil (frame_bytes b)))
    ∙ sym (flat_map-append frame_bytes h.frames (b ∷ [])))
    ∙ ap (λ (bs : List BatchView). header_bytes start epoch ++ flat_map frame_bytes bs) (sym all)
