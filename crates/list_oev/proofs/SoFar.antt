-- What was read of a file so far.
use Rattle.std.proofs.Common.{◌≡◌, ℕ, ◌+◌, ◌-◌, ◌^◌, ◌<◌, ◌≤◌, Bool, true, false, List, [], ◌∷◌, ◌++◌, length, slice_index, Option, Some, None, Ok, Err, refl, sym, ap, ◌∙◌, subst, arith}
use Rattle.std.proofs.lemmas.List.{length_push}
use Rattle.edit_ops.specs.Records.{EditView}
use Rattle.edit_ops.specs.Grammar.{IsEdit}
use Rattle.list_oev.specs.Counts.{AreCounts, statistics, statistics_by}
use Rattle.list_oev.specs.declared.segment_listing.SegmentCause.TheVariants.{Header}
use Rattle.list_oev.specs.declared.segment_fault.SegmentFault.{SegmentFault}
use Rattle.list_oev.specs.declared.segment_fault.SegmentFault.TheVariants.{Memory, Damage}
use Rattle.list_oev.specs.Segment.{IsSegment}
use Rattle.list_oev.specs.Damage.{HasNoHeader, IsDamaged, header}
use Rattle.list_oev.specs.Listed.{IsTold}
use Rattle.disk_frame.specs.Segments.{HasHeader}
use Rattle.list_oev.specs.Places.{Reader, IsAt, between, within, IsFresh, Passes, IsNextEdit, IsRead}
use Rattle.list_oev.specs.Steps.{IsListedSoFar, IsCountedSoFar, IsCounted, GoesOn, IsLineMore, IsOneMore, ListsNext, CountsNext}
use Rattle.list_oev.proofs.ListLaws.{statistics_are}

-- what is told of one edit more
abbrev pub Grows : {X : Type 0} → (ℕ → List EditView → List X) → (ℕ → EditView → List X) → Type 0
Grows tell piece = (txid : ℕ) (edits : List EditView) (edit : EditView) → tell txid (edits ++ edit ∷ []) ≡ tell txid edits ++ piece (txid + length edits) edit

listed_more : {X : Type 0} (tell : ℕ → List EditView → List X) (piece : ℕ → EditView → List X) → Grows tell piece → (bytes : List ℕ) (old new : Reader) (text : List X)
    (h : IsListedSoFar tell bytes old text) (txid : ℕ) (edit : EditView) → Passes h.start h.edits old new txid edit → (after : List X)
    → after ≡ text ++ piece txid edit → IsListedSoFar tell bytes new after
listed_more {X = X} tell piece grows bytes old new text h txid edit p after e = record {
  start = h.start;
  edits = h.edits ++ edit ∷ [];
  at = p.at;
  same = p.same ∙ h.same;
  told = e ∙ (ap (λ (z : List X). z ++ piece txid edit) h.told ∙ (ap (λ (n : ℕ). tell h.start h.edits ++ piece n edit) p.txid_is ∙ sym (grows h.start h.edits edit)));
}

pub counted_more : (bytes : List ℕ) (old new : Reader) (counts : List ℕ) (total : ℕ) (h : IsCountedSoFar bytes old counts total) (txid : ℕ) (edit : EditView)
    → Passes h.start h.edits old new txid edit → (after : List ℕ) → AreCounts after (h.edits ++ edit ∷ []) → (sum : ℕ) → sum ≡ total + 1 → IsCountedSoFar bytes new after sum
counted_more bytes old new counts total h txid edit p after are sum e = record {
  start = h.start;
  edits = h.edits ++ edit ∷ [];
  at = p.at;
  same = p.same ∙ h.same;
  are = are;
  total_is = omega (arith, e, h.total_is, length_push h.edits edit);
}

-- ---- where the reading ends

pub no_header_read : (tell : ℕ → List EditView → List ℕ) (bytes : List ℕ) (fault : SegmentFault) → HasNoHeader bytes → fault ≡ Damage 0 Header → IsRead tell bytes (Err fault)
no_header_read tell bytes fault none e = subst (λ (f : SegmentFault). IsRead tell bytes (Err f)) (sym e) (header none refl refl)

-- a reader stands after a header
at_header : (bytes : List ℕ) (start : ℕ) (edits : List EditView) (r : Reader) → IsAt start edits r → r.bytes ≡ bytes → HasNoHeader bytes → ⊥
at_header bytes start edits r (between b) e none = none start b.begins.epoch (subst (λ z. HasHeader z start b.begins.epoch) e b.begins.header)
at_header bytes start edits r (within w) e none = none start w.begins.epoch (subst (λ z. HasHeader z start w.begins.epoch) e w.begins.header)

pub fresh_header : (bytes : List ℕ) (r : Reader) → IsFresh bytes r → HasNoHeader bytes → ⊥
fresh_header bytes r f none = at_header bytes f.start [] r f.at f.same none

pub all_told : {X : Type 0} (tell : ℕ → List EditView → List X) (bytes : List ℕ) (text : List X) (start : ℕ) (edits : List EditView) (old : Reader)
    → old.bytes ≡ bytes → IsSegment old.bytes start edits
    → text ≡ tell start edits → IsTold tell bytes text
all_told tell bytes text start edits old e s t = record { start = start; edits = edits; segment = subst (λ (z : List ℕ). IsSegment z start edits) e s; spelled = t }

-- ---- what the reader passes

pub goes_on : (start : ℕ) (edits : List EditView) (old new : Reader) (txid : ℕ) (edit : EditView) → Passes start edits old new txid edit → GoesOn old new
goes_on start edits old new txid edit p = record { small = omega (arith, p.small, p.before); behind = omega (arith, p.before, p.behind) }

pub goes_on_less : (old new : Reader) → GoesOn old new → 2 ^ 62 + 1 - new.ahead.txid < 2 ^ 62 + 1 - old.ahead.txid
goes_on_less old new p = omega (arith, p.small, p.behind)

pub begun : {X : Type 0} (tell : ℕ → List EditView → List X) (bytes : List ℕ) (r : Reader) (text : List X) (f : IsFresh bytes r) → text ≡ tell f.start [] → IsListedSoFar tell bytes r text
begun tell bytes r text f e = record { start = f.start; edits = []; at = f.at; same = f.same; told = e }

pub counts_begun : (bytes : List ℕ) (r : Reader) (counts : List ℕ) (total : ℕ) → IsFresh bytes r → AreCounts counts [] → total ≡ 0 → IsCountedSoFar bytes r counts total
counts_begun bytes r counts total f are e = record { start = f.start; edits = []; at = f.at; same = f.same; are = are; total_is = e }

pub fresh_itself : (bytes : List ℕ) (r : Reader) → IsFresh bytes r → IsFresh r.bytes r
fresh_itself bytes r f = record { start = f.start; at = f.at; same = refl }

-- what the reader told, where it told an edit or the end
pub passed : (start : ℕ) (edits : List EditView) (old new : Reader) (told : Option (ℕ × EditView)) (txid : ℕ) (edit : EditView) → told ≡ Some (txid, edit) → IsNextEdit start edits old (Ok told) new
    → Passes start edits old new txid edit
passed start edits old new told txid edit e n = subst (λ (o : Option (ℕ × EditView)). IsNextEdit start edits old (Ok o) new) e n

pub ended : (start : ℕ) (edits : List EditView) (old new : Reader) (told : Option (ℕ × EditView)) → told ≡ None → IsNextEdit start edits old (Ok told) new → IsSegment old.bytes start edits
ended start edits old new told e n = subst (λ (o : Option (ℕ × EditView)). IsNextEdit start edits old (Ok o) new) e n

pub within_limit : (start : ℕ) (edits : List EditView) (old new : Reader) (txid : ℕ) (edit : EditView) → Passes start edits old new txid edit → length edits ≤ 4611686018427387904
within_limit start edits old new txid edit p = omega (arith, p.txid_is, p.small)

-- ---- a step

pub lists_more : {X : Type 0} (tell : ℕ → List EditView → List X) (piece : ℕ → EditView → List X) → Grows tell piece → (bytes : List ℕ) (old new : Reader) (text : List X)
    (h : IsListedSoFar tell bytes old text) (told : Option (ℕ × EditView)) (txid : ℕ) (edit : EditView) → told ≡ Some (txid, edit)
    → IsNextEdit h.start h.edits old (Ok told) new → (after : List X) → after ≡ text ++ piece txid edit → IsLineMore tell bytes old new after
lists_more tell piece grows bytes old new text h told txid edit e n after s =
    let p = passed h.start h.edits old new told txid edit e n in
    record { on = goes_on h.start h.edits old new txid edit p; so_far = listed_more tell piece grows bytes old new text h txid edit p after s }

pub lists_all : {X : Type 0} (tell : ℕ → List EditView → List X) (bytes : List ℕ) (old new : Reader) (text : List X) (h : IsListedSoFar tell bytes old text) (told : Option (ℕ × EditView))
    → told ≡ None → IsNextEdit h.start h.edits old (Ok told) new → IsTold tell bytes text
lists_all tell bytes old new text h told e n = all_told tell bytes text h.start h.edits old h.same (ended h.start h.edits old new told e n) h.told

pub lists_fault : {X : Type 0} (tell : ℕ → List EditView → List X) (bytes : List ℕ) (old new : Reader) (text after : List X) (h : IsListedSoFar tell bytes old text) (fault : SegmentFault)
    → IsNextEdit h.start h.edits old (Err fault) new → ListsNext tell bytes old after (Err fault) new
lists_fault tell bytes old new text after h (Damage place cause) d = subst (λ (z : List ℕ). IsDamaged z place cause) h.same d
lists_fault tell bytes old new text after h Memory d = tt

pub counts_more : (bytes : List ℕ) (old new : Reader) (counts : List ℕ) (total : ℕ) (h : IsCountedSoFar bytes old counts total) (told : Option (ℕ × EditView)) (txid : ℕ) (edit : EditView)
    → told ≡ Some (txid, edit) → IsNextEdit h.start h.edits old (Ok told) new → (after : List ℕ) → AreCounts after (h.edits ++ edit ∷ []) → (sum : ℕ)
    → sum ≡ total + 1 → IsOneMore bytes old new after sum
counts_more bytes old new counts total h told txid edit e n after are sum se =
    let p = passed h.start h.edits old new told txid edit e n in
    record {
      on = goes_on h.start h.edits old new txid edit p;
      so_far = counted_more bytes old new counts total h txid edit p after are sum se;
    }

pub counts_all : (bytes : List ℕ) (old new : Reader) (counts : List ℕ) (total : ℕ) (h : IsCountedSoFar bytes old counts total) (told : Option (ℕ × EditView)) → told ≡ None
    → IsNextEdit h.start h.edits old (Ok told) new → IsCounted bytes counts total
counts_all bytes old new counts total h told e n = record {
  start = h.start;
  edits = h.edits;
  segment = subst (λ (z : List ℕ). IsSegment z h.start h.edits) h.same (ended h.start h.edits old new told e n);
  are = h.are;
  total_is = h.total_is;
}

pub counts_fault : (bytes : List ℕ) (old new : Reader) (counts after : List ℕ) (total sum : ℕ) (h : IsCountedSoFar bytes old counts total) (fault : SegmentFault)
    → IsNextEdit h.start h.edits old (Err fault) new → CountsNext bytes old after sum (Err fault) new
counts_fault bytes old new counts after total sum h (Damage place cause) d = subst (λ (z : List ℕ). IsDamaged z place cause) h.same d
counts_fault bytes old new counts after total sum h Memory d = tt

-- ---- the whole, by its steps

pub lists_whole : {X : Type 0} (tell : ℕ → List EditView → List X) (bytes : List ℕ) (old new : Reader) (text : List X) (went : Bool) → went ≡ false → ListsNext tell bytes old text (Ok went) new
    → IsTold tell bytes text
lists_whole tell bytes old new text went e n = subst (λ (b : Bool). ListsNext tell bytes old text (Ok b) new) e n

pub lists_line : {X : Type 0} (tell : ℕ → List EditView → List X) (bytes : List ℕ) (old new : Reader) (text : List X) (went : Bool) → went ≡ true → ListsNext tell bytes old text (Ok went) new
    → IsLineMore tell bytes old new text
lists_line tell bytes old new text went e n = subst (λ (b : Bool). ListsNext tell bytes old text (Ok b) new) e n

pub lists_read : {X : Type 0} (tell : ℕ → List EditView → List X) (whole : ℕ → List EditView → List ℕ) (bytes : List ℕ) (old new : Reader) (text : List X) (fault : SegmentFault)
    → ListsNext tell bytes old text (Err fault) new → IsRead whole bytes (Err fault)
lists_read tell whole bytes old new text (Damage place cause) d = d
lists_read tell whole bytes old new text Memory d = tt

pub counts_whole : (bytes : List ℕ) (old new : Reader) (counts : List ℕ) (total : ℕ) (went : Bool) → went ≡ false → CountsNext bytes old counts total (Ok went) new → IsCounted bytes counts total
counts_whole bytes old new counts total went e n = subst (λ (b : Bool). CountsNext bytes old counts total (Ok b) new) e n

pub counts_one : (bytes : List ℕ) (old new : Reader) (counts : List ℕ) (total : ℕ) (went : Bool) → went ≡ true → CountsNext bytes old counts total (Ok went) new → IsOneMore bytes old new counts total
counts_one bytes old new counts total went e n = subst (λ (b : Bool). CountsNext bytes old counts total (Ok b) new) e n

pub counts_read : (tell : ℕ → List EditView → List ℕ) (bytes : List ℕ) (old new : Reader) (counts : List ℕ) (total : ℕ) (fault : SegmentFault)
    → CountsNext bytes old counts total (Err fault) new → IsRead tell bytes (Err fault)
counts_read tell bytes old new counts total (Damage place cause) d = d
counts_read tell bytes old new counts total Memory d = tt

pub counted_told : (bytes counts : List ℕ) (total : ℕ) (text before : List ℕ) → IsCounted bytes counts total → text ≡ before ++ statistics_by (λ n. slice_index counts n) total → before ≡ []
    → IsTold (λ start. statistics) bytes text
counted_told bytes counts total text before h e n = record {
  start = h.start;
  edits = h.edits;
  segment = h.segment;
  spelled = e ∙ (ap (λ (z : List ℕ). z ++ statistics_by (λ (k : ℕ). slice_index counts k) total) n ∙ statistics_are counts h.edits total h.are h.total_is);
}

pub counted_itself : (bytes : List ℕ) (r : Reader) (counts : List ℕ) (total : ℕ) → IsCountedSoFar bytes r counts total → IsCountedSoFar r.bytes r counts total
counted_itself bytes r counts total h = record { start = h.start; edits = h.edits; at = h.at; same = refl; are = h.are; total_is = h.total_is }

-- an edit that is told has a record
pub told_sound : (start : ℕ) (edits : List EditView) (old new : Reader) (told : Option (ℕ × EditView)) (txid : ℕ) (edit : EditView)
    → told ≡ Some (txid, edit) → IsNextEdit start edits old (Ok told) new
    → IsEdit edit
told_sound start edits old new told txid edit e n = (passed start edits old new told txid edit e n).sound

-- how many edits there were before one more
pub few : (start : ℕ) (edits : List EditView) (old new : Reader) (told : Option (ℕ × EditView)) (txid : ℕ) (edit : EditView) → told ≡ Some (txid, edit) → IsNextEdit start edits old (Ok told) new
    → length edits ≤ 4611686018427387904
few start edits old new told txid edit e n = within_limit start edits old new txid edit (passed start edits old new told txid edit e n)

pub listed_itself : {X : Type 0} (tell : ℕ → List EditView → List X) (bytes : List ℕ) (r : Reader) (text : List X) → IsListedSoFar tell bytes r text → IsListedSoFar tell r.bytes r text
listed_itself tell bytes r text h = record { start = h.start; edits = h.edits; at = h.at; same = refl; told = h.told }
