-- The loop that makes a segment of the values of an array.
use Rattle.std.proofs.Common.{◌≡◌, ℕ, suc, ◌+◌, ◌<◌, ◌≤◌, List, [], ◌∷◌, ◌++◌, length, map, take, drop, drop-cons, get_or, sym, ap, subst, ◌∙◌, arith}
use Rattle.std.specs.List.{AllByRecursion}
use Rattle.std.proofs.lemmas.List.{map-append, take_more, take-append-drop, take_all, length-take-le, length-map, map_push}
use Rattle.list_text.proofs.Ascii.{each_at}
use Rattle.serde_json.specs.Data.{Data}
use Rattle.serde_json.specs.View.{view}
use Rattle.serde_json.specs.declared.value.Value.{Value}
use Rattle.list_back.specs.Members.{IsOrdered}
use Rattle.journal_core.specs.Limits.{max_number}
use Rattle.edit_ops.specs.Records.{EditView, record_of}
use Rattle.list_back.specs.declared.segment_writer.SegmentWriter.{SegmentWriter}
use Rattle.list_back.specs.Pieces.{segment_bytes}
use Rattle.list_back.specs.Entries.{IsEntry, AreEntries}
use Rattle.list_back.specs.Writing.{IsWritten}
use Rattle.list_back.specs.Backs.{HasBadEntry, IsSegmentOf}
use Rattle.list_back.proofs.Made.{as_many, records_length, entries_push, entries_within}

-- the segment of these values is being written
pub record IsMadeSoFar (start epoch : ℕ) (ds : List Data) (w : SegmentWriter) : Type 0 where
  pub edits : List EditView
  pub are : AreEntries start edits ds
  pub written : IsWritten start epoch (map record_of edits) w

pub nothing_made : (start epoch : ℕ) (w : SegmentWriter) → IsWritten start epoch [] w → IsMadeSoFar start epoch [] w
nothing_made start epoch w h = record { edits = []; are = tt; written = h }

-- the txid of the next body
pub next_txid : (start epoch : ℕ) (ds : List Data) (w : SegmentWriter) → IsMadeSoFar start epoch ds w → w.first + length w.waiting ≡ start + length ds
next_txid start epoch ds w h = omega (arith, h.written.next, records_length h.edits, as_many start h.edits ds h.are)

pub firsts_length : (vs : List Value) (i : ℕ) → i ≤ length vs → length (map view (take i vs)) ≡ i
firsts_length vs i h = length-map (take i vs) view ∙ length-take-le i vs h

pub value_ordered : (vs : List Value) (i : ℕ) (v : Value) → AllByRecursion IsOrdered (map view vs) → i < length vs → v ≡ get_or vs i v → IsOrdered (view v)
value_ordered vs i v all h is = subst (λ (x : Value). IsOrdered (view x)) (sym is) (each_at IsOrdered view vs i v all h)

one_more : (vs : List Value) (i : ℕ) (v : Value) → i < length vs → v ≡ get_or vs i v → map view (take i vs) ++ view v ∷ [] ≡ map view (take (i + 1) vs)
one_more vs i v h is =
    sym (map_push view (take i vs) v) ∙ ap (map view) (ap (λ (x : Value). take i vs ++ x ∷ []) is ∙ sym (take_more vs i v h))

pub more_made : (start epoch : ℕ) (vs : List Value) (i : ℕ) (v : Value) (w next : SegmentWriter) (body : List ℕ) → i < length vs → v ≡ get_or vs i v → IsMadeSoFar start epoch (map view (take i vs)) w
    → (e : EditView) → IsEntry (start + i) e (view v) → body ≡ record_of e
    → ((s p : ℕ) (bodies : List (List ℕ)) → IsWritten s p bodies w → IsWritten s p (bodies ++ body ∷ []) next) → IsMadeSoFar start epoch (map view (take (i + 1) vs)) next
more_made start epoch vs i v w next body h is made e entry spelled push =
    let at : start + i ≡ start + length (map view (take i vs)) = ap (λ (n : ℕ). start + n) (sym (firsts_length vs i (omega (arith, h)))) in
    let here : IsEntry (start + length (map view (take i vs))) e (view v) = subst (λ (n : ℕ). IsEntry n e (view v)) at entry in
    let all : map record_of made.edits ++ body ∷ [] ≡ map record_of (made.edits ++ e ∷ []) = ap (λ (b : List ℕ). map record_of made.edits ++ b ∷ []) spelled ∙ sym (map_push record_of made.edits e) in
    record {
      edits = made.edits ++ e ∷ [];
      are = subst (λ (ds : List Data). AreEntries start (made.edits ++ e ∷ []) ds) (one_more vs i v h is) (entries_push start made.edits (map view (take i vs)) e (view v) made.are here);
      written = subst (λ (bs : List (List ℕ)). IsWritten start epoch bs next) all (push start epoch (map record_of made.edits) made.written);
    }

pub bad_value : (start epoch : ℕ) (vs : List Value) (i : ℕ) (v : Value) (w : SegmentWriter) → i < length vs → v ≡ get_or vs i v → IsMadeSoFar start epoch (map view (take i vs)) w
    → ((e : EditView) → IsEntry (start + i) e (view v) → ⊥) → HasBadEntry start (map view vs) i
bad_value start epoch vs i v w h is made bad =
    let split : vs ≡ take i vs ++ v ∷ drop (i + 1) vs =
    sym (take-append-drop i vs) ∙ ap (λ (ws : List Value). take i vs ++ ws) (drop-cons vs i v h ∙ (let after : suc i ≡ i + 1 = omega arith in λ j. sym is j ∷ drop (after j) vs)) in
    record {
      before = map view (take i vs);
      value = view v;
      behind = map view (drop (i + 1) vs);
      parts = ap (map view) split ∙ map-append view (take i vs) (v ∷ drop (i + 1) vs);
      at = sym (firsts_length vs i (omega (arith, h)));
      edits = made.edits;
      good = made.are;
      bad = bad;
    }

all_values : (vs : List Value) (i : ℕ) → length vs ≤ i → take i vs ≡ vs
all_values vs i h = take_all i vs h

pub all_within : (start epoch : ℕ) (ds : List Data) (w : SegmentWriter) → start ≤ max_number → IsMadeSoFar start epoch ds w → w.first + length w.waiting ≤ max_number + 1
all_within start epoch ds w small made = omega (arith, next_txid start epoch ds w made, as_many start made.edits ds made.are, entries_within start made.edits ds (omega (arith, small)) made.are)

pub all_made : (start epoch : ℕ) (vs : List Value) (i : ℕ) (w : SegmentWriter) (bytes : List ℕ) → length vs ≤ i → IsMadeSoFar start epoch (map view (take i vs)) w
    → ((s p : ℕ) (bodies : List (List ℕ)) → IsWritten s p bodies w → bytes ≡ segment_bytes s p bodies) → IsSegmentOf start epoch (map view vs) bytes
all_made start epoch vs i w bytes h made finish = record {
  edits = made.edits;
  are = subst (λ (ws : List Value). AreEntries start made.edits (map view ws)) (all_values vs i h) made.are;
  spelled = finish start epoch (map record_of made.edits) made.written;
}
