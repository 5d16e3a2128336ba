-- The listing of a segment's edits is read as their objects, and becomes a segment of them.
use Rattle.std.proofs.Common.{◌≡◌, ℕ, ◌+◌, ◌≤◌, false, List, [], ◌∷◌, ◌++◌, length, map, Option, Some, refl, sym, ap, subst, ◌∙◌, arith, length-append, inl, inr, ◌⊎◌}
use Rattle.std.specs.Prelude.{option_map, option_and_then}
use Rattle.std.specs.List.{flat_map, list_any}
use Rattle.std.proofs.lemmas.Bool.{or_parts, or_from, ltb-false}
use Rattle.json.specs.Tree.{items_depth, ItemsHaveNumbers}
use Rattle.list_text.specs.Values.{items_of, array_of}
use Rattle.serde_json.specs.Data.{Data, Items, no_items, item, array}
use Rattle.serde_json.specs.Read as reading
use Rattle.serde_json.specs.Read.{read, of_json, max_depth}
use Rattle.serde_json.specs.View as views
use Rattle.list_back.specs.Texts.{ItemsHaveTexts}
use Rattle.list_back.proofs.Lines.{line_reads, line_text}
use Rattle.journal_core.specs.Views.{BatchView}
use Rattle.journal_core.specs.Limits.{max_number, max_body, max_segment}
use Rattle.disk_frame.specs.Frames.{is_bad_body, AreInOrder}
use Rattle.disk_frame.specs.Segments.{IsSegmentFile}
use Rattle.disk_frame.proofs.RuleLaws.{rules_kept, next_within}
use Rattle.edit_ops.specs.Records.{EditView, record_of}
use Rattle.list_oev.specs.Entries.{entries, entry_lines}
use Rattle.list_oev.specs.Segment.{AreRecords, IsSegment}
use Rattle.list_oev.specs.declared.segment_listing.SegmentListing.{SegmentListing as Listed}
use Rattle.list_oev.specs.Listed.{IsListed, GivesText}
use Rattle.list_oev.proofs.OneAnswer.{gives_text}
use Rattle.list_back.specs.Objects.{IsObject}
use Rattle.list_back.proofs.Sound.{entry_reads, entry_numbers, entry_texts, entry_depth}
use Rattle.list_back.proofs.Entries.{object_of_edit}
use Rattle.list_back.specs.declared.answer.Back.{Back}
use Rattle.list_back.specs.declared.answer.Back.TheVariants.{NotJson, TooLong, BadEntry, Segment, OutOfMemory}
use Rattle.list_back.specs.Pieces.{segment_bytes}
use Rattle.list_back.specs.Entries.{AreEntries}
use Rattle.list_back.specs.Backs.{IsArray, IsBack, IsSegmentUnder, GivesSegment}
use Rattle.list_back.proofs.Written.{AreGood, segment_whole}
use Rattle.list_back.proofs.Made.{as_many, records_length, records_good, entries_within, same_entries, none_bad}

-- ## The bodies of a segment are short enough, and its txids are at most 2^62

goods_append : (xs ys : List (List ℕ)) → AreGood xs → AreGood ys → AreGood (xs ++ ys)
goods_append [] ys h k = k
goods_append (x ∷ xs) ys h k =
    let p = or_parts (is_bad_body x) (list_any is_bad_body xs) h in
    or_from (is_bad_body x) (list_any is_bad_body (xs ++ ys)) p.0 (goods_append xs ys p.1 k)

record InOrder (next : ℕ) (bodies : List (List ℕ)) : Type 0 where
  good : AreGood bodies
  within : next + length bodies ≤ max_number + 1

in_order : (bs : List BatchView) (next : ℕ) → next ≤ max_number + 1 → AreInOrder next bs → InOrder next (flat_map (λ b. b.bodies) bs)
in_order [] next small are = record { good = refl; within = omega (arith, small) }
in_order (b ∷ bs) next small are =
    let k = rules_kept next b are.0 in
    let rest = in_order bs (next + length b.bodies) (omega (arith, next_within next b are.0)) are.1 in
    record {
      good = goods_append b.bodies (flat_map (λ c. c.bodies) bs) k.bodies rest.good;
      within = omega (arith, rest.within, length-append b.bodies (flat_map (λ c. c.bodies) bs));
    }

segment_in_order : (bytes : List ℕ) (start epoch : ℕ) (bodies : List (List ℕ)) (whole_length : ℕ) → IsSegmentFile bytes start epoch bodies whole_length → InOrder start bodies
segment_in_order bytes start epoch bodies whole_length file =
    let frames = file.frames.frames in
    let small : start ≤ max_number = file.header.start_within in
    subst (λ (x : List (List ℕ)). InOrder start x) (sym frames.bodies_are) (in_order frames.batches start (omega (arith, small)) frames.in_order)

-- ## The objects of edits

abbrev pub objects : ℕ → List EditView → List Data
objects txid [] = []
objects txid (e ∷ es) = object_of_edit txid e ∷ objects (txid + 1) es

short_body : (body : List ℕ) (e : EditView) → is_bad_body body ≡ false → body ≡ record_of e → length (record_of e) ≤ max_body
short_body body e good is = let long : length body ≡ length (record_of e) = ap length is in omega (arith, long, ltb-false max_body (length body) (or_parts _ _ good).1)

objects_are : (txid : ℕ) (bodies : List (List ℕ)) (es : List EditView) → AreRecords bodies es → InOrder txid bodies → AreEntries txid es (objects txid es)
objects_are txid bodies [] are h = tt
objects_are txid [] (e ∷ es) are h = absurd are
objects_are txid (body ∷ bodies) (e ∷ es) are h =
    let good = or_parts (is_bad_body body) (list_any is_bad_body bodies) h.good in
    let small : txid ≤ max_number = omega (arith, h.within) in
    let object : IsObject txid e (object_of_edit txid e) = record { edit = are.0.edit; read = entry_reads txid e are.0.edit (omega (arith, small)) } in (
      record { object = object; small = short_body body e good.0 are.0.spelled; within = small },
      objects_are (txid + 1) bodies es are.1 (record { good = good.1; within = omega (arith, h.within) }),
    )

-- ## The listing is read as those

listing_reads : (txid : ℕ) (es : List EditView) (ds : List Data) → AreEntries txid es ds → reading.of_items (items_of (entries txid es)) ≡ Some (views.items_of ds)
listing_reads txid [] [] are = refl
listing_reads txid [] (d ∷ ds) are = absurd are
listing_reads txid (e ∷ es) [] are = absurd are
listing_reads txid (e ∷ es) (d ∷ ds) are =
    ap (λ (o : Option Data). option_and_then (λ x. option_map (item x) (reading.of_items (items_of (entries (txid + 1) es)))) o) are.0.object.read
    ∙ ap (λ (o : Option Items). option_map (item d) o) (listing_reads (txid + 1) es ds are.1)

listing_numbers : (txid : ℕ) (es : List EditView) (ds : List Data) → AreEntries txid es ds → ItemsHaveNumbers (items_of (entries txid es))
listing_numbers txid [] ds are = tt
listing_numbers txid (e ∷ es) [] are = absurd are
listing_numbers txid (e ∷ es) (d ∷ ds) are = (entry_numbers txid e are.0.object.edit (omega (arith, are.0.within)), listing_numbers (txid + 1) es ds are.1)

listing_texts : (txid : ℕ) (es : List EditView) (ds : List Data) → AreEntries txid es ds → ItemsHaveTexts (items_of (entries txid es))
listing_texts txid [] ds are = tt
listing_texts txid (e ∷ es) [] are = absurd are
listing_texts txid (e ∷ es) (d ∷ ds) are = (entry_texts txid e are.0.object.edit (omega (arith, are.0.within)), listing_texts (txid + 1) es ds are.1)

listing_depth : (txid : ℕ) (es : List EditView) (ds : List Data) → AreEntries txid es ds → items_depth (items_of (entries txid es)) ≤ 2
listing_depth txid [] ds are = omega arith
listing_depth txid (e ∷ es) [] are = absurd are
listing_depth txid (e ∷ es) (d ∷ ds) are = omega (arith, entry_depth txid e are.0.object.edit (omega (arith, are.0.within)), listing_depth (txid + 1) es ds are.1)

pub listing_array : (txid : ℕ) (es : List EditView) (ds : List Data) → AreEntries txid es ds → IsArray (entry_lines txid es) ds
listing_array txid es ds are = record {
  utf8 = line_text (array_of (entries txid es)) (listing_texts txid es ds are);
  value = line_reads (array_of (entries txid es)) (array (views.items_of ds)) (listing_numbers txid es ds are) (omega (arith, listing_depth txid es ds are))
      (ap (λ (o : Option Items). option_map array o) (listing_reads txid es ds are));
}

pub segment_entries : (segment : List ℕ) (start : ℕ) (edits : List EditView) → IsSegment segment start edits → AreEntries start edits (objects start edits)
segment_entries segment start edits s = objects_are start s.bodies edits s.are (segment_in_order segment start s.epoch s.bodies s.whole_length s.file)

-- ## A listing becomes a segment of its edits

first_of : Items → Data → Data
first_of no_items d = d
first_of (item x ds) d = x

rest_of : Items → Items
rest_of no_items = no_items
rest_of (item x ds) = ds

same_items : (xs ys : List Data) → views.items_of xs ≡ views.items_of ys → xs ≡ ys
same_items [] [] e = refl
same_items [] (y ∷ ys) e = absurd cc
same_items (x ∷ xs) [] e = absurd cc
same_items (x ∷ xs) (y ∷ ys) e =
    let head : x ≡ y = cc in
    let tail : views.items_of xs ≡ views.items_of ys = cc in
    let rest = same_items xs ys tail in
    λ i. head i ∷ rest i

pub one_array : (bytes : List ℕ) (xs ys : List Data) → IsArray bytes xs → IsArray bytes ys → xs ≡ ys
one_array bytes xs ys a b =
    let some : Some (array (views.items_of xs)) ≡ Some (array (views.items_of ys)) = sym a.value ∙ b.value in
    let same : views.items_of xs ≡ views.items_of ys = cc in
    same_items xs ys same

records_are : (start : ℕ) (es : List EditView) (ds : List Data) → AreEntries start es ds → AreRecords (map record_of es) es
records_are start [] ds are = tt
records_are start (e ∷ es) [] are = absurd are
records_are start (e ∷ es) (d ∷ ds) are = (record { edit = are.0.object.edit; spelled = refl }, records_are (start + 1) es ds are.1)

pub made_segment : (start epoch : ℕ) (edits : List EditView) (ds : List Data) (bytes : List ℕ) → 1 ≤ start → start ≤ max_number → 1 ≤ epoch
    → epoch ≤ max_number → AreEntries start edits ds → bytes ≡ segment_bytes start epoch (map record_of edits)
    → IsSegmentUnder epoch bytes start edits
made_segment start epoch edits ds bytes some_start start_within some_epoch epoch_within are spelled =
    let bodies = map record_of edits in
    let within : start + length (map record_of edits) ≤ max_number + 1 = omega (arith, records_length edits, entries_within start edits ds (omega (arith, start_within)) are) in
    let whole = segment_whole start epoch (map record_of edits) some_start start_within some_epoch epoch_within (records_good start edits ds are) within in
    subst (λ (x : List ℕ). IsSegmentUnder epoch x start edits) (sym spelled)
    (record {
      bodies = map record_of edits;
      whole_length = length (segment_bytes start epoch (map record_of edits));
      file = whole;
      are = records_are start edits ds are;
    })

pub gives_segment : (bytes : List ℕ) (start epoch : ℕ) (edits : List EditView) (ds : List Data) (back : Back) → 1 ≤ start → start ≤ max_number → 1 ≤ epoch → epoch ≤ max_number
    → IsArray bytes ds → AreEntries start edits ds → length edits ≤ max_segment → IsBack bytes start epoch back → GivesSegment start epoch edits back
gives_segment bytes start epoch edits ds NotJson some_start start_within some_epoch epoch_within a are few is = is ds a
gives_segment bytes start epoch edits ds (TooLong number) some_start start_within some_epoch epoch_within a are few is =
    let same = one_array bytes ds is.0 a is.1 in
    let count : length ds ≡ length is.0 = ap length same in
    absurd (omega (arith, count, as_many start edits ds are, few, is.3))
gives_segment bytes start epoch edits ds (BadEntry index) some_start start_within some_epoch epoch_within a are few is =
    none_bad start edits is.0 index (subst (λ (x : List Data). AreEntries start edits x) (one_array bytes ds is.0 a is.1) are) is.3
gives_segment bytes start epoch edits ds (Segment v) some_start start_within some_epoch epoch_within a are few is =
    let here : AreEntries start edits is.0 = subst (λ (x : List Data). AreEntries start edits x) (one_array bytes ds is.0 a is.1) are in
    let same : is.3.edits ≡ edits = same_entries start is.3.edits edits is.0 is.3.are here in
    made_segment start epoch edits is.0 v.items some_start start_within some_epoch epoch_within here (is.3.spelled ∙ ap (λ (es : List EditView). segment_bytes start epoch (map record_of es)) same)
gives_segment bytes start epoch edits ds OutOfMemory some_start start_within some_epoch epoch_within a are few is = tt

-- of the listing of any segment
pub listing_gives : (bytes segment : List ℕ) (start epoch : ℕ) (edits : List EditView) (back : Back) → 1 ≤ start → start ≤ max_number → 1 ≤ epoch → epoch ≤ max_number → IsBack bytes start epoch back
    → IsSegment segment start edits → length edits ≤ max_segment → bytes ≡ entry_lines start edits → GivesSegment start epoch edits back
listing_gives bytes segment start epoch edits back some_start start_within some_epoch epoch_within is s few spelled =
    let are = segment_entries segment start edits s in
    let a : IsArray bytes (objects start edits) = subst (λ (x : List ℕ). IsArray x (objects start edits)) (sym spelled) (listing_array start edits (objects start edits) are) in
    gives_segment bytes start epoch edits (objects start edits) back some_start start_within some_epoch epoch_within a are few is

-- ## Its listing is that text again

pub under_is : (epoch : ℕ) (segment : List ℕ) (start : ℕ) (edits : List EditView) → IsSegmentUnder epoch segment start edits → IsSegment segment start edits
under_is epoch segment start edits s = record { epoch = epoch; bodies = s.bodies; whole_length = s.whole_length; file = s.file; are = s.are }

pub text_again : (epoch : ℕ) (segment : List ℕ) (start : ℕ) (edits : List EditView) (listed : Listed) → IsSegmentUnder epoch segment start edits
    → IsListed entry_lines segment listed → GivesText (entry_lines start edits) listed
text_again epoch segment start edits listed s is = gives_text entry_lines segment listed is start edits (under_is epoch segment start edits s)

-- it is no other answer
pub no_other : (start epoch : ℕ) (edits : List EditView) (r : Back) → GivesSegment start epoch edits r
    → (r ≡ NotJson) ⊎ (((number : ℕ) × (r ≡ TooLong number)) ⊎ ((index : ℕ) × (r ≡ BadEntry index))) → ⊥
no_other start epoch edits NotJson g is = g
no_other start epoch edits (TooLong n) g is = g
no_other start epoch edits (BadEntry i) g is = g
no_other start epoch edits (Segment v) g (inl e) = cc
no_other start epoch edits (Segment v) g (inr (inl e)) = let is = e.1 in cc
no_other start epoch edits (Segment v) g (inr (inr e)) = let is = e.1 in cc
no_other start epoch edits OutOfMemory g (inl e) = cc
no_other start epoch edits OutOfMemory g (inr (inl e)) = let is = e.1 in cc
no_other start epoch edits OutOfMemory g (inr (inr e)) = let is = e.1 in cc
