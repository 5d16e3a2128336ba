-- What the readers of entries and frames find.
use Rattle.std.proofs.Common.{◌≡◌, ◌≢◌, ℕ, append_assoc, zero, suc, ◌+◌, ◌-◌, ◌*◌, ◌^◌, ◌<◌, ◌≤◌, Bool, true, false, cond, ◌||◌, ltb, leb, List, []}
use Rattle.std.proofs.Common.{◌∷◌, ◌++◌, length, get_or, take, drop, Option, Some, None, Result, Ok, Err, refl, sym, ap, subst, ◌∙◌, arith}
use Rattle.std.specs.Option.{option_map, option_and_then}
use Rattle.std.specs.Prelude.{unwrap_or}
use Rattle.std.specs.List.{flat_map, list_any}
use Rattle.std.specs.Int.{Width, w16, w32, w64, byte_len, from_be_bytes, to_be_bytes}
use Rattle.std.proofs.lemmas.Bool.{ltb-false, le-ltb, lt-ltb, leb-true, leb-false, cond-false, cond-true, or_parts}
use Rattle.std.proofs.lemmas.Option.{same_Some, none-some, option_and_then_some}
use Rattle.std.proofs.lemmas.List.{take_at, drop-drop, drop-take, take-take, drop_all, nil_from_length, length-append, length-take, length-drop}
use Rattle.base_words.proofs.Lists.{one_left}
use Rattle.base_words.specs.Fields.{number_at, IsBytes}
use Rattle.journal_core.specs.Views.{BatchView}
use Rattle.disk_frame.specs.declared.frame_cause.FrameCause.{FrameCause}
use Rattle.disk_frame.specs.declared.frame_cause.FrameCause.TheVariants.{Length}
use Rattle.disk_frame.specs.Frames.{entry_bytes, head_bytes, inner_bytes, frame_bytes, is_bad_body, broken_rule, IsTail}
use Rattle.disk_frame.specs.Faults.{HasSeal, told_length, Spells, IsBadFrame}
use Rattle.disk_frame.specs.Reading.{entry_at, entries_in, batch_in, first_rule, count_unless, judged}
use Rattle.disk_frame.specs.Answers.{IsWholeFrame}
use Rattle.journal_core.specs.Limits.{max_body}
use Rattle.disk_frame.specs.Segments.{header_bytes, HasHeader}
use Rattle.disk_frame.proofs.SegmentLaws.{start_told, epoch_told}
use Rattle.disk_frame.specs.Entries.{EntriesView, bodies_in, AreEntries}
use Rattle.disk_frame.proofs.EntryLaws.{none_or, entry_by, entries_again}
use Rattle.disk_frame.proofs.SpellLaws.{length-frame_bytes, spells_from, spelled_tells, one_spelling}
use Rattle.disk_frame.proofs.RuleLaws.{rules_kept, next_within}
use Rattle.disk_frame.proofs.FaultLaws.{breaks_rule, unfilled}

-- ---- numbers that are got

none_got : {A : Type 0} (b : Bool) (x : A) → None ≡ cond b (Some x) None → b ≡ false
none_got true x e = absurd cc
none_got false x e = refl

some_got : {A : Type 0} (b : Bool) (x y : A) → Some y ≡ cond b (Some x) None → (b ≡ true) × (y ≡ x)
some_got true x y e = (refl, same_Some y x e)
some_got false x y e = absurd cc

pub number_none : (w : Width) (bytes : List ℕ) (at : ℕ) → None ≡ number_at w bytes at → length bytes < at + byte_len w
number_none w bytes at e = leb-false _ _ (none_got (leb (at + byte_len w) (length bytes)) (from_be_bytes w (take (byte_len w) (drop at bytes))) e)

pub number_some : (w : Width) (bytes : List ℕ) (at n : ℕ) → Some n ≡ number_at w bytes at → (at + byte_len w ≤ length bytes) × (n ≡ from_be_bytes w (take (byte_len w) (drop at bytes)))
number_some w bytes at n e =
    let g = some_got (leb (at + byte_len w) (length bytes)) (from_be_bytes w (take (byte_len w) (drop at bytes))) n e in
    (leb-true _ _ g.0, g.1)

-- ---- one entry

pub entry_none : (bytes : List ℕ) → length bytes < 2 + from_be_bytes w16 (take 2 bytes) → entry_at bytes ≡ None
unfolding entry_at
entry_none bytes lt = cond-true (ltb (length bytes) (2 + from_be_bytes w16 (take 2 bytes))) None
    (Some (take (from_be_bytes w16 (take 2 bytes)) (drop 2 bytes), drop (2 + from_be_bytes w16 (take 2 bytes)) bytes)) (lt-ltb _ _ lt)

pub split_short : (bytes : List ℕ) → None ≡ number_at w16 bytes 0 → None ≡ entry_at bytes
split_short bytes e = let short = number_none w16 bytes 0 e in sym (entry_none bytes (omega (arith, short)))

pub split_cut : (bytes rest : List ℕ) (n : ℕ) → Some n ≡ number_at w16 bytes 0 → rest ≡ drop 2 bytes → length rest < n → None ≡ entry_at bytes
split_cut bytes rest n e is lt =
    let told = number_some w16 bytes 0 n e in
    sym (entry_none bytes (omega (arith, told.0, told.1, ap length is, length-drop 2 bytes, lt)))

pub split_whole : (bytes rest body behind : List ℕ) (n : ℕ) → Some n ≡ number_at w16 bytes 0 → rest ≡ drop 2 bytes → n ≤ length rest
    → body ≡ take n rest → behind ≡ drop n rest → Some (body, behind) ≡ entry_at bytes
split_whole bytes rest body behind n e is le body_is behind_is =
    let told = number_some w16 bytes 0 n e in
    let body_same : body ≡ take n (drop 2 bytes) = body_is ∙ ap (take n) is in
    let after_same : behind ≡ drop (2 + n) bytes = behind_is ∙ ap (drop n) is ∙ drop-drop n 2 bytes in
    (λ i. Some (body_same i, after_same i)) ∙ sym (entry_by bytes n (sym told.1) (omega (arith, told.0, ap length is, length-drop 2 bytes, le)))

-- ---- entries, whether one is bad

pub seen_bad : Bool → Option (List (List ℕ)) → Option Bool
seen_bad found entries = option_map (λ (bodies : List (List ℕ)). found || list_any is_bad_body bodies) entries

or_assoc : (x y z : Bool) → x || (y || z) ≡ (x || y) || z
or_assoc true y z = refl
or_assoc false y z = refl

one_entry_in : (count : ℕ) (bytes : List ℕ) (body behind : List ℕ) → Some (body, behind) ≡ entry_at bytes
    → entries_in (suc count) bytes ≡ option_map (λ (bodies : List (List ℕ)). body ∷ bodies) (entries_in count behind)
one_entry_in count bytes body behind e = ap (option_and_then (λ (entry : List ℕ × List ℕ). option_map (λ (bodies : List (List ℕ)). entry.0 ∷ bodies) (entries_in count entry.1))) (sym e)

no_entry_in : (count : ℕ) (bytes : List ℕ) → None ≡ entry_at bytes → entries_in (suc count) bytes ≡ None
no_entry_in count bytes e = ap (option_and_then (λ (entry : List ℕ × List ℕ). option_map (λ (bodies : List (List ℕ)). entry.0 ∷ bodies) (entries_in count entry.1))) (sym e)

seen_more : (found now : Bool) (body : List ℕ) (entries : Option (List (List ℕ))) → now ≡ (found || is_bad_body body)
    → seen_bad found (option_map (λ (bodies : List (List ℕ)). body ∷ bodies) entries) ≡ seen_bad now entries
unfolding seen_bad
seen_more found now body None is = refl
seen_more found now body (Some bodies) is = ap (λ (b : Bool). Some b) (or_assoc found (is_bad_body body) (list_any is_bad_body bodies) ∙ ap (λ (b : Bool). b || list_any is_bad_body bodies) (sym is))

pub bad_more : (found now : Bool) (count i : ℕ) (rest body behind : List ℕ) (total : Option Bool) → i < count → Some (body, behind) ≡ entry_at rest → now ≡ (found || is_bad_body body)
    → seen_bad found (entries_in (count - i) rest) ≡ total → seen_bad now (entries_in (count - (i + 1)) behind) ≡ total
bad_more found now count i rest body behind total lt e is so_far =
    let one : entries_in (count - i) rest ≡ option_map (λ (bodies : List (List ℕ)). body ∷ bodies) (entries_in (count - (i + 1)) behind) =
    ap (λ (n : ℕ). entries_in n rest) (one_left lt) ∙ one_entry_in (count - (i + 1)) rest body behind e in
    sym (seen_more found now body (entries_in (count - (i + 1)) behind) is) ∙ ap (seen_bad found) (sym one) ∙ so_far

pub bad_stops : (found : Bool) (count i : ℕ) (rest : List ℕ) (total : Option Bool) → i < count → None ≡ entry_at rest → seen_bad found (entries_in (count - i) rest) ≡ total → None ≡ total
unfolding seen_bad
bad_stops found count i rest total lt e so_far =
    let one : entries_in (count - i) rest ≡ None = ap (λ (n : ℕ). entries_in n rest) (one_left lt) ∙ no_entry_in (count - (i + 1)) rest e in
    ap (seen_bad found) (sym one) ∙ so_far

or_false : (x : Bool) → (x || false) ≡ x
or_false true = refl
or_false false = refl

pub bad_left : (found : Bool) (n : ℕ) (rest : List ℕ) (total : Option Bool) → n ≡ 0 → 0 < length rest → seen_bad found (entries_in n rest) ≡ total → None ≡ total
unfolding seen_bad
bad_left found n [] total is some so_far = absurd (omega (arith, some))
bad_left found n (byte ∷ rest) total is some so_far = ap (λ (m : ℕ). seen_bad found (entries_in m (byte ∷ rest))) (sym is) ∙ so_far

pub bad_ends : (found : Bool) (n : ℕ) (rest : List ℕ) (total : Option Bool) → n ≡ 0 → length rest ≡ 0 → seen_bad found (entries_in n rest) ≡ total → Some found ≡ total
unfolding seen_bad
bad_ends found n [] total is none so_far = ap (λ (b : Bool). Some b) (sym (or_false found)) ∙ ap (λ (m : ℕ). seen_bad found (entries_in m [])) (sym is) ∙ so_far
bad_ends found n (byte ∷ rest) total is none so_far = absurd (omega (arith, none))

pub bad_starts : (n count : ℕ) (bytes : List ℕ) → n ≡ count → seen_bad false (entries_in n bytes) ≡ option_map (list_any is_bad_body) (entries_in count bytes)
unfolding seen_bad
bad_starts n count bytes is = ap (λ (m : ℕ). option_map (list_any is_bad_body) (entries_in m bytes)) is

-- ---- what stands after a length

pub inner_none : (inner : List ℕ) → length inner < 12 → batch_in inner ≡ None
unfolding batch_in
inner_none inner lt = cond-true (ltb (length inner) 12) None (option_map
    (λ (bodies : List (List ℕ)). record { first = from_be_bytes w64 (take 8 inner); bodies = bodies })
    (entries_in (from_be_bytes w32 (take 4 (drop 8 inner))) (drop 12 inner))) (lt-ltb _ _ lt)

pub inner_some : (inner entries : List ℕ) (first count : ℕ) → Some first ≡ number_at w64 inner 0 → Some count ≡ number_at w32 inner 8 → entries ≡ drop 12 inner
    → batch_in inner ≡ option_map (λ (bodies : List (List ℕ)). record { first = first; bodies = bodies }) (entries_in count entries)
unfolding batch_in
inner_some inner entries first count e f is =
    let one = number_some w64 inner 0 first e in
    let two = number_some w32 inner 8 count f in
    cond-false (ltb (length inner) 12) None (option_map (λ (bodies : List (List ℕ)).
    record { first = from_be_bytes w64 (take 8 inner); bodies = bodies })
    (entries_in (from_be_bytes w32 (take 4 (drop 8 inner))) (drop 12 inner))) (le-ltb _ _ (omega (arith, two.0)))
    ∙ (λ i. option_map (λ (bodies : List (List ℕ)). record { first = sym one.1 i; bodies = bodies }) (entries_in (sym two.1 i) (sym is i)))

count_rest : (count : ℕ) (body : List ℕ) (rest : Option (List (List ℕ))) (bodies : List (List ℕ)) → ((others : List (List ℕ)) → rest ≡ Some others → length others ≡ count)
    → option_map (λ (others : List (List ℕ)). body ∷ others) rest ≡ Some bodies → length bodies ≡ suc count
count_rest count body None bodies again h = absurd cc
count_rest count body (Some others) bodies again h = ap length (sym (same_Some (body ∷ others) bodies h)) ∙ ap suc (again others refl)

entries_count : (count : ℕ) (bytes : List ℕ) (bodies : List (List ℕ)) → entries_in count bytes ≡ Some bodies → length bodies ≡ count
entries_count zero [] bodies e = ap length (sym (same_Some [] bodies e))
entries_count zero (byte ∷ bytes) bodies e = absurd cc
entries_count (suc count) bytes bodies e =
    option_and_then_some (λ (entry : List ℕ × List ℕ). option_map (λ (others : List (List ℕ)). entry.0 ∷ others) (entries_in count entry.1)) (entry_at bytes) bodies e
    (λ entry is goes. count_rest count entry.0 (entries_in count entry.1) bodies (λ others h. entries_count count entry.1 others h) goes)

judged_by : (next first count : ℕ) (has_bad_body : Bool) (bytes : List ℕ) (o : Option (List (List ℕ))) → entries_in count bytes ≡ o → Some has_bad_body ≡ option_map (list_any is_bad_body) o
    → judged next (option_map (λ (bodies : List (List ℕ)). record { first = first; bodies = bodies }) o) ≡ count_unless (first_rule next first count has_bad_body) count
unfolding broken_rule
judged_by next first count has_bad_body bytes None is e = absurd cc
judged_by next first count has_bad_body bytes (Some bodies) is e =
    let bad : has_bad_body ≡ list_any is_bad_body bodies = same_Some has_bad_body (list_any is_bad_body bodies) e in
    let len : length bodies ≡ count = entries_count count bytes bodies is in
    λ i. count_unless (first_rule next first (len i) (sym bad i)) (len i)

pub entries_err : (next first count : ℕ) (has_bad_body : Bool) (cause : FrameCause) (bytes : List ℕ)
    → Some has_bad_body ≡ option_map (list_any is_bad_body) (entries_in count bytes) → Some cause ≡ first_rule next first count has_bad_body
    → Err cause ≡ judged next (option_map (λ (bodies : List (List ℕ)). record { first = first; bodies = bodies }) (entries_in count bytes))
entries_err next first count has_bad_body cause bytes e rule =
    ap (λ (r : Option FrameCause). count_unless r count) rule ∙ sym (judged_by next first count has_bad_body bytes (entries_in count bytes) refl e)

pub entries_ok : (next first count : ℕ) (has_bad_body : Bool) (bytes : List ℕ)
    → Some has_bad_body ≡ option_map (list_any is_bad_body) (entries_in count bytes) → None ≡ first_rule next first count has_bad_body
    → Ok count ≡ judged next (option_map (λ (bodies : List (List ℕ)). record { first = first; bodies = bodies }) (entries_in count bytes))
entries_ok next first count has_bad_body bytes e rule =
    ap (λ (r : Option FrameCause). count_unless r count) rule ∙ sym (judged_by next first count has_bad_body bytes (entries_in count bytes) refl e)

unfilled_by : (o : Option (List (List ℕ))) → None ≡ option_map (list_any is_bad_body) o → o ≡ None
unfilled_by None e = refl
unfilled_by (Some bodies) e = absurd cc

pub entries_unfilled : (next first count : ℕ) (bytes : List ℕ) → None ≡ option_map (list_any is_bad_body) (entries_in count bytes)
    → Err Length ≡ judged next (option_map (λ (bodies : List (List ℕ)). record { first = first; bodies = bodies }) (entries_in count bytes))
entries_unfilled next first count bytes none =
    ap (λ (o : Option (List (List ℕ))). judged next (option_map (λ (bodies : List (List ℕ)). record { first = first; bodies = bodies }) o)) (sym (unfilled_by (entries_in count bytes) none))

pub judged_inner : (next first count : ℕ) (inner entries : List ℕ) (result : Result ℕ FrameCause)
    → (Some first ≡ number_at w64 inner 0) × (Some count ≡ number_at w32 inner 8) × (entries ≡ drop 12 inner)
    → result ≡ judged next (option_map (λ (bodies : List (List ℕ)). record { first = first; bodies = bodies }) (entries_in count entries)) → result ≡ judged next (batch_in inner)
judged_inner next first count inner entries result fields e = e ∙ ap (judged next) (sym (inner_some inner entries first count fields.0 fields.1 fields.2))

pub judged_short : (next : ℕ) (inner : List ℕ) → length inner < 12 → Err Length ≡ judged next (batch_in inner)
judged_short next inner lt = sym (ap (judged next) (inner_none inner lt))

-- ---- a frame after its seal

ok_by : (rule : Option FrameCause) (count n : ℕ) → count_unless rule n ≡ Ok count → (rule ≡ None) × (count ≡ n)
ok_by None count n e = (refl, sym (ok_same n count e))
  where
    ok_same : (x y : ℕ) → ◌≡◌ {A = Result ℕ FrameCause} (Ok x) (Ok y) → x ≡ y
    ok_same x y h = cc
ok_by (Some cause) count n e = absurd cc

err_by : (rule : Option FrameCause) (cause : FrameCause) (n : ℕ) → count_unless rule n ≡ Err cause → rule ≡ Some cause
err_by None cause n e = absurd cc
err_by (Some found) cause n e = ap (λ (c : FrameCause). Some c) (err_same found cause e)
  where
    err_same : (x y : FrameCause) → ◌≡◌ {A = Result ℕ FrameCause} (Err x) (Err y) → x ≡ y
    err_same x y h = cc

err_length : (cause : FrameCause) → ◌≡◌ {A = Result ℕ FrameCause} (Err Length) (Err cause) → Length ≡ cause
err_length cause h = cc

whole_by : (next : ℕ) (bytes : List ℕ) (o : Option BatchView) (count size : ℕ) → IsBytes bytes → HasSeal bytes → 5 + told_length bytes ≤ length bytes
    → batch_in (take (told_length bytes) (drop 5 bytes)) ≡ o
    → judged next o ≡ Ok count → size ≡ 5 + told_length bytes → IsWholeFrame next bytes count size
whole_by next bytes None count size fits has there is e size_is = absurd cc
whole_by next bytes (Some b) count size fits has there is e size_is =
    let spells = spells_from bytes b fits has there is in
    let r = ok_by (broken_rule next b) count (length b.bodies) e in
    let told = (spelled_tells bytes b spells).told in
    record {
      batch = b;
      spells = spells;
      good = r.0;
      count_is = r.1;
      size_is = omega (arith, size_is, told, length-frame_bytes b);
    }

pub whole_from : (next : ℕ) (bytes inner : List ℕ) (count size : ℕ) → IsBytes bytes → HasSeal bytes → 5 + told_length bytes ≤ length bytes → inner ≡ take (told_length bytes) (drop 5 bytes)
    → Ok count ≡ judged next (batch_in inner) → size ≡ 5 + length inner → IsWholeFrame next bytes count size
whole_from next bytes inner count size fits has there inner_is e size_is =
    whole_by next bytes (batch_in (take (told_length bytes) (drop 5 bytes))) count size fits has there refl (ap (λ (x : List ℕ). judged next (batch_in x)) (sym inner_is) ∙ sym e)
    (omega (arith, size_is, ap length inner_is, length-take (told_length bytes) (drop 5 bytes), length-drop 5 bytes, there))

bad_by : (next : ℕ) (bytes : List ℕ) (o : Option BatchView) (cause : FrameCause) → IsBytes bytes → HasSeal bytes
    → 5 + told_length bytes ≤ length bytes → batch_in (take (told_length bytes) (drop 5 bytes)) ≡ o
    → judged next o ≡ Err cause → IsBadFrame next bytes cause
bad_by next bytes None cause fits has there is e = subst (IsBadFrame next bytes) (err_length cause e) (unfilled bytes has there is)
bad_by next bytes (Some b) cause fits has there is e = breaks_rule next bytes cause b (spells_from bytes b fits has there is) (err_by (broken_rule next b) cause (length b.bodies) e)

pub bad_from : (next : ℕ) (bytes inner : List ℕ) (cause : FrameCause) → IsBytes bytes → HasSeal bytes → 5 + told_length bytes ≤ length bytes → inner ≡ take (told_length bytes) (drop 5 bytes)
    → Err cause ≡ judged next (batch_in inner) → IsBadFrame next bytes cause
bad_from next bytes inner cause fits has there inner_is e =
    bad_by next bytes (batch_in (take (told_length bytes) (drop 5 bytes))) cause fits has there refl (ap (λ (x : List ℕ). judged next (batch_in x)) (sym inner_is) ∙ sym e)

pub tail_by : (bytes : List ℕ) → (get_or bytes 0 0 ≡ 165 → ⊥) → IsTail bytes
tail_by [] ne = tt
tail_by (byte ∷ bytes) ne = ne

pub seal_by : (bytes : List ℕ) → get_or bytes 0 0 ≡ 165 → HasSeal bytes
seal_by [] is = omega (arith, is)
seal_by (byte ∷ bytes) is = is

pub tail_past : (bytes : List ℕ) (at : ℕ) → length bytes ≤ at → IsTail (drop at bytes)
tail_past bytes at le = subst IsTail (sym (drop_all at bytes le)) tt

-- ---- the entries of a whole frame

pub record Placed (bytes : List ℕ) (at first count size : ℕ) (b : BatchView) : Type 0 where
  pub head : 17 ≤ size
  pub there : at + size ≤ length bytes
  pub first_is : b.first ≡ first
  pub entries : entries_in count (take (size - 17) (drop (at + 17) bytes)) ≡ Some b.bodies
  pub good : list_any is_bad_body b.bodies ≡ false
  pub room : first + count ≤ 4611686018427387905

entries_start : (b : BatchView) (rest : List ℕ) → drop 17 (frame_bytes b ++ rest) ≡ flat_map entry_bytes b.bodies ++ rest
unfolding frame_bytes
entries_start b rest = refl

entries_size : (b : BatchView) → length (frame_bytes b) ≡ 17 + length (flat_map entry_bytes b.bodies)
unfolding frame_bytes
entries_size b = omega arith

pub placed : (bytes : List ℕ) (at first count size : ℕ) (w : IsWholeFrame first (drop at bytes) count size) → Placed bytes at first count size w.batch
placed bytes at first count size w =
    let b = w.batch in
    let kept = rules_kept first w.batch w.good in
    let len : length (drop at bytes) ≡ length (frame_bytes w.batch) + length w.spells.rest = ap length w.spells.spelled ∙ length-append (frame_bytes w.batch) w.spells.rest in
    let dropped : drop (at + 17) bytes ≡ flat_map entry_bytes w.batch.bodies ++ w.spells.rest = sym (drop-drop 17 at bytes) ∙ ap (drop 17) w.spells.spelled ∙ entries_start w.batch w.spells.rest in
    let n : size - 17 ≡ length (flat_map entry_bytes w.batch.bodies) = omega (arith, w.size_is, entries_size w.batch) in
    record {
      head = omega (arith, w.size_is, entries_size w.batch);
      there = omega (arith, len, length-drop at bytes, w.size_is, entries_size w.batch);
      first_is = kept.first;
      entries = (λ i. entries_in (w.count_is i) (take (n i) (dropped i)))
          ∙ ap (entries_in (length w.batch.bodies)) (take_at (flat_map entry_bytes w.batch.bodies) w.spells.rest (length (flat_map entry_bytes w.batch.bodies)) refl)
          ∙ entries_again w.batch.bodies w.spells.fits.bodies;
      good = kept.bodies;
      room = omega (arith, next_within first w.batch w.good, w.count_is);
    }

pub cursor_of : (bytes rest : List ℕ) (at first count size : ℕ) → IsWholeFrame first (drop at bytes) count size
    → rest ≡ take (size - 17) (drop (at + 17) bytes) → length bytes < 2 ^ 64 → AreEntries count rest first (at + 17)
cursor_of bytes rest at first count size w is small =
    let p = placed bytes at first count size w in
    record {
      bodies = w.batch.bodies;
      entries = ap (entries_in count) is ∙ p.entries;
      good = p.good;
      txids = omega (arith, p.room);
      places = omega (arith, ap length is, length-take (size - 17) (drop (at + 17) bytes), length-drop (at + 17) bytes, p.there, p.head, small);
    }

pub cursor_view : (bytes rest : List ℕ) (at first count size : ℕ) (b : BatchView) → IsWholeFrame first (drop at bytes) count size
    → rest ≡ take (size - 17) (drop (at + 17) bytes) → Spells (drop at bytes) b
    → ◌≡◌ {A = EntriesView} (record { txid = first; place = at + 17; bodies = bodies_in count rest }) (record { txid = b.first; place = at + 17; bodies = b.bodies })
cursor_view bytes rest at first count size b w is spells =
    let p = placed bytes at first count size w in
    let same : w.batch ≡ b = one_spelling (drop at bytes) w.batch b w.spells spells in
    let first_same : first ≡ b.first = sym p.first_is ∙ ap (λ (x : BatchView). x.first) same in
    let bodies_same : bodies_in count rest ≡ b.bodies = ap (λ (o : Option (List (List ℕ))). unwrap_or o []) (ap (entries_in count) is ∙ p.entries) ∙ ap (λ (x : BatchView). x.bodies) same in
    λ i. record { txid = first_same i; place = at + 17; bodies = bodies_same i }

-- ---- one step of a cursor

pub record Stepped (left : ℕ) (rest body behind : List ℕ) (txid place : ℕ) : Type 0 where
  pub after : AreEntries (left - 1) behind (txid + 1) (place + 2 + length body)
  pub bodies : bodies_in left rest ≡ body ∷ bodies_in (left - 1) behind
  pub good : is_bad_body body ≡ false
  pub room : place + 2 + length body < 2 ^ 64

step_by : (left : ℕ) (rest body behind : List ℕ) (txid place : ℕ) (others : Option (List (List ℕ))) → AreEntries (suc left) rest txid place
    → Some (body, behind) ≡ entry_at rest → length rest ≡ 2 + length body + length behind → entries_in left behind ≡ others
    → Stepped (suc left) rest body behind txid place
step_by left rest body behind txid place None are e len is =
    let none : entries_in (suc left) rest ≡ None = one_entry_in left rest body behind e ∙ ap (option_map (λ (bodies : List (List ℕ)). body ∷ bodies)) is in
    let p = sym none ∙ are.entries in absurd (cc)
step_by left rest body behind txid place (Some others) are e len is =
    let some : entries_in (suc left) rest ≡ Some (body ∷ others) = one_entry_in left rest body behind e ∙ ap (option_map (λ (bodies : List (List ℕ)). body ∷ bodies)) is in
    let same : body ∷ others ≡ are.bodies = same_Some (body ∷ others) are.bodies (sym some ∙ are.entries) in
    let parts = or_parts (is_bad_body body) (list_any is_bad_body others) (ap (list_any is_bad_body) same ∙ are.good) in
    let one : suc left - 1 ≡ left = omega arith in
    record {
      after = record {
        bodies = others;
        entries = ap (λ (n : ℕ). entries_in n behind) one ∙ is;
        good = parts.1;
        txids = omega (arith, are.txids, one);
        places = omega (arith, are.places, len);
      };
      bodies = ap (λ (o : Option (List (List ℕ))). unwrap_or o []) some
          ∙ ap (λ (bs : List (List ℕ)). body ∷ bs) (sym (ap (λ (n : ℕ). bodies_in n behind) one
          ∙ ap (λ (o : Option (List (List ℕ))). unwrap_or o []) is));
      good = parts.0;
      room = omega (arith, are.places, len);
    }

entry_length : (bytes body behind : List ℕ) → Some (body, behind) ≡ entry_at bytes → length bytes ≡ 2 + length body + length behind
unfolding entry_at
entry_length bytes body behind e =
    let g = none_or (ltb (length bytes) (2 + from_be_bytes w16 (take 2 bytes)))
    (take (from_be_bytes w16 (take 2 bytes)) (drop 2 bytes), drop (2 + from_be_bytes w16 (take 2 bytes)) bytes) (body, behind) (sym e) in
    let there : 2 + from_be_bytes w16 (take 2 bytes) ≤ length bytes = ltb-false _ _ g.0 in
    let body_is : take (from_be_bytes w16 (take 2 bytes)) (drop 2 bytes) ≡ body = ap (λ (x : List ℕ × List ℕ). x.0) g.1 in
    let behind_is : drop (2 + from_be_bytes w16 (take 2 bytes)) bytes ≡ behind = ap (λ (x : List ℕ × List ℕ). x.1) g.1 in
    omega (
      arith,
      there,
      ap length body_is,
      ap length behind_is,
      length-take (from_be_bytes w16 (take 2 bytes)) (drop 2 bytes),
      length-drop 2 bytes,
      length-drop (2 + from_be_bytes w16 (take 2 bytes)) bytes,
    )

pub step : (left : ℕ) (rest body behind : List ℕ) (txid place : ℕ) → AreEntries left rest txid place → left ≢ 0 → Some (body, behind) ≡ entry_at rest → Stepped left rest body behind txid place
step zero rest body behind txid place are ne e = absurd (ne refl)
step (suc left) rest body behind txid place are ne e = step_by left rest body behind txid place (entries_in left behind) are e (entry_length rest body behind e) refl

-- ---- headers

pub header_same : (bytes front : List ℕ) (start epoch start' epoch' : ℕ) → Some start ≡ number_at w64 bytes 8 → Some epoch ≡ number_at w64 bytes 16
    → HasHeader bytes start' epoch' → front ≡ take 24 bytes → front ≡ header_bytes start epoch
header_same bytes front start epoch start' epoch' s e h is =
    let told = number_some w64 bytes 8 start s in
    let told' = number_some w64 bytes 16 epoch e in
    let start_same : start ≡ start' =
    told.1 ∙ ap (from_be_bytes w64) (sym (take-take 8 16 (drop 8 bytes) (omega arith)) ∙ ap (take 8) (sym (drop-take 8 16 bytes)))
    ∙ ap (λ (x : List ℕ). from_be_bytes w64 (take 8 (drop 8 x))) h.spelled ∙ start_told start' epoch' (omega (arith, h.start_within)) in
    let epoch_same : epoch ≡ epoch' =
    told'.1 ∙ ap (from_be_bytes w64) (sym (drop-take 16 8 bytes))
    ∙ ap (λ (x : List ℕ). from_be_bytes w64 (drop 16 x)) h.spelled ∙ epoch_told start' epoch' (omega (arith, h.epoch_within)) in
    is ∙ h.spelled ∙ (λ i. header_bytes (sym start_same i) (sym epoch_same i))

-- ---- what is written

pub short_sized : (bodies : List (List ℕ)) → list_any (λ body. ltb max_body (length body)) bodies ≡ false → length (flat_map entry_bytes bodies) ≤ 4098 * length bodies
short_sized [] e = omega arith
short_sized (body ∷ bodies) e =
    let parts = or_parts (ltb max_body (length body)) (list_any (λ body. ltb max_body (length body)) bodies) e in
    let le : length body ≤ 4096 = ltb-false _ _ parts.0 in
    omega (arith, le, short_sized bodies parts.1, length-append body (flat_map entry_bytes bodies))

regrouped : (f a b c d : List ℕ) → (f ++ (165 ∷ (a ++ (b ++ c)))) ++ d ≡ f ++ (165 ∷ (a ++ (b ++ (c ++ d))))
regrouped f a b c d = simp append_assoc

pub frame_joined : (front : List ℕ) (first inner : ℕ) (bodies : List (List ℕ)) (i0 head i1 items : List ℕ) → inner ≡ 12 + length (flat_map entry_bytes bodies) → i0 ≡ front
    → head ≡ head_bytes inner first (length bodies) → i1 ≡ i0 ++ head → items ≡ i1 ++ flat_map entry_bytes bodies → items ≡ front ++ frame_bytes (record { first = first; bodies = bodies })
unfolding frame_bytes
frame_joined front first inner bodies i0 head i1 items is h0 y h1 h2 =
    let n : inner ≡ length (inner_bytes (record { first = first; bodies = bodies })) = omega (arith, is) in
    let e : i1 ≡ front ++ head_bytes inner first (length bodies) = h1 ∙ (λ i. h0 i ++ y i) in
    h2 ∙ ap (λ (x : List ℕ). x ++ flat_map entry_bytes bodies) e
    ∙ regrouped front (to_be_bytes w32 inner) (to_be_bytes w64 first) (to_be_bytes w32 (length bodies)) (flat_map entry_bytes bodies)
    ∙ ap (λ (m : ℕ). front ++ (165 ∷ (to_be_bytes w32 m ++ inner_bytes (record { first = first; bodies = bodies })))) n

-- a whole frame lies within the bytes, and the txid after it has room
pub record InRoom (bytes : List ℕ) (at next count size : ℕ) : Type 0 where
  pub some : 0 < size
  pub there : at + size ≤ length bytes
  pub txids : next + count < 2 ^ 64

pub in_room : (bytes : List ℕ) (at next count size : ℕ) → IsWholeFrame next (drop at bytes) count size → InRoom bytes at next count size
in_room bytes at next count size w =
    let p = placed bytes at next count size w in
    record { some = omega (arith, p.head); there = p.there; txids = omega (arith, p.room) }

pub ruleset judges = (entries_err, entries_ok, entries_unfilled, judged_inner, judged_short)

pub ruleset seals = (tail_by, seal_by, tail_past)
