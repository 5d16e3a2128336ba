-- Entries that are read are those that were written.
use Rattle.std.proofs.Common.{◌≡◌, ℕ, zero, suc, ◌+◌, ◌^◌, ◌<◌, ◌≤◌, Bool, true, false, cond, ltb, List, [], ◌∷◌, ◌++◌, length, take, drop, Option, Some, None, refl, sym, ap, subst, ◌∙◌, arith}
use Rattle.std.specs.Option.{option_map, option_and_then}
use Rattle.std.specs.List.{flat_map, AllByRecursion}
use Rattle.std.specs.Int.{w16, w32, w64, from_be_bytes, to_be_bytes}
use Rattle.std.proofs.lemmas.Bool.{ltb-false, le-ltb, cond-false}
use Rattle.std.proofs.lemmas.Option.{same_Some, option_and_then_some}
use Rattle.std.proofs.lemmas.List.{take_at, drop_at, take-append-drop, drop-drop, length-append, length-take, length-drop}
use Rattle.std.proofs.lemmas.Nat.{from_be_bytes-to_be_bytes_2, from_be_bytes-to_be_bytes_4, from_be_bytes-to_be_bytes_8}
use Rattle.base_words.specs.Fields.{IsBytes}
use Rattle.base_words.proofs.FieldLaws.{Front, bytes_after, field16, field32, field64}
use Rattle.journal_core.specs.Views.{BatchView}
use Rattle.disk_frame.specs.Frames.{entry_bytes, inner_bytes}
use Rattle.disk_frame.specs.Faults.{FitsFields}
use Rattle.disk_frame.specs.Reading.{entry_at, entries_in, batch_in}

-- ---- one entry

-- what stands at the front, by the length that it tells
pub entry_by : (bytes : List ℕ) (n : ℕ) → from_be_bytes w16 (take 2 bytes) ≡ n → 2 + n ≤ length bytes → entry_at bytes ≡ Some (take n (drop 2 bytes), drop (2 + n) bytes)
unfolding entry_at
entry_by bytes n told there =
    ap (λ (m : ℕ). cond {A = Option (List ℕ × List ℕ)} (ltb (length bytes) (2 + m)) None (Some (take m (drop 2 bytes), drop (2 + m) bytes))) told
    ∙ cond-false (ltb (length bytes) (2 + n)) None (Some (take n (drop 2 bytes), drop (2 + n) bytes)) (le-ltb _ _ there)

pub entry_again : (body rest : List ℕ) → length body < 2 ^ 16 → entry_at (entry_bytes body ++ rest) ≡ Some (body, rest)
entry_again body rest lt =
    let told : from_be_bytes w16 (take 2 (entry_bytes body ++ rest)) ≡ length body = from_be_bytes-to_be_bytes_2 (length body) lt in
    let there : 2 + length body ≤ length (entry_bytes body ++ rest) = omega (arith, length-append body rest) in
    let taken : take (length body) (drop 2 (entry_bytes body ++ rest)) ≡ body = take_at body rest (length body) refl in
    let dropped : drop (2 + length body) (entry_bytes body ++ rest) ≡ rest = sym (drop-drop (length body) 2 (entry_bytes body ++ rest)) ∙ drop_at body rest (length body) refl in
    entry_by (entry_bytes body ++ rest) (length body) told there ∙ (λ i. Some (taken i, dropped i))

pub none_or : {A : Type 0} (b : Bool) (x y : A) → cond b None (Some x) ≡ Some y → (b ≡ false) × (x ≡ y)
none_or true x y e = absurd cc
none_or false x y e = (refl, same_Some x y e)

pub record TakesEntry (bytes body rest : List ℕ) : Type 0 where
  pub parts : bytes ≡ entry_bytes body ++ rest
  pub short : length body < 2 ^ 16
  pub fits : IsBytes rest

pub entry_takes : (bytes body rest : List ℕ) → IsBytes bytes → entry_at bytes ≡ Some (body, rest) → TakesEntry bytes body rest
unfolding entry_at
entry_takes bytes body rest fits e =
    let n : ℕ = from_be_bytes w16 (take 2 bytes) in
    let g = none_or (ltb (length bytes) (2 + from_be_bytes w16 (take 2 bytes)))
    (take (from_be_bytes w16 (take 2 bytes)) (drop 2 bytes), drop (2 + from_be_bytes w16 (take 2 bytes)) bytes) (body, rest) e in
    let there : 2 + from_be_bytes w16 (take 2 bytes) ≤ length bytes = ltb-false _ _ g.0 in
    let size : Front w16 2 (2 ^ 16) bytes (from_be_bytes w16 (take 2 bytes)) (drop 2 bytes) = field16.found bytes fits (omega (arith, there)) in
    let len : length (take (from_be_bytes w16 (take 2 bytes)) (drop 2 bytes)) ≡ from_be_bytes w16 (take 2 bytes) =
    omega (arith, length-take (from_be_bytes w16 (take 2 bytes)) (drop 2 bytes), length-drop 2 bytes, there) in
    let split : drop 2 bytes ≡ take (from_be_bytes w16 (take 2 bytes)) (drop 2 bytes) ++ drop (2 + from_be_bytes w16 (take 2 bytes)) bytes =
    sym (take-append-drop (from_be_bytes w16 (take 2 bytes)) (drop 2 bytes))
    ∙ ap (λ (r : List ℕ). take (from_be_bytes w16 (take 2 bytes)) (drop 2 bytes) ++ r) (drop-drop (from_be_bytes w16 (take 2 bytes)) 2 bytes) in
    let made : TakesEntry bytes (take (from_be_bytes w16 (take 2 bytes)) (drop 2 bytes)) (drop (2 + from_be_bytes w16 (take 2 bytes)) bytes) = record {
      parts = size.spelled ∙ (λ i. to_be_bytes w16 (sym len i) ++ split i);
      short = subst (λ (k : ℕ). k < 2 ^ 16) (sym len) size.small;
      fits = bytes_after (2 + from_be_bytes w16 (take 2 bytes)) bytes fits;
    } in
    subst (λ (x : List ℕ × List ℕ). TakesEntry bytes x.0 x.1) g.1 made

-- ---- entries

map_some : {A B : Type 0} (f : A → B) (o : Option A) (y : B) → option_map f o ≡ Some y → (x : A) × (o ≡ Some x) × (f x ≡ y)
map_some f None y e = absurd cc
map_some f (Some x) y e = (x, refl, same_Some (f x) y e)

pub record TakesEntries (count : ℕ) (bytes : List ℕ) (bodies : List (List ℕ)) : Type 0 where
  pub parts : bytes ≡ flat_map entry_bytes bodies
  pub all : length bodies ≡ count
  pub short : AllByRecursion (λ body. length body < 2 ^ 16) bodies

one_more : (count : ℕ) (bytes : List ℕ) (entry : List ℕ × List ℕ) (others : List (List ℕ)) → TakesEntry bytes entry.0 entry.1
    → TakesEntries count entry.1 others → TakesEntries (suc count) bytes (entry.0 ∷ others)
one_more count bytes entry others first rest = record {
  parts = first.parts ∙ ap (λ (r : List ℕ). entry_bytes entry.0 ++ r) rest.parts;
  all = ap suc rest.all;
  short = (first.short, rest.short);
}

pub entries_take : (count : ℕ) (bytes : List ℕ) (bodies : List (List ℕ)) → IsBytes bytes → entries_in count bytes ≡ Some bodies → TakesEntries count bytes bodies
entries_take zero [] bodies fits e = subst (λ (x : List (List ℕ)). TakesEntries 0 [] x) (same_Some [] bodies e) (record { parts = refl; all = refl; short = tt })
entries_take zero (byte ∷ bytes) bodies fits e = absurd cc
entries_take (suc count) bytes bodies fits e =
    option_and_then_some (λ (entry : List ℕ × List ℕ). option_map (λ (others : List (List ℕ)). entry.0 ∷ others) (entries_in count entry.1)) (entry_at bytes) bodies e
    (λ entry is goes.
    let first = entry_takes bytes entry.0 entry.1 fits is in
    let m = map_some (λ (others : List (List ℕ)). entry.0 ∷ others) (entries_in count entry.1) bodies goes in
    subst (λ (x : List (List ℕ)). TakesEntries (suc count) bytes x) m.2 (one_more count bytes entry m.0 first (entries_take count entry.1 m.0 first.fits m.1)))

pub entries_again : (bodies : List (List ℕ)) → AllByRecursion (λ body. length body < 2 ^ 16) bodies → entries_in (length bodies) (flat_map entry_bytes bodies) ≡ Some bodies
entries_again [] short = refl
entries_again (body ∷ bodies) short =
    ap (option_and_then (λ (entry : List ℕ × List ℕ). option_map (λ (others : List (List ℕ)). entry.0 ∷ others) (entries_in (length bodies) entry.1)))
    (entry_again body (flat_map entry_bytes bodies) short.0)
    ∙ ap (option_map (λ (others : List (List ℕ)). body ∷ others)) (entries_again bodies short.1)

-- ---- what stands after a frame's length

pub batch_again : (b : BatchView) → FitsFields b → batch_in (inner_bytes b) ≡ Some b
unfolding batch_in
batch_again b fits =
    let first_is : from_be_bytes w64 (to_be_bytes w64 b.first) ≡ b.first = from_be_bytes-to_be_bytes_8 b.first fits.first in
    let count_is : from_be_bytes w32 (to_be_bytes w32 (length b.bodies)) ≡ length b.bodies = from_be_bytes-to_be_bytes_4 (length b.bodies) fits.count in
    let long : ltb (length (inner_bytes b)) 12 ≡ false = le-ltb _ _ (omega arith) in
    cond-false (ltb (length (inner_bytes b)) 12) None (option_map (λ (bodies : List (List ℕ)).
    record { first = from_be_bytes w64 (to_be_bytes w64 b.first); bodies = bodies })
    (entries_in (from_be_bytes w32 (to_be_bytes w32 (length b.bodies))) (flat_map entry_bytes b.bodies))) long
    ∙ (λ i. option_map (λ (bodies : List (List ℕ)). record { first = first_is i; bodies = bodies }) (entries_in (count_is i) (flat_map entry_bytes b.bodies)))
    ∙ ap (option_map (λ (bodies : List (List ℕ)). record { first = b.first; bodies = bodies })) (entries_again b.bodies fits.bodies)

pub batch_takes : (inner : List ℕ) (b : BatchView) → IsBytes inner → length inner < 2 ^ 32 → batch_in inner ≡ Some b → (inner ≡ inner_bytes b) × FitsFields b
unfolding batch_in
batch_takes inner b fits below e =
    let count : ℕ = from_be_bytes w32 (take 4 (drop 8 inner)) in
    let g = none_or_map (ltb (length inner) 12) (entries_in (from_be_bytes w32 (take 4 (drop 8 inner))) (drop 12 inner)) e in
    let long : 12 ≤ length inner = ltb-false _ _ g.0 in
    let m = map_some (λ (bodies : List (List ℕ)). record { first = from_be_bytes w64 (take 8 inner); bodies = bodies })
    (entries_in (from_be_bytes w32 (take 4 (drop 8 inner))) (drop 12 inner)) b g.1 in
    let bodies = m.0 in
    let t = entries_take (from_be_bytes w32 (take 4 (drop 8 inner))) (drop 12 inner) m.0 (bytes_after 12 inner fits) m.1 in
    let first : Front w64 8 (2 ^ 64) inner (from_be_bytes w64 (take 8 inner)) (drop 8 inner) = field64.found inner fits (omega (arith, long)) in
    let told : Front w32 4 (2 ^ 32) (drop 8 inner) (from_be_bytes w32 (take 4 (drop 8 inner))) (drop 4 (drop 8 inner)) =
    field32.found (drop 8 inner) (bytes_after 8 inner fits) (omega (arith, long, length-drop 8 inner)) in
    let end : drop 4 (drop 8 inner) ≡ flat_map entry_bytes m.0 = drop-drop 4 8 inner ∙ t.parts in
    let whole : inner ≡ inner_bytes (record { first = from_be_bytes w64 (take 8 inner); bodies = m.0 }) =
    first.spelled ∙ ap (λ (r : List ℕ). to_be_bytes w64 (from_be_bytes w64 (take 8 inner)) ++ r) (told.spelled ∙ (λ i. to_be_bytes w32 (sym t.all i) ++ end i)) in
    let count_fits : length m.0 < 2 ^ 32 = subst (λ (k : ℕ). k < 2 ^ 32) (sym t.all) told.small in
    let fit : FitsFields (record { first = from_be_bytes w64 (take 8 inner); bodies = m.0 }) = record {
      whole = subst (λ (x : List ℕ). length x < 2 ^ 32) whole below;
      first = first.small;
      count = count_fits;
      bodies = t.short;
    } in
    subst (λ (x : BatchView). (inner ≡ inner_bytes x) × FitsFields x) m.2 (whole, fit)
  where
    none_or_map : (cut : Bool) (entries : Option (List (List ℕ))) → cond cut None
        (option_map (λ (bodies : List (List ℕ)). record { first = from_be_bytes w64 (take 8 inner); bodies = bodies }) entries) ≡ Some b
        → (cut ≡ false) × (option_map (λ (bodies : List (List ℕ)). record { first = from_be_bytes w64 (take 8 inner); bodies = bodies }) entries ≡ Some b)
    none_or_map true entries h = absurd cc
    none_or_map false entries h = (refl, h)
