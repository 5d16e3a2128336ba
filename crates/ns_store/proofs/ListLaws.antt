-- The list of the images that count.
use Rattle.std.proofs.Common.{inl, inr, ⊎_elim, ◌⊎◌, ◌≡◌, ◌≢◌, ℕ, zero, suc, ◌+◌, ◌-◌, ◌<◌, ◌≤◌, ◌^◌, List, [], ◌∷◌, ◌++◌, ap, sym, ◌∙◌, refl, subst, arith, length, take, get_or, Bool, true, false}
use Rattle.std.specs.Prelude.{Contains, IsTrue, IsSome, Option, Some, None, slice_index_or, codes, map, Result, Ok, Err, IfOk}
use Rattle.std.specs.BTreeMap.{is_at}
use Rattle.std.specs.BTreeSet.{BTreeSet, contains, Updates, IsIntersection}
use Rattle.std.specs.List.{list_any}
use Rattle.std.specs.List.Sorted.{IsStrictlySortedBy}
use Rattle.std.specs.Ordering.{nat_cmp}
use Rattle.std.proofs.lemmas.Bool.{cases_eq, or_cases, or_left, or_right, and_parts, and_from}
use Rattle.std.proofs.lemmas.Bool.Decides.{nat_tests}
use Rattle.std.proofs.lemmas.List.Elements.{Contains-push, Contains-push_cases, Contains-append_left, Contains-get_or}
use Rattle.std.proofs.lemmas.Map.Keys.{below_from_sorted}
use Rattle.base_words.specs.Padded.{padded}
use Rattle.base_words.proofs.PaddedLaws.{padded_injective, length-padded}
use Rattle.base_disk.specs.Files.{Files}
use Rattle.base_disk.specs.Calls.{Lists}
use Rattle.ns_store.specs.Names.{Itself, Digest, name_of}
use Rattle.ns_store.specs.Images.{image_of, Counts, ListsImages}
use Rattle.ns_store.specs.Lists.{IsNamed, HasName, AddsTxid, AreTxids, ListsNamed, AllSmall}
use Rattle.std.proofs.lemmas.List.{append_cancel_left, take_at, take_more, map-append}
use Rattle.ns_store.specs.Answers.{IsNewest, IsNewestIn, IsKeptFrom, IsKeptIn}
use Rattle.ns_store.specs.declared.newest_answer.Newest.{Newest}
use Rattle.ns_store.specs.declared.newest_answer.Newest.TheVariants as found
use Rattle.ns_store.specs.declared.kept_answer.MinToKeep.{MinToKeep}
use Rattle.ns_store.specs.declared.kept_answer.MinToKeep.TheVariants as kept

-- ## Sets of txids
other_at : (t q : ℕ) → t ≢ q → is_at (nat_cmp t) q ≡ false
other_at t q ne = grind (arith, nat_tests)

same_at : (t : ℕ) → is_at (nat_cmp t) t ≡ true
same_at t = grind (arith, nat_tests)

-- a name tells one txid
front_cancels : (a b : List ℕ) → codes "fsimage_" ++ a ≡ codes "fsimage_" ++ b → a ≡ b
front_cancels a b same = append_cancel_left (codes "fsimage_") a b same

pub one_txid : (name rest : List ℕ) (t u : ℕ) → IsNamed name rest t → IsNamed name rest u → t ≡ u
one_txid name rest t u one two =
    let tails = front_cancels (padded 19 t ++ rest) (padded 19 u ++ rest) (sym one.spelled ∙ two.spelled) in
    padded_injective t u one.small two.small (sym (take_at (padded 19 t) rest 19 (length-padded 19 t)) ∙ ap (λ (l : List ℕ). take 19 l) tails ∙ take_at (padded 19 u) rest 19 (length-padded 19 u))

pub txid_added : (name rest : List ℕ) (t : ℕ) (old new : BTreeSet ℕ) → IsNamed name rest t → Updates nat_cmp old new t true → AddsTxid name rest old new
txid_added name rest t old new named updates = record { each = λ q. (to q (cases_eq t q), from q (cases_eq t q)) }
  where
    to : (q : ℕ) → (t ≡ q) ⊎ (t ≢ q) → IsTrue (contains nat_cmp new q) → IsTrue (contains nat_cmp old q) ⊎ IsNamed name rest q
    to q (inl same) is = inr (subst (λ (n : ℕ). IsNamed name rest n) same named)
    to q (inr ne) is = inl (subst (λ (b : Bool). IsTrue b) (updates.2 q (other_at t q ne)) is)

    there : IsTrue (contains nat_cmp new t)
    there = subst (λ (b : Bool). IsTrue b) (sym updates.1) refl

    from : (q : ℕ) → (t ≡ q) ⊎ (t ≢ q) → IsTrue (contains nat_cmp old q) ⊎ IsNamed name rest q → IsTrue (contains nat_cmp new q)
    from q (inl same) either = subst (λ (n : ℕ). IsTrue (contains nat_cmp new n)) same there
    from q (inr ne) (inl old_has) = subst (λ (b : Bool). IsTrue b) (sym (updates.2 q (other_at t q ne))) old_has
    from q (inr ne) (inr is) = absurd (ne (one_txid name rest t q named is))

pub one_name_more : (names next : List (List ℕ)) (name rest : List ℕ) (old new : BTreeSet ℕ) → next ≡ names ++ name ∷ [] → AreTxids names rest old → AddsTxid name rest old new → AreTxids next rest new
one_name_more names next name rest old new is are adds = subst (λ (l : List (List ℕ)). AreTxids l rest new) (sym is) record { each = λ q. (to q, from q) }
  where
    before : (q : ℕ) → HasName names rest q → HasName (names ++ name ∷ []) rest q
    before q has = record { name = has.name; among = Contains-append_left names (name ∷ []) has.name has.among; is = has.is }

    to : (q : ℕ) → IsTrue (contains nat_cmp new q) → HasName (names ++ name ∷ []) rest q
    to q has = ⊎_elim (λ old_has. before q ((are.each q).0 old_has)) (λ named. record { name = name; among = Contains-push names name; is = named }) ((adds.each q).0 has)

    from : (q : ℕ) → HasName (names ++ name ∷ []) rest q → IsTrue (contains nat_cmp new q)
    from q has = (adds.each q).1 (⊎_elim
        (λ among. inl ((are.each q).1 record { name = has.name; among = among; is = has.is }))
        (λ same. inr (subst (λ (n : List ℕ). IsNamed n rest q) (sym same) has.is))
        (Contains-push_cases names name has.name has.among))

-- ## Both sets
same_key : (q k : ℕ) → is_at (nat_cmp q) k ≡ true → q ≡ k
same_key q k is = ⊎_elim (λ same. same) (λ ne. let e = other_at q k ne in absurd (cc)) (cases_eq q k)

here_listed : (q k : ℕ) (ks : List ℕ) → is_at (nat_cmp q) k ≡ true → Contains (k ∷ ks) q
here_listed q k ks is = (zero, omega arith, sym (same_key q k is))

later_listed : (q k : ℕ) (ks : List ℕ) → Contains ks q → Contains (k ∷ ks) q
later_listed q k ks at = (suc at.0, omega (arith, at.1), at.2)

pub listed : (q : ℕ) (ks : List ℕ) → list_any (is_at (nat_cmp q)) ks ≡ true → Contains ks q
listed q [] is = absurd (cc)
listed q (k ∷ ks) is = ⊎_elim (λ here. here_listed q k ks here) (λ more. later_listed q k ks (listed q ks more)) (or_cases (is_at (nat_cmp q) k) (list_any (is_at (nat_cmp q)) ks) is)

pub is_listed : (q : ℕ) (ks : List ℕ) → Contains ks q → list_any (is_at (nat_cmp q)) ks ≡ true
is_listed q [] (k, lt, is) = absurd (omega (arith, lt))
is_listed q (x ∷ ks) (zero, lt, is) = or_left (is_at (nat_cmp q) x) (list_any (is_at (nat_cmp q)) ks) (ap (λ (n : ℕ). is_at (nat_cmp q) n) is ∙ same_at q)
is_listed q (x ∷ ks) (suc k, lt, is) = or_right (is_at (nat_cmp q) x) (list_any (is_at (nat_cmp q)) ks) (is_listed q ks (k, omega (arith, lt), is))

pub lists_named : (names : List (List ℕ)) (images digests : BTreeSet ℕ) (txids : List ℕ) → AreTxids names [] images
    → AreTxids names (codes ".md5") digests → IsIntersection nat_cmp images digests txids
    → IsStrictlySortedBy nat_cmp txids → ListsNamed names txids
lists_named names images digests txids are_images are_digests both sorted = record {
  each = λ q. (
    λ among. let parts = and_parts (contains nat_cmp images q) (contains nat_cmp digests q) (sym (both q) ∙ is_listed q txids among) in ((are_images.each q).0 parts.0, (are_digests.each q).0 parts.1),
    λ has. listed q txids (both q ∙ and_from (contains nat_cmp images q) (contains nat_cmp digests q) ((are_images.each q).1 has.0) ((are_digests.each q).1 has.1)),
  );
  sorted = sorted;
}

pub all_small : (names : List (List ℕ)) (txids : List ℕ) → ListsNamed names txids → AllSmall txids
all_small names txids lists t among = ((lists.each t).0 among).0.is.small

-- ## The names are those of the files
both_there : (image digest : Option (List ℕ)) → IsSome image → IsSome digest → IsSome (image_of image digest)
both_there None digest one two = absurd (cc)
both_there (Some bytes) None one two = absurd (cc)
both_there (Some bytes) (Some line) one two = refl

image_there : (image digest : Option (List ℕ)) → IsSome (image_of image digest) → IsSome image × IsSome digest
image_there None digest is = absurd (cc)
image_there (Some bytes) None is = absurd (cc)
image_there (Some bytes) (Some line) is = (refl, refl)

module _ (names : List (List ℕ)) (files : Files) (lists : Lists names files) where
  file_named : (t : ℕ) → HasName names [] t → IsSome (files (name_of t Itself))
  unfolding name_of
  file_named t has = subst (λ (n : List ℕ). IsSome (files n)) has.is.spelled (lists.there has.name has.among)

  digest_named : (t : ℕ) → HasName names (codes ".md5") t → IsSome (files (name_of t Digest))
  unfolding name_of
  digest_named t has = subst (λ (n : List ℕ). IsSome (files n)) has.is.spelled (lists.there has.name has.among)

  named_file : (t : ℕ) → t ≤ 2 ^ 62 → IsSome (files (name_of t Itself)) → HasName names [] t
  unfolding name_of
  named_file t small is = record { name = name_of t Itself; among = lists.all (name_of t Itself) is; is = record { small = small; spelled = refl } }

  named_digest : (t : ℕ) → t ≤ 2 ^ 62 → IsSome (files (name_of t Digest)) → HasName names (codes ".md5") t
  unfolding name_of
  named_digest t small is = record { name = name_of t Digest; among = lists.all (name_of t Digest) is; is = record { small = small; spelled = refl } }

  pub lists_images : (txids : List ℕ) → ListsNamed names txids → ListsImages txids files
  lists_images txids named = record {
    each = λ t. (
      λ among. let has = (named.each t).0 among in (has.0.is.small, both_there (files (name_of t Itself)) (files (name_of t Digest)) (file_named t has.0) (digest_named t has.1)),
      λ counts. let there = image_there (files (name_of t Itself)) (files (name_of t Digest)) counts.1 in (named.each t).1 (named_file t counts.0 there.0, named_digest t counts.0 there.1),
    );
    sorted = named.sorted;
  }

-- ## What the list tells
other_default : (ks : List ℕ) (k d : ℕ) → k < length ks → get_or ks k 0 ≡ slice_index_or ks k d
other_default [] k d lt = absurd (omega (arith, lt))
other_default (y ∷ ys) zero d lt = refl
other_default (y ∷ ys) (suc k) d lt = other_default ys k d (omega (arith, lt))

up_to_last : (x : ℕ) (xs : List ℕ) (other t : ℕ) → IsStrictlySortedBy nat_cmp (x ∷ xs) → t ≡ get_or (x ∷ xs) (length xs) 0 → Contains (x ∷ xs) other → other ≤ t
up_to_last x xs other t sorted is among =
    let at : get_or (x ∷ xs) among.0 0 ≡ other = other_default (x ∷ xs) among.0 other among.1 ∙ among.2 in
    elim (cases_eq among.0 (length xs)) [
      | inl same ↦ let e : other ≡ t = sym at ∙ ap (λ (k : ℕ). get_or (x ∷ xs) k 0) same ∙ sym is in omega (arith, e)
      | inr ne ↦ let lt = below_from_sorted (x ∷ xs) among.0 (length xs) 0 sorted (omega (arith, among.1, ne)) (omega arith) in omega (arith, lt, at, is)
    ]

newest_is : (txids : List ℕ) (files : Files) (t : ℕ) → ListsImages txids files → txids ≢ [] → t ≡ get_or txids (length txids - 1) 0 → Counts files t × ((other : ℕ) → Counts files other → other ≤ t)
newest_is [] files t lists some is = absurd (some refl)
newest_is (x ∷ xs) files t lists some is =
    let last : length (x ∷ xs) - 1 ≡ length xs = omega arith in
    let at : t ≡ get_or (x ∷ xs) (length xs) 0 = is ∙ ap (λ (k : ℕ). get_or (x ∷ xs) k 0) last in (
      (lists.each t).0 (subst (λ (n : ℕ). Contains (x ∷ xs) n) (sym at) (Contains-get_or (x ∷ xs) (length xs) 0 (omega arith))),
      λ other counts. up_to_last x xs other t lists.sorted at ((lists.each other).1 counts),
    )

none_count : (txids : List ℕ) (files : Files) → ListsImages txids files → txids ≡ [] → (other : ℕ) → Counts files other → ⊥
none_count txids files lists none other counts =
    let among = subst (λ (l : List ℕ). Contains l other) none ((lists.each other).1 counts) in let lt : among.0 < 0 = among.1 in omega (arith, lt)

pub newest_told : (txids : List ℕ) (files : Files) (answer : Newest) → ListsImages txids files → IsNewestIn txids answer → IsNewest files answer
newest_told txids files (found.Image t) lists told = newest_is txids files t lists told.0 told.1
newest_told txids files found.NoImage lists told = none_count txids files lists told
newest_told txids files found.DiskFault lists told = tt
newest_told txids files found.OutOfMemory lists told = tt

pub kept_told : (txids : List ℕ) (files : Files) (extra : ℕ) (answer : MinToKeep) → ListsImages txids files → IsKeptIn txids extra answer → IsKeptFrom files extra answer
kept_told txids files extra (kept.Min t) lists told = (txids, lists, told.0, told.1)
kept_told txids files extra kept.NoImage lists told = none_count txids files lists told
kept_told txids files extra kept.DiskFault lists told = tt
kept_told txids files extra kept.OutOfMemory lists told = tt

-- the names of a list, one after the other
pub next_name : {X : Type 0} (f : X → List ℕ) (xs : List X) (i : ℕ) (x : X) → i < length xs → x ≡ get_or xs i x → map f (take (i + 1) xs) ≡ map f (take i xs) ++ f x ∷ []
next_name {X} f xs i x lt is = ap (map f) (take_more xs i x lt) ∙ map-append f (take i xs) (get_or xs i x ∷ []) ∙ ap (λ (y : X). map f (take i xs) ++ f y ∷ []) (sym is)

pub if_ok_both : {X Y : Type 0} (r : Result X Y) (P Q R : X → Type 0) → ((x : X) → P x → Q x → R x) → IfOk r P → IfOk r Q → IfOk r R
if_ok_both (Ok x) P Q R both p q = both x p q
if_ok_both (Err e) P Q R both p q = tt
