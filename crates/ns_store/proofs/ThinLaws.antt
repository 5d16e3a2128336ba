-- How images are removed one after the other, and that a folder has one list of them.
use Rattle.std.proofs.Common.{inl, inr, ⊎_elim, ◌⊎◌, ◌≡◌, ◌≢◌, ◌↔◌, ℕ, zero, suc, ◌<◌, List, [], ◌∷◌, ◌++◌, ap, sym, ◌∙◌, refl, subst, arith, take}
use Rattle.std.specs.Prelude.{Contains, None, Result, IsOk, OnOk, drop}
use Rattle.std.proofs.lemmas.Result.{on_ok_weaker}
use Rattle.std.specs.Ordering.{nat_cmp}
use Rattle.std.specs.declared.cmp.Ordering.TheVariants.{Less}
use Rattle.std.specs.List.Sorted.{IsStrictlySortedBy}
use Rattle.std.proofs.lemmas.Bool.{cases_eq}
use Rattle.std.proofs.lemmas.Bool.Decides.{nat_tests}
use Rattle.std.proofs.lemmas.List.Elements.{Contains-push_cases, Contains-append_left, All-contains, All-from_recursion}
use Rattle.std.proofs.lemmas.List.{take-append-drop}
use Rattle.std.proofs.lemmas.Map.Keys.{sorted_head, sorted_tail}
use Rattle.base_disk.specs.Files.{Files}
use Rattle.base_disk.specs.View.{View, IsSound}
use Rattle.base_disk.specs.Calls.{HasCause, Keeps}
use Rattle.base_disk.specs.Runs.{Quiet, quiet_start}
use Rattle.base_disk.specs.declared.disk.DiskFail.{DiskFail}
use Rattle.ns_store.specs.Names.{Itself, Digest, name_of}
use Rattle.ns_store.specs.Images.{ListsImages}
use Rattle.ns_store.specs.Lists.{AllSmall, older_than}
use Rattle.ns_store.specs.Saves.{KeepsImage, Removes, Thins, IsRemoved, AreRemoved, Retains}
use Rattle.ns_store.proofs.NameLaws.{parts_apart, same_txid}
use Rattle.ns_store.proofs.Runs.{quiet_then, keeps_then}
use Rattle.base_disk.proofs.Causes.{none_at_ok}

-- ## One list
less_lt : (x y : ℕ) → nat_cmp x y ≡ Less → x < y
less_lt x y is = grind (arith, nat_tests)

above : (x : ℕ) (xs : List ℕ) (y : ℕ) → IsStrictlySortedBy nat_cmp (x ∷ xs) → Contains xs y → x < y
above x xs y sorted among = less_lt x y (All-contains (λ z. nat_cmp x z ≡ Less) xs y (All-from_recursion (λ z. nat_cmp x z ≡ Less) xs (sorted_head nat_cmp x xs sorted)) among)

head : (x : ℕ) (xs : List ℕ) → Contains (x ∷ xs) x
head x xs = (zero, omega arith, refl)

later : (x : ℕ) (xs : List ℕ) (y : ℕ) → Contains xs y → Contains (x ∷ xs) y
later x xs y among = (suc among.0, omega (arith, among.1), among.2)

behind : (x : ℕ) (xs : List ℕ) (y : ℕ) → Contains (x ∷ xs) y → (x ≡ y) ⊎ Contains xs y
behind x xs y (zero, lt, is) = inl is
behind x xs y (suc k, lt, is) = inr (k, omega (arith, lt), is)

first_same : (x : ℕ) (xs : List ℕ) (y : ℕ) (ys : List ℕ) → IsStrictlySortedBy nat_cmp (x ∷ xs) → IsStrictlySortedBy nat_cmp (y ∷ ys) → Contains (y ∷ ys) x → Contains (x ∷ xs) y → x ≡ y
first_same x xs y ys one two has_x has_y = by (behind y ys x has_x) (behind x xs y has_y)
  where
    by : (y ≡ x) ⊎ Contains ys x → (x ≡ y) ⊎ Contains xs y → x ≡ y
    by (inl same) more = sym same
    by (inr after) (inl same) = same
    by (inr after) (inr before) = absurd (omega (arith, above y ys x two after, above x xs y one before))

pub same_list : (xs ys : List ℕ) → IsStrictlySortedBy nat_cmp xs → IsStrictlySortedBy nat_cmp ys → ((t : ℕ) → Contains xs t → Contains ys t) → ((t : ℕ) → Contains ys t → Contains xs t) → xs ≡ ys
same_list [] [] one two to from = refl
same_list [] (y ∷ ys) one two to from = let among = from y (head y ys) in let lt : among.0 < 0 = among.1 in absurd (omega (arith, lt))
same_list (x ∷ xs) [] one two to from = let among = to x (head x xs) in let lt : among.0 < 0 = among.1 in absurd (omega (arith, lt))
same_list (x ∷ xs) (y ∷ ys) one two to from =
    let same = first_same x xs y ys one two (to x (head x xs)) (from y (head y ys)) in
    let rest = same_list xs ys (sorted_tail nat_cmp x xs one) (sorted_tail nat_cmp y ys two)
    (λ t among. ⊎_elim (λ is. let lt = above x xs t one among in absurd (omega (arith, lt, is, same))) (λ there. there) (behind y ys t (to t (later x xs t among))))
    (λ t among. ⊎_elim (λ is. let lt = above y ys t two among in absurd (omega (arith, lt, is, same))) (λ there. there) (behind x xs t (from t (later y ys t among)))) in
    λ i. same i ∷ rest i

pub one_list : (files : Files) (xs ys : List ℕ) → ListsImages xs files → ListsImages ys files → xs ≡ ys
one_list files xs ys one two = same_list xs ys one.sorted two.sorted (λ t among. (two.each t).1 ((one.each t).0 among)) (λ t among. (one.each t).1 ((two.each t).0 among))

pub front_within : (n : ℕ) (xs : List ℕ) (t : ℕ) → Contains (take n xs) t → Contains xs t
front_within n xs t among = subst (λ (l : List ℕ). Contains l t) (take-append-drop n xs) (Contains-append_left (take n xs) (drop n xs) t among)

pub small_front : (n : ℕ) (xs : List ℕ) → AllSmall xs → AllSmall (take n xs)
small_front n xs small t among = small t (front_within n xs t among)

-- ## One after the other
thins_none : (txids : List ℕ) (d : Files) → Thins txids d d
thins_none txids d = record { others = λ name out. refl; here = λ t among. inl record { itself = refl; digest = refl } }

pub retained : (count : ℕ) (v0 v1 v2 : View) → IsSound v0 → Keeps v0 v1 → (txids gone : List ℕ) → ListsImages txids v0.seen → gone ≡ older_than count txids → Quiet (Thins gone) v1 v2
    → {X E : Type 0} (r : Result X E) → OnOk r (AreRemoved gone v2.seen) → Retains count r v0 v2
retained count v0 v1 v2 sound keeps txids gone lists is quiet r removed = record {
  quiet = λ ts others. subst (λ (l : List ℕ). Quiet (Thins l) v0 v2) (is ∙ ap (older_than count) (one_list v0.seen txids ts lists others))
      (keeps_then (Thins gone) v0 v1 v2 sound (thins_none gone) keeps quiet);
  removed = on_ok_weaker r (λ all. λ ts others. subst (λ (l : List ℕ). AreRemoved l v2.seen) (is ∙ ap (older_than count) (one_list v0.seen txids ts lists others)) all) removed;
}

module _ (txids : List ℕ) (small : AllSmall txids) where
  outside : (t u : ℕ) → Contains txids t → Contains txids u → t ≢ u → (name_of u Itself ≢ name_of t Itself) × ((name_of u Itself ≢ name_of t Digest) × Unit {0})
  outside t u has_t has_u ne = (λ same. ne (sym (same_txid u t Itself (small u has_u) (small t has_t) same)), (parts_apart u t Itself Digest (λ e. absurd (cc)), tt))

  outside_digest : (t u : ℕ) → Contains txids t → Contains txids u → t ≢ u → (name_of u Digest ≢ name_of t Itself) × ((name_of u Digest ≢ name_of t Digest) × Unit {0})
  outside_digest t u has_t has_u ne = (parts_apart u t Digest Itself (λ e. absurd (cc)), (λ same. ne (sym (same_txid u t Digest (small u has_u) (small t has_t) same)), tt))

  here_then : (t : ℕ) → Contains txids t → (d e c : Files) → Thins txids d e → Removes t e c → (u : ℕ) → Contains txids u → (t ≡ u) ⊎ (t ≢ u) → KeepsImage u d c ⊎ (c (name_of u Itself) ≡ None)
  here_then t has_t d e c one two u has_u (inl same) = subst (λ (n : ℕ). KeepsImage n d c ⊎ (c (name_of n Itself) ≡ None)) same (by (one.here t has_t) two.here)
    where
      by : KeepsImage t d e ⊎ (e (name_of t Itself) ≡ None) → KeepsImage t e c ⊎ (c (name_of t Itself) ≡ None) → KeepsImage t d c ⊎ (c (name_of t Itself) ≡ None)
      by before (inr gone) = inr gone
      by (inl kept) (inl still) = inl record { itself = still.itself ∙ kept.itself; digest = still.digest ∙ kept.digest }
      by (inr gone) (inl still) = inr (still.itself ∙ gone)
  here_then t has_t d e c one two u has_u (inr ne) = ⊎_elim
      (λ kept. inl record { itself = image ∙ kept.itself; digest = two.only.others (name_of u Digest) (outside_digest t u has_t has_u ne) ∙ kept.digest })
      (λ gone. inr (image ∙ gone))
      (one.here u has_u)
    where
      image : c (name_of u Itself) ≡ e (name_of u Itself)
      image = two.only.others (name_of u Itself) (outside t u has_t has_u ne)

  thins_then : (t : ℕ) → Contains txids t → (d e c : Files) → Thins txids d e → Removes t e c → Thins txids d c
  thins_then t has_t d e c one two = record {
    others = λ name out. two.only.others name (out t has_t) ∙ one.others name out;
    here = λ u has_u. here_then t has_t d e c one two u has_u (cases_eq t u);
  }

  pub thin_start : (v : View) → IsSound v → Quiet (Thins txids) v v
  thin_start v sound = quiet_start (Thins txids) v sound (λ c left. thins_none txids c)

  pub thin_more : (v0 v v1 : View) → IsSound v0 → IsSound v → (t : ℕ) → Contains txids t → Quiet (Thins txids) v0 v → Quiet (Removes t) v v1 → Quiet (Thins txids) v0 v1
  thin_more v0 v v1 sound0 sound t has one two = quiet_then (Thins txids) (Removes t) (Thins txids) v0 v v1 sound0 sound (λ d c h. h)
      (λ d e c left_d left_e first second. thins_then t has d e c first second) one two

  pub removed_more : (done : List ℕ) (t : ℕ) (d c : Files) → ((u : ℕ) → Contains done u → Contains txids u) → Contains txids t → AreRemoved done d
      → Removes t d c → IsRemoved t c → AreRemoved (done ++ t ∷ []) c
  removed_more done t d c within has removed step gone u among = by (cases_eq t u) (Contains-push_cases done t u among)
    where
      by : (t ≡ u) ⊎ (t ≢ u) → Contains done u ⊎ (t ≡ u) → IsRemoved u c
      by (inl same) where_ = subst (λ (n : ℕ). IsRemoved n c) same gone
      by (inr ne) (inr same) = absurd (ne same)
      by (inr ne) (inl before) = let was = removed u before in record {
        itself = step.only.others (name_of u Itself) (outside t u has (within u before) ne) ∙ was.itself;
        digest = step.only.others (name_of u Digest) (outside_digest t u has (within u before) ne) ∙ was.digest;
      }

-- the images of these txids are removed, so far
pub record IsThinning (told tells : Type 0) (v0 v : View) (txids done : List ℕ) (f0 f : ℕ) (was_steady is_steady : Type 0) : Type 0 where
  pub tells_on : told ↔ tells
  pub quiet : told → Quiet (Thins txids) v0 v
  pub removed : told → AreRemoved done v.seen
  pub same : f ≡ f0
  pub steady : was_steady → is_steady

module _ (told : Type 0) (v0 : View) (sound0 : told → IsSound v0) (txids : List ℕ) (small : AllSmall txids) (f0 : ℕ) (was_steady : Type 0) where
  pub begun : IsThinning told told v0 v0 txids [] f0 f0 was_steady was_steady
  begun = record {
    tells_on = (λ t. t, λ t. t);
    quiet = λ t. thin_start txids small v0 (sound0 t);
    removed = λ t u among. let lt : among.0 < 0 = among.1 in absurd (omega (arith, lt));
    same = refl;
    steady = λ s. s;
  }

  module _ (tells : Type 0) (v : View) (sound : tells → IsSound v) (done : List ℕ) (f : ℕ) (is_steady : Type 0) (so_far : IsThinning told tells v0 v txids done f0 f was_steady is_steady)
      (t : ℕ) (has : Contains txids t) {T : Type 0} (tells1 : Type 0) (v1 : View) (f1 : ℕ) (steady1 : Type 0) (r : Result T DiskFail)
      (on : tells ↔ tells1) (quiet : tells → Quiet (Removes t) v v1) (cause : HasCause f f1 is_steady steady1 r) where
    pub still_quiet : told → Quiet (Thins txids) v0 v1
    still_quiet h = let here = so_far.tells_on.0 h in thin_more txids small v0 v v1 (sound0 h) (sound here) t has (so_far.quiet h) (quiet here)

    pub still_tells : told ↔ tells1
    still_tells = (λ h. on.0 (so_far.tells_on.0 h), λ h. so_far.tells_on.1 (on.1 h))

    pub one_more : IsOk r → (next : List ℕ) → next ≡ done ++ t ∷ [] → ((u : ℕ) → Contains done u → Contains txids u) → (tells → IsRemoved t v1.seen)
        → IsThinning told tells1 v0 v1 txids next f0 f1 was_steady steady1
    one_more ok next is within gone = record {
      tells_on = still_tells;
      quiet = still_quiet;
      removed = λ h. let here = so_far.tells_on.0 h in subst (λ (l : List ℕ). AreRemoved l v1.seen) (sym is)
          (removed_more txids small done t v.seen v1.seen within has (so_far.removed h) (quiet here).seen (gone here));
      same = none_at_ok f f1 is_steady steady1 r cause ok ∙ so_far.same;
      steady = λ s. cause.steady (so_far.steady s);
    }
