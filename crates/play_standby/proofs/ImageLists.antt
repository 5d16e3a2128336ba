-- Lists of images, the newest first: one image more, and their txids in order.
use Rattle.std.proofs.Common.{inl, inr, ⊎_elim, ◌⊎◌, ◌≡◌, ℕ, ◌+◌, ◌-◌, ◌<◌, ◌≤◌, ◌==◌, nat_lt, List, [], ◌∷◌, ◌++◌, Bool, true, false, if◌then◌else◌}
use Rattle.std.proofs.Common.{refl, sym, ap, ◌∙◌, subst, arith, length, drop, append_assoc, length-append}
use Rattle.std.specs.Prelude.{Contains}
use Rattle.std.specs.List.{AllByRecursion}
use Rattle.std.specs.List.Sorted.{IsStrictlySortedBy}
use Rattle.std.specs.Ordering.{nat_cmp}
use Rattle.std.specs.declared.cmp.Ordering.TheVariants.{Less}
use Rattle.std.proofs.lemmas.Bool.{cases_eq}
use Rattle.std.proofs.lemmas.Bool.Decides.{nat_tests}
use Rattle.std.proofs.lemmas.List.{take_at}
use Rattle.std.proofs.lemmas.List.Elements.{Contains-push, Contains-push_cases, Contains-append_left}
use Rattle.ns_edits.specs.Replay.{Image}
use Rattle.play_names.specs.Holding.{image_put}
use Rattle.ns_store.specs.Lists.{older_than}
use Rattle.play_standby.specs.Disks.{AreFalling, HasTxid, rising_txids}

abbrev pub Each : (Image → Type 0) → List Image → Type 0
Each P is = AllByRecursion P is

abbrev pub AreBelow : ℕ → List Image → Type 0
AreBelow k is = Each (λ j. j.txid < k) is

pub each_both : (P Q R : Image → Type 0) → ((i : Image) → P i → Q i → R i) → (is : List Image) → Each P is → Each Q is → Each R is
each_both P Q R f [] p q = tt
each_both P Q R f (i ∷ is) p q = (f i p.0 q.0, each_both P Q R f is p.1 q.1)

pub each_map : (P R : Image → Type 0) → ((i : Image) → P i → R i) → (is : List Image) → Each P is → Each R is
each_map P R f [] p = tt
each_map P R f (i ∷ is) p = (f i p.0, each_map P R f is p.1)

pub each_of : (P : ℕ → Type 0) (is : List Image) → ((t : ℕ) → HasTxid t is → P t) → Each (λ i. P i.txid) is
each_of P [] f = tt
each_of P (i ∷ is) f = (f i.txid (inl refl), each_of P is (λ t h. f t (inr h)))

pub at_txid : (P : ℕ → Type 0) (is : List Image) (t : ℕ) → Each (λ i. P i.txid) is → HasTxid t is → P t
at_txid P [] t all h = absurd h
at_txid P (i ∷ is) t all (inl e) = subst P (sym e) all.0
at_txid P (i ∷ is) t all (inr h) = at_txid P is t all.1 h

pub has_or_not : (t : ℕ) (is : List Image) → HasTxid t is ⊎ (HasTxid t is → ⊥)
has_or_not t [] = inr (λ h. h)
has_or_not t (i ∷ is) = ⊎_elim (λ e. inl (inl e)) (λ ne. ⊎_elim (λ h. inl (inr h)) (λ no. inr (⊎_elim ne no)) (has_or_not t is)) (cases_eq t i.txid)

same_number : (a b : ℕ) → (a == b) ≡ true → a ≡ b
same_number a b e = grind (arith, nat_tests)

other_number : (a b : ℕ) → (a == b) ≡ false → a ≡ b → ⊥
other_number a b e same = grind (arith, nat_tests)

lower : (a b : ℕ) → nat_lt a b ≡ true → a < b
lower a b e = grind (arith, nat_tests)

higher : (a b : ℕ) → nat_lt a b ≡ false → (a == b) ≡ false → b < a
higher a b e f = grind (arith, nat_tests)

-- ## One image more
module _ (i : Image) where
  pub put_has : (t : ℕ) (js : List Image) → HasTxid t (image_put i js) → (t ≡ i.txid) ⊎ HasTxid t js
  unfolding image_put
  put_has t [] h = h
  put_has t (j ∷ js) h = by (λ x. put_has t js x) (nat_lt j.txid i.txid) (j.txid == i.txid) h
    where
      by : (HasTxid t (image_put i js) → (t ≡ i.txid) ⊎ HasTxid t js) → (b c : Bool) → HasTxid t (if b then i ∷ j ∷ js else if c then i ∷ js else j ∷ image_put i js)
          → (t ≡ i.txid) ⊎ HasTxid t (j ∷ js)
      by rec true c h = h
      by rec false true (inl e) = inl e
      by rec false true (inr h) = inr (inr h)
      by rec false false (inl e) = inr (inl e)
      by rec false false (inr h) = ⊎_elim (λ e. inl e) (λ x. inr (inr x)) (rec h)

  pub put_has_it : (t : ℕ) (js : List Image) → (t ≡ i.txid) ⊎ HasTxid t js → HasTxid t (image_put i js)
  unfolding image_put
  put_has_it t [] h = h
  put_has_it t (j ∷ js) h = by (λ x. put_has_it t js x) (nat_lt j.txid i.txid) (j.txid == i.txid) refl h
    where
      by : ((t ≡ i.txid) ⊎ HasTxid t js → HasTxid t (image_put i js)) → (b c : Bool) → (j.txid == i.txid) ≡ c → (t ≡ i.txid) ⊎ HasTxid t (j ∷ js)
          → HasTxid t (if b then i ∷ j ∷ js else if c then i ∷ js else j ∷ image_put i js)
      by rec true c e h = h
      by rec false true e (inl is) = inl is
      by rec false true e (inr (inl is)) = inl (is ∙ same_number j.txid i.txid e)
      by rec false true e (inr (inr h)) = inr h
      by rec false false e (inl is) = inr (rec (inl is))
      by rec false false e (inr (inl is)) = inl is
      by rec false false e (inr (inr h)) = inr (rec (inr h))

  put_below : (k : ℕ) (js : List Image) → i.txid < k → AreBelow k js → AreBelow k (image_put i js)
  put_below k js h all = each_of (λ t. t < k) (image_put i js) (λ t has. ⊎_elim (λ e. subst (λ (x : ℕ). x < k) (sym e) h) (λ x. at_txid (λ t. t < k) js t all x) (put_has t js has))

  pub put_falling : (js : List Image) → AreFalling js → AreFalling (image_put i js)
  unfolding image_put
  put_falling [] f = (tt, tt)
  put_falling (j ∷ js) f = by (put_falling js f.1) (nat_lt j.txid i.txid) (j.txid == i.txid) refl refl
    where
      by : AreFalling (image_put i js) → (b c : Bool) → nat_lt j.txid i.txid ≡ b → (j.txid == i.txid) ≡ c → AreFalling (if b then i ∷ j ∷ js else if c then i ∷ js else j ∷ image_put i js)
      by rec true c l e =
          let under : j.txid < i.txid = lower j.txid i.txid l in
          ((under, each_map (λ x. x.txid < j.txid) (λ x. x.txid < i.txid) (λ x h. omega (arith, h, under)) js f.0), f)
      by rec false true l e = (subst (λ (k : ℕ). AreBelow k js) (same_number j.txid i.txid e) f.0, f.1)
      by rec false false l e = (put_below j.txid js (higher j.txid i.txid l e) f.0, rec)

  -- each other image keeps what holds of it
  pub put_each : (P : Image → Type 0) → P i → (js : List Image) → AreFalling js → Each (λ j. (j.txid ≡ i.txid → ⊥) → P j) js → Each P (image_put i js)
  unfolding image_put
  put_each P p [] f all = (p, tt)
  put_each P p (j ∷ js) f all = by (put_each P p js f.1 all.1) (nat_lt j.txid i.txid) (j.txid == i.txid) refl refl
    where
      under : (k : ℕ) → k ≤ i.txid → AreBelow k js → Each P js
      under k le below = each_both (λ x. x.txid < k) (λ x. (x.txid ≡ i.txid → ⊥) → P x) P (λ x h g. g (λ e. omega (arith, e, h, le))) js below all.1

      by : Each P (image_put i js) → (b c : Bool) → nat_lt j.txid i.txid ≡ b → (j.txid == i.txid) ≡ c → Each P (if b then i ∷ j ∷ js else if c then i ∷ js else j ∷ image_put i js)
      by rec true c l e =
          let less : j.txid < i.txid = lower j.txid i.txid l in
          (p, (all.0 (λ same. omega (arith, same, less)), under j.txid (omega (arith, less)) f.0))
      by rec false true l e = let same : j.txid ≡ i.txid = same_number j.txid i.txid e in (p, under j.txid (omega (arith, same)) f.0)
      by rec false false l e = (all.0 (other_number j.txid i.txid e), rec)

-- ## Their txids, the newest last
pub rising_has : (t : ℕ) (is : List Image) → Contains (rising_txids is) t → HasTxid t is
rising_has t [] c = let lt : c.0 < 0 = c.1 in absurd (omega (arith, lt))
rising_has t (i ∷ is) c = ⊎_elim (λ x. inr (rising_has t is x)) (λ e. inl (sym e)) (Contains-push_cases (rising_txids is) i.txid t c)

pub has_rising : (t : ℕ) (is : List Image) → HasTxid t is → Contains (rising_txids is) t
has_rising t [] h = absurd h
has_rising t (i ∷ is) (inl e) = subst (λ (k : ℕ). Contains (rising_txids is ++ i.txid ∷ []) k) (sym e) (Contains-push (rising_txids is) i.txid)
has_rising t (i ∷ is) (inr h) = Contains-append_left (rising_txids is) (i.txid ∷ []) t (has_rising t is h)

all_push : (P : ℕ → Type 0) (xs : List ℕ) (x : ℕ) → AllByRecursion P xs → P x → AllByRecursion P (xs ++ x ∷ [])
all_push P [] x all p = (p, tt)
all_push P (y ∷ xs) x all p = (all.0, all_push P xs x all.1 p)

sorted_push : (xs : List ℕ) (x : ℕ) → IsStrictlySortedBy nat_cmp xs → AllByRecursion (λ y. nat_cmp y x ≡ Less) xs → IsStrictlySortedBy nat_cmp (xs ++ x ∷ [])
unfolding IsStrictlySortedBy
sorted_push [] x s all = (tt, tt)
sorted_push (y ∷ xs) x s all = (all_push (λ z. nat_cmp y z ≡ Less) xs x s.0 all.0, sorted_push xs x s.1 all.1)

below_less : (a b : ℕ) → a < b → nat_cmp a b ≡ Less
below_less a b h = grind (arith, nat_tests)

rising_below : (k : ℕ) (is : List Image) → AreBelow k is → AllByRecursion (λ y. nat_cmp y k ≡ Less) (rising_txids is)
rising_below k [] all = tt
rising_below k (i ∷ is) all = all_push (λ y. nat_cmp y k ≡ Less) (rising_txids is) i.txid (rising_below k is all.1) (below_less i.txid k all.0)

pub rising_sorted : (is : List Image) → AreFalling is → IsStrictlySortedBy nat_cmp (rising_txids is)
unfolding IsStrictlySortedBy
rising_sorted [] f = tt
rising_sorted (i ∷ is) f = sorted_push (rising_txids is) i.txid (rising_sorted is f.1) (rising_below i.txid is f.0)

pub rising_two : (i j : Image) (is : List Image) → rising_txids (i ∷ j ∷ is) ≡ rising_txids is ++ j.txid ∷ i.txid ∷ []
rising_two i j is = append_assoc (rising_txids is) (j.txid ∷ []) (i.txid ∷ [])

pub older_two : (is : List Image) → older_than 2 (rising_txids is) ≡ rising_txids (drop 2 is)
older_two [] = refl
older_two (i ∷ []) = refl
older_two (i ∷ j ∷ is) =
    let size : length (rising_txids is ++ j.txid ∷ i.txid ∷ []) ≡ length (rising_txids is) + 2 = length-append (rising_txids is) (j.txid ∷ i.txid ∷ []) in
    let less : length (rising_txids is ++ j.txid ∷ i.txid ∷ []) - 2 ≡ length (rising_txids is) = omega (arith, size) in
    ap (older_than 2) (rising_two i j is) ∙ take_at (rising_txids is) (j.txid ∷ i.txid ∷ []) (length (rising_txids is ++ j.txid ∷ i.txid ∷ []) - 2) (sym less)
