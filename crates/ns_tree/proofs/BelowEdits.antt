-- Edits below a name change its entry alone.
use Rattle.std.proofs.Common.{◌≡◌, ℕ, ◌<◌, List, [], ◌∷◌, ◌++◌, length, map, filter, refl, sym, ◌∙◌, ap, subst, Bool, true, false, cond, Option, Some, None, append_assoc, append-nil}
use Rattle.std.specs.declared.cmp.Ordering.{Ordering}
use Rattle.std.specs.declared.cmp.Ordering.TheVariants.{Less, Equal, Greater}
use Rattle.std.specs.Ordering.{is_eq, is_lt, nat_cmp, match_ordering}
use Rattle.std.specs.Cmp.Lexicographic.{slice_cmp}
use Rattle.std.specs.Map.{lookup, set_value, remove_entry}
use Rattle.std.specs.BTreeMap.{insert_entry}
use Rattle.std.proofs.lemmas.List.Elements.{filter-append}
use Rattle.ns_tree.specs.declared.inode.Inode.{Inode}
use Rattle.ns_tree.specs.declared.inode.Row.{Row}
use Rattle.ns_tree.specs.Path.{walk_cmp, same_text, has_slash}
use Rattle.ns_tree.specs.Space.{Each, pair, change_at, put_at, pairs_before, pairs_after}
use Rattle.ns_tree.specs.Branches.{IsLed, IsFrom, IsBranch, below, is_named, grown, AreBranches}
use Rattle.ns_tree.proofs.Tails.{same_prefix}
use Rattle.ns_tree.proofs.Below.{rows_from, AreLater, AreInOrder, later_still, name_same, turned_name, earlier_name, after_name}
use Rattle.ns_tree.proofs.Place.{change_before, change_after, change_parts, before_kept, before_none, after_kept, after_none}
use Rattle.ns_tree.proofs.UnderPaths.{prefix_cmp}

pub some_same : {X : Type 0} (a b : X) → Some a ≡ Some b → a ≡ b
some_same {X} a b h = ap value h
  where
    value : Option X → X
    value None = a
    value (Some x) = x

module _ {K X : Type 0} (name : K → List ℕ) (rows : X → List Row) where
  pub later_none : (n : List ℕ) (es : List (K × X)) → AreLater name rows n es → lookup (λ k. is_named n (name k)) es ≡ None
  later_none n [] l = refl
  later_none n (e ∷ es) l = rw l.0 (later_none n es l.1)

  module _ (n : List ℕ) (G : List Row → List Row) where
    -- an edit leaves what stands below an earlier name
    abbrev pub Skips : Type 0
    Skips =
        (m : List ℕ) (v xs : List Row) → has_slash m ≡ false → Each (λ x. IsFrom x.path) v → slice_cmp nat_cmp m n ≡ Less
        → G (map (below m) v ++ xs) ≡ map (below m) v ++ G xs

    -- and what stands below later names
    abbrev pub Ends : Type 0
    Ends = (es : List (K × X)) (xs : List Row) → AreBranches name rows es → AreLater name rows n es → G (xs ++ grown name rows es) ≡ G xs ++ grown name rows es

    -- an edit in the entry of a name
    pub edited : Skips → Ends → (es : List (K × X)) → AreBranches name rows es → AreInOrder name rows es → (v w : X)
        → lookup (λ k. is_named n (name k)) es ≡ Some v → G (map (below n) (rows v)) ≡ map (below n) (rows w)
        → G (grown name rows es) ≡ grown name rows (set_value (λ k. is_named n (name k)) es w)
    edited s t [] b o v w there inner = absurd (cc there)
    edited s t (e ∷ es) b o v w there inner = by (slice_cmp nat_cmp n (name e.0)) refl there (λ th. edited s t es b.3 o.1 v w th inner)
      where
        by : (c : Ordering) → slice_cmp nat_cmp n (name e.0) ≡ c
            → cond (is_eq (slice_cmp nat_cmp n (name e.0))) (Some e.1) (lookup (λ k. is_named n (name k)) es) ≡ Some v
            → (lookup (λ k. is_named n (name k)) es ≡ Some v → G (grown name rows es) ≡ grown name rows (set_value (λ k. is_named n (name k)) es w))
            → G (map (below (name e.0)) (rows e.1) ++ grown name rows es)
            ≡ grown name rows (cond (is_eq (slice_cmp nat_cmp n (name e.0))) ((e.0, w) ∷ es) (e ∷ set_value (λ k. is_named n (name k)) es w))
        by Less is th more = absurd (cc (sym (later_none n es (later_still name rows n (name e.0) es is o.0)) ∙ (rw is at th)))
        by Equal is th more =
            let same : n ≡ name e.0 = name_same n (name e.0) is in
            let here : e.1 ≡ v = some_same e.1 v (rw is at th) in
            let later : AreLater name rows n es = subst (λ (u : List ℕ). AreLater name rows u es) (sym same) o.0 in
            let made : G (map (below (name e.0)) (rows e.1)) ≡ map (below (name e.0)) (rows w) =
            subst (λ (u : List ℕ). G (map (below u) (rows e.1)) ≡ map (below u) (rows w)) same (rw here inner) in
            rw is (t es (map (below (name e.0)) (rows e.1)) b.3 later ∙ ap (λ (ys : List Row). ys ++ grown name rows es) made)
        by Greater is th more =
            let rest = more (rw is at th) in
            rw is (s (name e.0) (rows e.1) (grown name rows es) b.1 (rows_from (rows e.1) b.2) (turned_name (name e.0) n is) ∙ ap (λ (ys : List Row). map (below (name e.0)) (rows e.1) ++ ys) rest)

    -- the entry of a name goes
    pub removed : Skips → Ends → (es : List (K × X)) → AreBranches name rows es → AreInOrder name rows es → (v : X)
        → lookup (λ k. is_named n (name k)) es ≡ Some v → G (map (below n) (rows v)) ≡ []
        → G (grown name rows es) ≡ grown name rows (remove_entry (λ k. is_named n (name k)) es)
    removed s t [] b o v there inner = absurd (cc there)
    removed s t (e ∷ es) b o v there inner = by (slice_cmp nat_cmp n (name e.0)) refl there (λ th. removed s t es b.3 o.1 v th inner)
      where
        by : (c : Ordering) → slice_cmp nat_cmp n (name e.0) ≡ c
            → cond (is_eq (slice_cmp nat_cmp n (name e.0))) (Some e.1) (lookup (λ k. is_named n (name k)) es) ≡ Some v
            → (lookup (λ k. is_named n (name k)) es ≡ Some v → G (grown name rows es) ≡ grown name rows (remove_entry (λ k. is_named n (name k)) es))
            → G (map (below (name e.0)) (rows e.1) ++ grown name rows es)
            ≡ grown name rows (cond (is_eq (slice_cmp nat_cmp n (name e.0))) es (e ∷ remove_entry (λ k. is_named n (name k)) es))
        by Less is th more = absurd (cc (sym (later_none n es (later_still name rows n (name e.0) es is o.0)) ∙ (rw is at th)))
        by Equal is th more =
            let same : n ≡ name e.0 = name_same n (name e.0) is in
            let here : e.1 ≡ v = some_same e.1 v (rw is at th) in
            let later : AreLater name rows n es = subst (λ (u : List ℕ). AreLater name rows u es) (sym same) o.0 in
            let made : G (map (below (name e.0)) (rows e.1)) ≡ [] =
            subst (λ (u : List ℕ). G (map (below u) (rows e.1)) ≡ []) same (rw here inner) in
            rw is (t es (map (below (name e.0)) (rows e.1)) b.3 later ∙ ap (λ (ys : List Row). ys ++ grown name rows es) made)
        by Greater is th more =
            let rest = more (rw is at th) in
            rw is (s (name e.0) (rows e.1) (grown name rows es) b.1 (rows_from (rows e.1) b.2) (turned_name (name e.0) n is) ∙ ap (λ (ys : List Row). map (below (name e.0)) (rows e.1) ++ ys) rest)

    -- a name gets an entry
    pub inserted : Skips → Ends → (es : List (K × X)) → AreBranches name rows es → AreInOrder name rows es → (k : K) (w : X) → name k ≡ n
        → lookup (λ k. is_named n (name k)) es ≡ None → G [] ≡ map (below n) (rows w)
        → G (grown name rows es) ≡ grown name rows (insert_entry (λ a b. slice_cmp nat_cmp (name a) (name b)) es k w)
    inserted s t [] b o k w named absent made = made ∙ ap (λ (u : List ℕ). map (below u) (rows w)) (sym named) ∙ sym (append-nil (map (below (name k)) (rows w)))
    inserted s t (e ∷ es) b o k w named absent made =
        by (slice_cmp nat_cmp (name k) (name e.0)) refl (λ gone. inserted s t es b.3 o.1 k w named gone made)
      where
        there : lookup (λ k. is_named n (name k)) (e ∷ es) ≡ lookup (λ q. is_named (name k) (name q)) (e ∷ es)
        there = ap (λ (u : List ℕ). lookup (λ q. is_named u (name q)) (e ∷ es)) (sym named)

        rest_none : (c : Ordering) → slice_cmp nat_cmp n (name e.0) ≡ c
            → cond (is_eq (slice_cmp nat_cmp n (name e.0))) (Some e.1) (lookup (λ q. is_named n (name q)) es) ≡ None → lookup (λ q. is_named n (name q)) es ≡ None
        rest_none Less e h = rw e at h
        rest_none Equal e h = absurd (cc (rw e at h))
        rest_none Greater e h = rw e at h

        by : (c : Ordering) → slice_cmp nat_cmp (name k) (name e.0) ≡ c
            → (lookup (λ q. is_named n (name q)) es ≡ None → G (grown name rows es) ≡ grown name rows (insert_entry (λ a b. slice_cmp nat_cmp (name a) (name b)) es k w))
            → G (map (below (name e.0)) (rows e.1) ++ grown name rows es)
            ≡ grown name rows (match_ordering (slice_cmp nat_cmp (name k) (name e.0)) ((k, w) ∷ e ∷ es) ((e.0, w) ∷ es) (e ∷ insert_entry (λ a b. slice_cmp nat_cmp (name a) (name b)) es k w))
        by Less is more =
            let first : slice_cmp nat_cmp n (name e.0) ≡ Less = rw named at is in
            let later : AreLater name rows n (e ∷ es) = (first, later_still name rows n (name e.0) es first o.0) in
            rw is (t (e ∷ es) [] b later ∙ ap (λ (ys : List Row). ys ++ grown name rows (e ∷ es)) (made ∙ ap (λ (u : List ℕ). map (below u) (rows w)) (sym named)))
        by Equal is more = absurd (cc (sym (rw is at (sym there ∙ absent))))
        by Greater is more =
            let gone : lookup (λ q. is_named n (name q)) es ≡ None = rest_none (slice_cmp nat_cmp n (name e.0)) refl absent in
            let rest = more gone in
            let before : slice_cmp nat_cmp (name e.0) n ≡ Less = turned_name (name e.0) n (rw named at is) in
            rw is (s (name e.0) (rows e.1) (grown name rows es) b.1 (rows_from (rows e.1) b.2) before ∙ ap (λ (ys : List Row). map (below (name e.0)) (rows e.1) ++ ys) rest)

    -- a name with no entry
    pub missed : Skips → Ends → (es : List (K × X)) → AreBranches name rows es → AreInOrder name rows es
        → lookup (λ k. is_named n (name k)) es ≡ None → G [] ≡ [] → G (grown name rows es) ≡ grown name rows es
    missed s t [] b o absent none = none
    missed s t (e ∷ es) b o absent none = by (slice_cmp nat_cmp n (name e.0)) refl absent (λ th. missed s t es b.3 o.1 th none)
      where
        by : (c : Ordering) → slice_cmp nat_cmp n (name e.0) ≡ c
            → cond (is_eq (slice_cmp nat_cmp n (name e.0))) (Some e.1) (lookup (λ k. is_named n (name k)) es) ≡ None
            → (lookup (λ k. is_named n (name k)) es ≡ None → G (grown name rows es) ≡ grown name rows es)
            → G (map (below (name e.0)) (rows e.1) ++ grown name rows es) ≡ map (below (name e.0)) (rows e.1) ++ grown name rows es
        by Less is th more =
            let later : AreLater name rows n (e ∷ es) = (is, later_still name rows n (name e.0) es is o.0) in
            t (e ∷ es) [] b later ∙ ap (λ (ys : List Row). ys ++ grown name rows (e ∷ es)) none
        by Equal is th more = absurd (cc (rw is at th))
        by Greater is th more =
            let rest = more (rw is at th) in
            s (name e.0) (rows e.1) (grown name rows es) b.1 (rows_from (rows e.1) b.2) (turned_name (name e.0) n is) ∙ ap (λ (ys : List Row). map (below (name e.0)) (rows e.1) ++ ys) rest

-- one edit after another
module _ {K X : Type 0} (name : K → List ℕ) (rows : X → List Row) (n : List ℕ) (G H : List Row → List Row) where
  pub skips_then : Skips name rows n G → Skips name rows n H → Skips name rows n (λ xs. H (G xs))
  skips_then s t m v xs e l less = ap H (s m v xs e l less) ∙ t m v (G xs) e l less

  pub ends_then : Ends name rows n G → Ends name rows n H → Ends name rows n (λ xs. H (G xs))
  ends_then s t es xs b l = ap H (s es xs b l) ∙ t es (G xs) b l

-- ## Another inode

pub change_below : (n r : List ℕ) (f : Inode → Inode) (xs : List Row) → change_at (47 ∷ n ++ r) f (map (below n) xs) ≡ map (below n) (change_at r f xs)
change_below n r f [] = refl
change_below n r f (x ∷ xs) = rw (same_prefix (47 ∷ n) r x.path, change_below n r f xs) (by (same_text r x.path))
  where
    by : (z : Bool) → cond z (pair (47 ∷ n ++ x.path) (f x.inode)) (below n x) ∷ map (below n) (change_at r f xs)
        ≡ below n (cond z (pair x.path (f x.inode)) x) ∷ map (below n) (change_at r f xs)
    by true = refl
    by false = refl

module _ {K X : Type 0} (name : K → List ℕ) (rows : X → List Row) (n r : List ℕ) (f : Inode → Inode) (plain : has_slash n ≡ false) (led : IsLed r) where
  pub change_skips : Skips name rows n (change_at (47 ∷ n ++ r) f)
  change_skips m v xs e l less =
      change_parts (47 ∷ n ++ r) f (map (below m) v) xs
      ∙ ap (λ (ys : List Row). ys ++ change_at (47 ∷ n ++ r) f xs) (change_before (47 ∷ n ++ r) f (map (below m) v) (earlier_name m n r v e plain led l less))

  pub change_ends : Ends name rows n (change_at (47 ∷ n ++ r) f)
  change_ends es xs b l =
      change_parts (47 ∷ n ++ r) f xs (grown name rows es)
      ∙ ap (λ (ys : List Row). change_at (47 ∷ n ++ r) f xs ++ ys) (change_after (47 ∷ n ++ r) f (grown name rows es) (after_name name rows n r es plain led b l))

  -- another inode below a name
  pub changed_in : (es : List (K × X)) → AreBranches name rows es → AreInOrder name rows es → (v w : X) → lookup (λ k. is_named n (name k)) es ≡ Some v
      → rows w ≡ change_at r f (rows v) → change_at (47 ∷ n ++ r) f (grown name rows es) ≡ grown name rows (set_value (λ k. is_named n (name k)) es w)
  changed_in es b o v w there made =
      edited name rows n (change_at (47 ∷ n ++ r) f) change_skips change_ends es b o v w there
      (change_below n r f (rows v) ∙ ap (map (below n)) (sym made))

  pub changed_none : (es : List (K × X)) → AreBranches name rows es → AreInOrder name rows es → lookup (λ k. is_named n (name k)) es ≡ None
      → change_at (47 ∷ n ++ r) f (grown name rows es) ≡ grown name rows es
  changed_none es b o absent = missed name rows n (change_at (47 ∷ n ++ r) f) change_skips change_ends es b o absent refl

-- ## Rows that are put

filter_below : (n : List ℕ) (f g : Row → Bool) → ((x : Row) → f (below n x) ≡ g x) → (xs : List Row) → filter f (map (below n) xs) ≡ map (below n) (filter g xs)
filter_below n f g h [] = refl
filter_below n f g h (x ∷ xs) = rw (h x, filter_below n f g h xs) (by (g x))
  where
    by : (z : Bool) → cond z (below n x ∷ map (below n) (filter g xs)) (map (below n) (filter g xs)) ≡ map (below n) (cond z (x ∷ filter g xs) (filter g xs))
    by true = refl
    by false = refl

map_parts : (n : List ℕ) (xs ys : List Row) → map (below n) (xs ++ ys) ≡ map (below n) xs ++ map (below n) ys
map_parts n [] ys = refl
map_parts n (x ∷ xs) ys = ap (λ (zs : List Row). below n x ∷ zs) (map_parts n xs ys)

pub put_below : (n r : List ℕ) (new xs : List Row) → put_at (47 ∷ n ++ r) (map (below n) new) (map (below n) xs) ≡ map (below n) (put_at r new xs)
put_below n r new xs =
    let before = filter_below n (λ x. is_lt (walk_cmp x.path (47 ∷ n ++ r))) (λ x. is_lt (walk_cmp x.path r)) (λ x. ap is_lt (prefix_cmp (47 ∷ n) x.path r)) xs in
    let after = filter_below n (λ x. is_lt (walk_cmp (47 ∷ n ++ r) x.path)) (λ x. is_lt (walk_cmp r x.path)) (λ x. ap is_lt (prefix_cmp (47 ∷ n) r x.path)) xs in
    rw (before, after) (sym (map_parts n (pairs_before r xs ++ new) (pairs_after r xs) ∙ ap (λ (ys : List Row). ys ++ map (below n) (pairs_after r xs)) (map_parts n (pairs_before r xs) new)))

pub put_past : (p : List ℕ) (new xs ys : List Row) → Each (λ x. walk_cmp x.path p ≡ Less) xs → put_at p new (xs ++ ys) ≡ xs ++ put_at p new ys
put_past p new xs ys h =
    let before : pairs_before p (xs ++ ys) ≡ xs ++ pairs_before p ys = filter-append _ xs ys ∙ ap (λ (zs : List Row). zs ++ pairs_before p ys) (before_kept p xs h) in
    let after : pairs_after p (xs ++ ys) ≡ pairs_after p ys = filter-append _ xs ys ∙ ap (λ (zs : List Row). zs ++ pairs_after p ys) (after_none p xs h) in
    rw (before, after) (ap (λ (zs : List Row). zs ++ pairs_after p ys) (append_assoc xs (pairs_before p ys) new) ∙ append_assoc xs (pairs_before p ys ++ new) (pairs_after p ys))

pub put_ahead : (p : List ℕ) (new xs ys : List Row) → Each (λ x. walk_cmp p x.path ≡ Less) ys → put_at p new (xs ++ ys) ≡ put_at p new xs ++ ys
put_ahead p new xs ys h =
    let before : pairs_before p (xs ++ ys) ≡ pairs_before p xs =
    filter-append _ xs ys ∙ ap (λ (zs : List Row). pairs_before p xs ++ zs) (before_none p ys h) ∙ append-nil (pairs_before p xs) in
    let after : pairs_after p (xs ++ ys) ≡ pairs_after p xs ++ ys = filter-append _ xs ys ∙ ap (λ (zs : List Row). pairs_after p xs ++ zs) (after_kept p ys h) in
    rw (before, after) (sym (append_assoc (pairs_before p xs ++ new) (pairs_after p xs) ys))

module _ {K X : Type 0} (name : K → List ℕ) (rows : X → List Row) (n r : List ℕ) (new : List Row) (plain : has_slash n ≡ false) (led : IsLed r) where
  pub put_skips : Skips name rows n (put_at (47 ∷ n ++ r) (map (below n) new))
  put_skips m v xs e l less = put_past (47 ∷ n ++ r) (map (below n) new) (map (below m) v) xs (earlier_name m n r v e plain led l less)

  pub put_ends : Ends name rows n (put_at (47 ∷ n ++ r) (map (below n) new))
  put_ends es xs b l = put_ahead (47 ∷ n ++ r) (map (below n) new) xs (grown name rows es) (after_name name rows n r es plain led b l)

  -- rows that are put below a name that is there
  pub put_in : (es : List (K × X)) → AreBranches name rows es → AreInOrder name rows es → (v w : X) → lookup (λ k. is_named n (name k)) es ≡ Some v
      → rows w ≡ put_at r new (rows v) → put_at (47 ∷ n ++ r) (map (below n) new) (grown name rows es) ≡ grown name rows (set_value (λ k. is_named n (name k)) es w)
  put_in es b o v w there made =
      edited name rows n (put_at (47 ∷ n ++ r) (map (below n) new)) put_skips put_ends es b o v w there
      (put_below n r new (rows v) ∙ ap (map (below n)) (sym made))

  -- and rows of a new name
  pub put_new : (es : List (K × X)) → AreBranches name rows es → AreInOrder name rows es → (k : K) (w : X) → name k ≡ n → lookup (λ k. is_named n (name k)) es ≡ None
      → rows w ≡ new → put_at (47 ∷ n ++ r) (map (below n) new) (grown name rows es) ≡ grown name rows (insert_entry (λ a b. slice_cmp nat_cmp (name a) (name b)) es k w)
  put_new es b o k w named absent made =
      inserted name rows n (put_at (47 ∷ n ++ r) (map (below n) new)) put_skips put_ends es b o k w named absent
      (append-nil (map (below n) new) ∙ ap (map (below n)) (sym made))

-- rows that are put below a name that is there, and another inode there
module _ {K X : Type 0} (name : K → List ℕ) (rows : X → List Row) (n r q : List ℕ) (f : Inode → Inode) (new : List Row) (plain : has_slash n ≡ false) (led : IsLed r) (below_led : IsLed q) where
  pub made_in : (es : List (K × X)) → AreBranches name rows es → AreInOrder name rows es → (v w : X) → lookup (λ k. is_named n (name k)) es ≡ Some v
      → rows w ≡ change_at r f (put_at q new (rows v))
      → change_at (47 ∷ n ++ r) f (put_at (47 ∷ n ++ q) (map (below n) new) (grown name rows es)) ≡ grown name rows (set_value (λ k. is_named n (name k)) es w)
  made_in es b o v w there made =
      edited name rows n (λ xs. change_at (47 ∷ n ++ r) f (put_at (47 ∷ n ++ q) (map (below n) new) xs))
      (skips_then name rows n (put_at (47 ∷ n ++ q) (map (below n) new)) (change_at (47 ∷ n ++ r) f) (put_skips name rows n q new plain below_led) (change_skips name rows n r f plain led))
      (ends_then name rows n (put_at (47 ∷ n ++ q) (map (below n) new)) (change_at (47 ∷ n ++ r) f) (put_ends name rows n q new plain below_led) (change_ends name rows n r f plain led))
      es b o v w there
      (ap (change_at (47 ∷ n ++ r) f) (put_below n q new (rows v)) ∙ change_below n r f (put_at q new (rows v)) ∙ ap (map (below n)) (sym made))

-- ## What holds of the entries goes on holding

module _ {K X : Type 0} (name : K → List ℕ) (rows : X → List Row) where
  pub kept_set : (test : K → Bool) (es : List (K × X)) (w : X) → AreBranches name rows es → IsBranch (rows w) → AreBranches name rows (set_value test es w)
  kept_set test [] w b l = tt
  kept_set test (e ∷ es) w b l = by (test e.0) (kept_set test es w b.3 l)
    where
      by : (z : Bool) → AreBranches name rows (set_value test es w) → AreBranches name rows (cond z ((e.0, w) ∷ es) (e ∷ set_value test es w))
      by true rest = (b.0, b.1, l, b.3)
      by false rest = (b.0, b.1, b.2, rest)

  pub kept_remove : (test : K → Bool) (es : List (K × X)) → AreBranches name rows es → AreBranches name rows (remove_entry test es)
  kept_remove test [] b = tt
  kept_remove test (e ∷ es) b = by (test e.0) (kept_remove test es b.3)
    where
      by : (z : Bool) → AreBranches name rows (remove_entry test es) → AreBranches name rows (cond z es (e ∷ remove_entry test es))
      by true rest = b.3
      by false rest = (b.0, b.1, b.2, rest)

  pub kept_insert : (c : K → K → Ordering) (es : List (K × X)) (k : K) (w : X) → AreBranches name rows es → 0 < length (name k) → has_slash (name k) ≡ false
      → IsBranch (rows w) → AreBranches name rows (insert_entry c es k w)
  kept_insert c [] k w b some plain l = (some, plain, l, tt)
  kept_insert c (e ∷ es) k w b some plain l = by (c k e.0) (kept_insert c es k w b.3 some plain l)
    where
      by : (o : Ordering) → AreBranches name rows (insert_entry c es k w) → AreBranches name rows (match_ordering o ((k, w) ∷ e ∷ es) ((e.0, w) ∷ es) (e ∷ insert_entry c es k w))
      by Less rest = (some, plain, l, b)
      by Equal rest = (b.0, b.1, l, b.3)
      by Greater rest = (b.0, b.1, b.2, rest)
