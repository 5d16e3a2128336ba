-- What goes from below a name: its entry, or what is in it.
use Rattle.std.proofs.Common.{◌≡◌, ℕ, ◌<◌, List, [], ◌∷◌, ◌++◌, length, map, filter, refl, sym, ◌∙◌, ap, arith, Bool, true, false, cond, Some, append_assoc, append-nil, length-append}
use Rattle.std.specs.Prelude.{not, ◌||◌}
use Rattle.std.specs.declared.cmp.Ordering.TheVariants.{Less}
use Rattle.std.specs.Ordering.{nat_cmp}
use Rattle.std.specs.Cmp.Lexicographic.{slice_cmp}
use Rattle.std.specs.Map.{lookup, set_value, remove_entry}
use Rattle.std.proofs.lemmas.List.Elements.{filter-append}
use Rattle.std.proofs.lemmas.Bool.Decides.{nat_tests}
use Rattle.ns_tree.specs.declared.inode.Row.{Row}
use Rattle.ns_tree.specs.Path.{walk_cmp, same_text, has_slash, begins_with, stem, is_under, is_at_or_under, part_under}
use Rattle.ns_tree.specs.Space.{Each, without}
use Rattle.ns_tree.specs.Branches.{IsLed, IsFrom, below, is_named, grown, AreBranches}
use Rattle.ns_tree.proofs.Tails.{same_prefix}
use Rattle.ns_tree.proofs.Below.{led_more, rows_from, AreLater, AreInOrder, led_from, below_decide, earlier_name}
use Rattle.ns_tree.proofs.BelowEdits.{Skips, Ends, edited, removed}
use Rattle.ns_tree.proofs.Order.{walk_cmp_self, same_text_self, not_same_before, not_same_after}
use Rattle.ns_tree.proofs.TwoNames.{split_under}
use Rattle.ns_tree.proofs.UnderPaths.{not_true, not_under_before}

-- a path of two bytes or more is its own stem
pub stem_long : (p : List ℕ) → 1 < length p → stem p ≡ p
stem_long [] h = absurd (omega arith)
stem_long (b ∷ []) h = absurd (omega arith)
stem_long (b ∷ c ∷ bs) h = refl

pub stem_from : (p : List ℕ) → IsFrom p → stem p ≡ p
stem_from [] h = refl
stem_from (b ∷ []) h = absurd (omega (arith, h.1))
stem_from (b ∷ c ∷ bs) h = refl

pub long_below : (n r : List ℕ) → 0 < length n → 1 < length (47 ∷ n ++ r)
long_below n r h = let sizes = length-append n r in omega (arith, h, sizes)

-- what is under a path below one name is below no later name
pub other_under : (m n r a : List ℕ) → 0 < length n → has_slash m ≡ false → has_slash n ≡ false → IsLed r → IsLed a → slice_cmp nat_cmp n m ≡ Less
    → is_under (47 ∷ n ++ r) (47 ∷ m ++ a) ≡ false
other_under m n r a some e f lr la h = not_true (is_under (47 ∷ n ++ r) (47 ∷ m ++ a)) (λ u. clash (part_under (47 ∷ n ++ r) (47 ∷ m ++ a)) (split_under (47 ∷ n ++ r) (47 ∷ m ++ a) u))
  where
    clash : (t : List ℕ) → 47 ∷ m ++ a ≡ (stem (47 ∷ n ++ r) ++ 47 ∷ []) ++ t → ⊥
    clash t split =
        let own = stem_long (47 ∷ n ++ r) (long_below n r some) in
        let whole : 47 ∷ m ++ a ≡ 47 ∷ n ++ (r ++ 47 ∷ t) =
        split ∙ ap (λ (w : List ℕ). (w ++ 47 ∷ []) ++ t) own ∙ append_assoc (47 ∷ n ++ r) (47 ∷ []) t ∙ append_assoc (47 ∷ n) r (47 ∷ t) in
        let less : walk_cmp (47 ∷ n ++ (r ++ 47 ∷ t)) (47 ∷ m ++ a) ≡ Less = below_decide n m (r ++ 47 ∷ t) a f e (led_more r (47 ∷ t) lr refl) la h in
        let tied = walk_cmp_self (47 ∷ m ++ a) in
        cc (sym tied ∙ ap (λ (w : List ℕ). walk_cmp w (47 ∷ m ++ a)) whole ∙ less)

pub begins_prefix : (s u v : List ℕ) → begins_with (s ++ u) (s ++ v) ≡ begins_with u v
begins_prefix [] u v = refl
begins_prefix (x ∷ xs) u v = let rest = begins_prefix xs u v in grind (arith, nat_tests)

-- ## What stays

pub keep_all : (test : Row → Bool) (xs ys : List Row) → Each (λ x. test x ≡ true) xs → filter test (xs ++ ys) ≡ xs ++ filter test ys
keep_all test [] ys h = refl
keep_all test (x ∷ xs) ys h = rw h.0 (ap (λ (zs : List Row). x ∷ zs) (keep_all test xs ys h.1))

keep_last : (test : Row → Bool) (xs ys : List Row) → Each (λ x. test x ≡ true) ys → filter test (xs ++ ys) ≡ filter test xs ++ ys
keep_last test xs ys h = filter-append test xs ys ∙ ap (λ (zs : List Row). filter test xs ++ zs) (all ys h)
  where
    all : (ys : List Row) → Each (λ x. test x ≡ true) ys → filter test ys ≡ ys
    all [] h = refl
    all (y ∷ ys) h = rw h.0 (ap (λ (zs : List Row). y ∷ zs) (all ys h.1))

pub outside_before : (p : List ℕ) (xs : List Row) → 0 < length p → Each (λ x. walk_cmp x.path p ≡ Less) xs → Each (λ x. not (is_at_or_under p x.path) ≡ true) xs
outside_before p [] some h = tt
outside_before p (x ∷ xs) some h = (rw (not_same_before p x.path h.0, not_under_before p x.path some h.0) refl, outside_before p xs some h.1)

pub outside_name : (m n r : List ℕ) (xs : List Row) → 0 < length n → has_slash m ≡ false → has_slash n ≡ false → IsLed r → slice_cmp nat_cmp n m ≡ Less
    → Each (λ x. IsFrom x.path) xs → Each (λ x. not (is_at_or_under (47 ∷ n ++ r) x.path) ≡ true) (map (below m) xs)
outside_name m n r [] some e f lr h l = tt
outside_name m n r (x ∷ xs) some e f lr h l = (
  rw (not_same_after (47 ∷ n ++ r) (47 ∷ m ++ x.path) (below_decide n m r x.path f e lr (led_from x.path l.0) h), other_under m n r x.path some e f lr (led_from x.path l.0) h) refl,
  outside_name m n r xs some e f lr h l.1,
)

-- ## What goes

begins_own : (s t : List ℕ) → begins_with (s ++ 47 ∷ []) (s ++ 47 ∷ t) ≡ true
begins_own [] t = refl
begins_own (x ∷ xs) t = let rest = begins_own xs t in grind (arith, nat_tests)

pub inside : (n a : List ℕ) → 0 < length n → IsFrom a → is_at_or_under (47 ∷ n ++ []) (47 ∷ n ++ a) ≡ true
inside n [] some h = rw (same_text_self (47 ∷ n ++ [])) refl
inside n (b ∷ bs) some h = by (same_text (47 ∷ n ++ []) (47 ∷ n ++ b ∷ bs))
  where
    under : is_under (47 ∷ n ++ []) (47 ∷ n ++ b ∷ bs) ≡ true
    under =
        rw (stem_long (47 ∷ n ++ []) (long_below n [] some), stem_long (47 ∷ n ++ b ∷ bs) (long_below n (b ∷ bs) some), append-nil n, h.0) (begins_own (47 ∷ n) bs)

    by : (z : Bool) → (z || is_under (47 ∷ n ++ []) (47 ∷ n ++ b ∷ bs)) ≡ true
    by true = refl
    by false = under

pub cut_all : (n : List ℕ) (xs : List Row) → 0 < length n → Each (λ x. IsFrom x.path) xs → without (47 ∷ n ++ []) (map (below n) xs) ≡ []
cut_all n [] some l = refl
cut_all n (x ∷ xs) some l = rw (inside n x.path some l.0) (cut_all n xs some l.1)

pub same_inside : (n r a : List ℕ) → 0 < length n → 1 < length r → IsFrom a → is_at_or_under (47 ∷ n ++ r) (47 ∷ n ++ a) ≡ is_at_or_under r a
same_inside n r a some long h =
    let under : is_under (47 ∷ n ++ r) (47 ∷ n ++ a) ≡ is_under r a =
    rw (stem_long (47 ∷ n ++ r) (long_below n r some), stem_long (47 ∷ n ++ a) (long_below n a some), stem_long r long, stem_from a h)
    (ap (λ (w : List ℕ). begins_with w (47 ∷ n ++ a)) (append_assoc (47 ∷ n) r (47 ∷ [])) ∙ begins_prefix (47 ∷ n) (r ++ 47 ∷ []) a) in
    rw (same_prefix (47 ∷ n) r a, under) refl

pub cut_below : (n r : List ℕ) (xs : List Row) → 0 < length n → 1 < length r → Each (λ x. IsFrom x.path) xs → without (47 ∷ n ++ r) (map (below n) xs) ≡ map (below n) (without r xs)
cut_below n r [] some long l = refl
cut_below n r (x ∷ xs) some long l = rw (same_inside n r x.path some long l.0, cut_below n r xs some long l.1) (by (is_at_or_under r x.path))
  where
    by : (z : Bool) → cond (not z) (below n x ∷ map (below n) (without r xs)) (map (below n) (without r xs)) ≡ map (below n) (cond (not z) (x ∷ without r xs) (without r xs))
    by true = refl
    by false = refl

module _ {K X : Type 0} (name : K → List ℕ) (rows : X → List Row) (n r : List ℕ) (some : 0 < length n) (plain : has_slash n ≡ false) (led : IsLed r) where
  pub cut_skips : Skips name rows n (without (47 ∷ n ++ r))
  cut_skips m v xs e l less =
      keep_all (λ x. not (is_at_or_under (47 ∷ n ++ r) x.path)) (map (below m) v) xs
      (outside_before (47 ∷ n ++ r) (map (below m) v) (omega arith) (earlier_name m n r v e plain led l less))

  pub cut_ends : Ends name rows n (without (47 ∷ n ++ r))
  cut_ends es xs b l = keep_last (λ x. not (is_at_or_under (47 ∷ n ++ r) x.path)) xs (grown name rows es) (outside es b l)
    where
      both : (P : Row → Type 0) (xs ys : List Row) → Each P xs → Each P ys → Each P (xs ++ ys)
      both P [] ys h g = g
      both P (x ∷ xs) ys h g = (h.0, both P xs ys h.1 g)

      outside : (es : List (K × X)) → AreBranches name rows es → AreLater name rows n es → Each (λ x. not (is_at_or_under (47 ∷ n ++ r) x.path) ≡ true) (grown name rows es)
      outside [] b l = tt
      outside (e ∷ es) b l =
          both (λ x. not (is_at_or_under (47 ∷ n ++ r) x.path) ≡ true) (map (below (name e.0)) (rows e.1)) (grown name rows es)
          (outside_name (name e.0) n r (rows e.1) some b.1 plain led l.0 (rows_from (rows e.1) b.2)) (outside es b.3 l.1)

  -- what stands at a path below a name goes
  pub cut_in : (es : List (K × X)) → AreBranches name rows es → AreInOrder name rows es → (v w : X) → 1 < length r → Each (λ x. IsFrom x.path) (rows v)
      → lookup (λ k. is_named n (name k)) es ≡ Some v → rows w ≡ without r (rows v)
      → without (47 ∷ n ++ r) (grown name rows es) ≡ grown name rows (set_value (λ k. is_named n (name k)) es w)
  cut_in es b o v w long from there made =
      edited name rows n (without (47 ∷ n ++ r)) cut_skips cut_ends es b o v w there
      (cut_below n r (rows v) some long from ∙ ap (map (below n)) (sym made))

-- the entry of a name goes
pub cut_entry : {K X : Type 0} (name : K → List ℕ) (rows : X → List Row) (n : List ℕ) → 0 < length n → has_slash n ≡ false
    → (es : List (K × X)) → AreBranches name rows es → AreInOrder name rows es → (v : X) → Each (λ x. IsFrom x.path) (rows v)
    → lookup (λ k. is_named n (name k)) es ≡ Some v → without (47 ∷ n ++ []) (grown name rows es) ≡ grown name rows (remove_entry (λ k. is_named n (name k)) es)
cut_entry name rows n some plain es b o v from there =
    removed name rows n (without (47 ∷ n ++ [])) (cut_skips name rows n [] some plain tt) (cut_ends name rows n [] some plain tt) es b o v there (cut_all n (rows v) some from)
