-- One level of a branch: what is found and left there, by the entry of a path's first name.
use Rattle.std.proofs.Common.{
  ◌≡◌,
  ◌==◌,
  ℕ,
  ◌<◌,
  List,
  [],
  ◌∷◌,
  ◌++◌,
  length,
  map,
  refl,
  sym,
  ◌∙◌,
  ap,
  subst,
  arith,
  Bool,
  true,
  false,
  Option,
  Some,
  None,
  append_assoc,
  append-nil,
  length-append,
}
use Rattle.std.proofs.lemmas.List.{length-map}
use Rattle.std.specs.Prelude.{IsSome, IfNone, cond, ◌+◌, ◌≤◌}
use Rattle.std.specs.Map.{lookup, set_value, remove_entry}
use Rattle.std.specs.BTreeMap.{BTreeMap, insert_entry}
use Rattle.std.specs.Ordering.{nat_cmp}
use Rattle.std.specs.Cmp.Lexicographic.{slice_cmp}
use Rattle.std.proofs.lemmas.Bool.Decides.{nat_tests}
use Rattle.ns_tree.specs.declared.inode.Inode.{Inode}
use Rattle.ns_tree.specs.declared.inode.Row.{Row}
use Rattle.ns_tree.specs.Path.{has_slash, before_last_slash}
use Rattle.ns_tree.specs.Space.{pair, find, is_dir, is_dir_there, without, subtree, put, put_at, change_at}
use Rattle.ns_tree.specs.Branches.{IsLed, IsFrom, IsBranch, below, from_path, is_named, grown, AreBranches, found_in}
use Rattle.ns_tree.proofs.Below.{led_more, rows_from, in_order}
use Rattle.ns_tree.proofs.BelowEdits.{some_same, edited, kept_set, kept_remove, kept_insert}
use Rattle.ns_tree.proofs.BelowParts.{entry_from, from_found}
use Rattle.ns_tree.proofs.Branched.{branch, AreSorted, find_in, change_own, change_entry, change_none}
use Rattle.ns_tree.proofs.Tails.{last_slash_later}
use Rattle.ns_tree.proofs.BranchedParts.{at_own, at_entry, settle_entry, cut_rest, cut_own, make_entry, make_own}

-- ## Empty texts

pub is_nil : (p : List ℕ) → (length p == 0) ≡ true → p ≡ []
is_nil [] e = refl
is_nil (b ∷ bs) e = absurd (grind (arith, nat_tests, e))

pub not_nil : (p : List ℕ) → (length p == 0) ≡ false → 0 < length p
not_nil [] e = absurd (cc e)
not_nil (b ∷ bs) e = omega arith

pub long_from : (p : List ℕ) → IsFrom p → (length p == 0) ≡ false → 1 < length p
long_from [] f e = absurd (cc e)
long_from (b ∷ bs) f e = omega (arith, f.1)

-- ## At the branch itself

module _ {K X : Type 0} (name : K → List ℕ) (rows : X → List Row) (i : Inode) (es : List (K × X)) (now : List Row) (view : branch name rows i es ≡ now) (p : List ℕ) (empty : p ≡ []) where
  pub own_found : Some i ≡ find p now
  own_found = ap (λ (xs : List Row). find [] xs) view ∙ ap (λ (w : List ℕ). find w now) (sym empty)

  pub own_changed : (f : Inode → Inode) (j : Inode) → j ≡ f i → branch name rows j es ≡ change_at p f now
  own_changed f j made =
      ap (λ (k : Inode). branch name rows k es) made ∙ sym (change_own name rows i f es) ∙ ap (change_at [] f) view ∙ ap (λ (w : List ℕ). change_at w f now) (sym empty)

module _ {K X : Type 0} (name : K → List ℕ) (rows : X → List Row) (i : Inode) (es : List (K × X)) (now : List Row) (view : branch name rows i es ≡ now)
    (b : AreBranches name rows es) (o : AreSorted name rows i es) (p n : List ℕ) (empty : p ≡ []) (plain : has_slash n ≡ false) where
  own_absent : find (p ++ 47 ∷ n) now ≡ None → lookup (λ k. is_named n (name k)) es ≡ None
  own_absent h = by (lookup (λ k. is_named n (name k)) es) refl
    where
      whole : found_in name rows [] (lookup (λ k. is_named n (name k)) es) ≡ None
      whole =
          find_in name rows i (47 ∷ n) n [] es (ap (λ (u : List ℕ). 47 ∷ u) (sym (append-nil n))) plain tt b o
          ∙ ap (λ (xs : List Row). find (47 ∷ n) xs) view ∙ ap (λ (w : List ℕ). find (w ++ 47 ∷ n) now) (sym empty) ∙ h

      first : (xs : List Row) → IsBranch xs → find [] xs ≡ None → ⊥
      first xs is none = cc (sym (ap (λ (ys : List Row). find [] ys) is.2) ∙ none)

      by : (v : Option X) → lookup (λ k. is_named n (name k)) es ≡ v → lookup (λ k. is_named n (name k)) es ≡ None
      by None is = is
      by (Some v) is = absurd (first (rows v) (entry_from name rows n es b v is).1 (sym (ap (found_in name rows []) is) ∙ whole))

  module _ (absent : find (p ++ 47 ∷ n) now ≡ None) (k : K) (w : X) (zs : List (K × X)) (named : name k ≡ n)
      (inserted : zs ≡ insert_entry (λ x y. slice_cmp nat_cmp (name x) (name y)) es k w) where
    pub own_kept : 0 < length n → IsBranch (rows w) → AreBranches name rows zs
    own_kept some is =
        subst (λ (ys : List (K × X)). AreBranches name rows ys) (sym inserted)
        (kept_insert name rows (λ x y. slice_cmp nat_cmp (name x) (name y)) es k w b (subst (λ (u : List ℕ). 0 < length u) (sym named) some) (ap has_slash named ∙ plain) is)

    pub own_made : (f : Inode → Inode) (j l : Inode) → l ≡ f i → rows w ≡ pair [] j ∷ [] → branch name rows l zs ≡ change_at p f (put (p ++ 47 ∷ n) j now)
    own_made f j l raised made =
        ap (λ (m : Inode). branch name rows m zs) raised
        ∙ ap (branch name rows (f i)) inserted
        ∙ sym (make_own name rows i n f j es plain b o k w named (own_absent absent) made)
        ∙ ap (λ (xs : List Row). change_at [] f (put (47 ∷ n) j xs)) view
        ∙ ap (λ (u : List ℕ). change_at u f (put (u ++ 47 ∷ n) j now)) (sym empty)

-- ## At the entry of a name

none_off : (u : Option Inode) → u ≡ None → IsSome u → ⊥
none_off None e h = cc h
none_off (Some j) e h = cc e

entry_fits : {K X : Type 0} (name : K → List ℕ) (rows : X → List Row) (n : List ℕ) (es : List (K × X)) (v : X)
    → lookup (λ k. is_named n (name k)) es ≡ Some v → length (rows v) ≤ length (grown name rows es)
entry_fits name rows n [] v there = absurd (cc there)
entry_fits {X = X} name rows n (e ∷ es) v there = by (is_named n (name e.0)) there (λ th. entry_fits name rows n es v th)
  where
    sizes : length (grown name rows (e ∷ es)) ≡ length (rows e.1) + length (grown name rows es)
    sizes = omega (arith, length-append (map (below (name e.0)) (rows e.1)) (grown name rows es), length-map (rows e.1) (below (name e.0)))

    by : (z : Bool) → cond z (Some e.1) (lookup (λ k. is_named n (name k)) es) ≡ Some v
        → (lookup (λ k. is_named n (name k)) es ≡ Some v → length (rows v) ≤ length (grown name rows es)) → length (rows v) ≤ length (grown name rows (e ∷ es))
    by true th more = let same : length (rows e.1) ≡ length (rows v) = ap (λ (w : X). length (rows w)) (some_same e.1 v th) in omega (arith, sizes, same)
    by false th more = omega (arith, sizes, more th)

pub none_then : {A P Q : Type 0} (u : Option A) → (P → Q) → IfNone u P → IfNone u Q
none_then None f h = f h
none_then (Some x) f h = tt

pub entries_same : {K X : Type 0} (m n : BTreeMap K X) → m ≡ n → m.entries ≡ n.entries
entries_same {K} {X} m n e = ap (λ (q : BTreeMap K X). q.entries) e

module _ {K X : Type 0} (name : K → List ℕ) (rows : X → List Row) (i : Inode) (es : List (K × X)) (now : List Row) (view : branch name rows i es ≡ now)
    (b : AreBranches name rows es) (o : AreSorted name rows i es) (p n r : List ℕ) (is : p ≡ 47 ∷ n ++ r) (plain : has_slash n ≡ false) (led : IsLed r) where
  whole : found_in name rows r (lookup (λ k. is_named n (name k)) es) ≡ find p now
  whole = find_in name rows i p n r es is plain led b o ∙ ap (find p) view

  pub none_found : lookup (λ k. is_named n (name k)) es ≡ None → find p now ≡ None
  none_found h = sym (sym (ap (found_in name rows r) h) ∙ whole)

  pub none_there : lookup (λ k. is_named n (name k)) es ≡ None → IsSome (find p now) → ⊥
  none_there h there = none_off (find p now) (none_found h) there

  pub none_changed : (f : Inode → Inode) (zs : List (K × X)) → lookup (λ k. is_named n (name k)) es ≡ None → zs ≡ es → branch name rows i zs ≡ change_at p f now
  none_changed f zs h same = ap (branch name rows i) same ∙ sym (change_none name rows i p n r f es is plain led b o h) ∙ ap (change_at p f) view

  module _ (v : X) (there : lookup (λ k. is_named n (name k)) es ≡ Some v) where
    pub entry_at : find r (rows v) ≡ find p now
    entry_at = ap (found_in name rows r) (sym there) ∙ whole

    pub entry_some : IsSome (find p now) → IsSome (find r (rows v))
    entry_some h = subst (λ (u : Option Inode). IsSome u) (sym entry_at) h

    -- an entry has fewer rows than its branch
    pub entry_small : length (rows v) < length now
    entry_small = subst (λ (xs : List Row). length (rows v) < length xs) view (omega (arith, entry_fits name rows n es v there))

    pub entry_path : IsSome (find p now) → IsFrom r
    entry_path h = from_found r (rows v) (rows_from (rows v) (entry_from name rows n es b v there).1) (entry_some h)

    pub entry_part : (part : List Row) → IsFrom r → subtree r (rows v) ≡ map (from_path r) part → subtree p now ≡ map (from_path p) part
    entry_part part f inner = ap (subtree p) (sym view) ∙ at_entry name rows i p n r es is plain led b o v there part f inner

    pub path_from : IsFrom p
    path_from = subst IsFrom (sym is) (named n (entry_from name rows n es b v there).0)
      where
        named : (m : List ℕ) → 0 < length m → IsFrom (47 ∷ m ++ r)
        named [] some = absurd (omega arith)
        named (c ∷ cs) some = (refl, omega arith)

    -- what is absent below the path is absent below the entry
    pub entry_absent : (q : List ℕ) → IsLed q → find (p ++ q) now ≡ None → find (r ++ q) (rows v) ≡ None
    entry_absent q lq h =
        ap (found_in name rows (r ++ q)) (sym there)
        ∙ find_in name rows i (p ++ q) n (r ++ q) es (ap (λ (u : List ℕ). u ++ q) is ∙ append_assoc (47 ∷ n) r q) plain (led_more r q led lq) b o
        ∙ ap (find (p ++ q)) view ∙ h

    module _ (w : X) (zs : List (K × X)) (written : zs ≡ set_value (λ k. is_named n (name k)) es w) where
      pub entry_kept : IsBranch (rows w) → AreBranches name rows zs
      entry_kept h = subst (λ (ys : List (K × X)). AreBranches name rows ys) (sym written) (kept_set name rows (λ k. is_named n (name k)) es w b h)

      pub entry_changed : (f : Inode → Inode) → rows w ≡ change_at r f (rows v) → branch name rows i zs ≡ change_at p f now
      entry_changed f made = ap (branch name rows i) written ∙ sym (change_entry name rows i p n r f es is plain led b o v w there made) ∙ ap (change_at p f) view

      -- nothing has changed in the entry
      pub entry_same : rows w ≡ rows v → branch name rows i zs ≡ now
      entry_same same =
          ap (branch name rows i) written
          ∙ ap (λ (ys : List Row). pair [] i ∷ ys) (sym (edited name rows n (λ xs. xs) (λ m u xs e l less. refl) (λ ys xs c l. refl) es b (in_order name rows es o) v w there (ap (map (below n)) (sym
          same))))
          ∙ view

      pub entry_cut : 1 < length r → rows w ≡ without r (rows v) → branch name rows i zs ≡ without p now
      entry_cut long made = ap (branch name rows i) written ∙ sym (cut_rest name rows i p n r es is plain led b o v there w long made) ∙ ap (without p) view

      pub entry_settled : (new : List Row) → IsFrom r → rows w ≡ put_at r (map (from_path r) new) (without r (rows v))
          → branch name rows i zs ≡ put_at p (map (from_path p) new) (without p now)
      entry_settled new f made =
          ap (branch name rows i) written ∙ sym (settle_entry name rows i p n r es is plain led b o v there new w f made)
          ∙ ap (λ (xs : List Row). put_at p (map (from_path p) new) (without p xs)) view

      pub entry_made : (q : List ℕ) (f : Inode → Inode) (j : Inode) → IsLed q → rows w ≡ change_at r f (put (r ++ q) j (rows v))
          → branch name rows i zs ≡ change_at p f (put (p ++ q) j now)
      entry_made q f j lq made =
          ap (branch name rows i) written ∙ sym (make_entry name rows i p n r es is plain led b o v there q f j w lq made)
          ∙ ap (λ (xs : List Row). change_at p f (put (p ++ q) j xs)) view

    -- ## The entry goes

    module _ (last : r ≡ []) where
      pub entry_whole : subtree p now ≡ map (from_path p) (rows v)
      entry_whole =
          entry_part (rows v) (subst IsFrom (sym last) tt)
          (ap (λ (u : List ℕ). subtree u (rows v)) last ∙ at_own (rows v) (entry_from name rows n es b v there).1 ∙ ap (λ (u : List ℕ). map (from_path u) (rows v)) (sym last))

      pub entry_gone : (zs : List (K × X)) → zs ≡ remove_entry (λ k. is_named n (name k)) es → branch name rows i zs ≡ without p now
      entry_gone zs removed =
          ap (branch name rows i) removed
          ∙ sym (cut_own name rows i p n es (is ∙ ap (λ (u : List ℕ). 47 ∷ n ++ u) last) plain b o v there)
          ∙ ap (without p) view

  pub gone_kept : (zs : List (K × X)) → zs ≡ remove_entry (λ k. is_named n (name k)) es → AreBranches name rows zs
  gone_kept zs removed = subst (λ (ys : List (K × X)). AreBranches name rows ys) (sym removed) (kept_remove name rows (λ k. is_named n (name k)) es b)

-- ## Right above a path

above_first : (n r : List ℕ) → has_slash n ≡ false → r ≡ [] → before_last_slash (47 ∷ n ++ r) ≡ []
above_first n r plain last = rw (last, append-nil n, plain) refl

led_slash : (r : List ℕ) → IsLed r → 0 < length r → has_slash r ≡ true
led_slash [] l h = absurd (omega arith)
led_slash (b ∷ bs) l h = let slash : b ≡ 47 = l in rw slash refl

led_above : (r : List ℕ) → IsLed r → IsLed (before_last_slash r)
led_above [] l = tt
led_above (b ∷ bs) l = by (has_slash bs)
  where
    by : (z : Bool) → IsLed (cond z (b ∷ before_last_slash bs) [])
    by true = l
    by false = tt

module _ {K X : Type 0} (name : K → List ℕ) (rows : X → List Row) (i : Inode) (es : List (K × X)) (now : List Row) (view : branch name rows i es ≡ now)
    (b : AreBranches name rows es) (o : AreSorted name rows i es) (p n r : List ℕ) (is : p ≡ 47 ∷ n ++ r) (plain : has_slash n ≡ false) (led : IsLed r) where
  pub look_own : r ≡ [] → is_dir i ≡ is_dir_there (find (before_last_slash p) now)
  look_own last = ap is_dir_there (own_found name rows i es now view (before_last_slash p) (ap before_last_slash is ∙ above_first n r plain last))

  module _ (more : 0 < length r) where
    above : before_last_slash p ≡ 47 ∷ n ++ before_last_slash r
    above = ap before_last_slash is ∙ last_slash_later (47 ∷ n) r (led_slash r led more)

    pub look_none : lookup (λ k. is_named n (name k)) es ≡ None → false ≡ is_dir_there (find (before_last_slash p) now)
    look_none h = sym (ap is_dir_there (none_found name rows i es now view b o (before_last_slash p) n (before_last_slash r) above plain (led_above r led) h))

    pub look_entry : (v : X) → lookup (λ k. is_named n (name k)) es ≡ Some v → is_dir_there (find (before_last_slash r) (rows v)) ≡ is_dir_there (find (before_last_slash p) now)
    look_entry v there = ap is_dir_there (entry_at name rows i es now view b o (before_last_slash p) n (before_last_slash r) above plain (led_above r led) v there)
