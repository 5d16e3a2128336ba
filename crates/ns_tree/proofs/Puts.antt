-- A row that is put into a tree: where it stands, and how the tree is then.
use Rattle.std.proofs.Common.{◌≡◌, ◌≢◌, ℕ, ◌<◌, ◌≤◌, ◌+◌, List, [], ◌∷◌, ◌++◌, length, drop, refl, sym, ◌∙◌, ap, subst, arith, Bool, true, false, cond, Option, Some, None, length-append}
use Rattle.std.specs.Prelude.{IsSome, nat_lt}
use Rattle.std.proofs.Common.{Result, OnOk}
use Rattle.std.proofs.lemmas.Bool.{or_parts}
use Rattle.std.proofs.lemmas.Bool.Decides.{nat_tests}
use Rattle.std.proofs.lemmas.Result.{on_ok_weaker}
use Rattle.ns_tree.specs.declared.inode.Inode.{Inode}
use Rattle.ns_tree.specs.declared.inode.Inode.TheVariants.{Dir, File}
use Rattle.ns_tree.specs.declared.inode.Row.{Row}
use Rattle.ns_tree.specs.Path.{same_text, has_slash, stem, before_last_slash, parent_of, is_path, is_root, is_under, is_at_or_under}
use Rattle.ns_tree.specs.Space.{Each, IsInWalkOrder, pair, find, is_dir_there, change_at, put, raise, raised, renamed, has_under, pairs_before, pairs_after}
use Rattle.ns_tree.specs.Branches.{IsLed, IsFrom, IsBranch, rooted}
use Rattle.ns_tree.proofs.Order.{same_text_is, same_text_self}
use Rattle.ns_tree.proofs.UnderPaths.{not_under_self}
use Rattle.ns_tree.proofs.Finds.{find_put_same, find_put_other}
use Rattle.ns_tree.proofs.Ancestors.{dir_some}
use Rattle.ns_tree.proofs.Parents.{Below}
use Rattle.ns_tree.proofs.Moves.{under_filter, renamed_put}
use Rattle.ns_tree.proofs.Rooted.{find_rooted}
use Rattle.ns_tree.proofs.Treed.{last_name, last_split, last_plain, last_some, above, parent_rooted, found_below, put_all, change_count, place_count}

-- ## The root

pub some_branch : (xs : List Row) → IsBranch xs → 0 < length xs
some_branch xs b = subst (λ (ys : List Row). 0 < length ys) (sym b.2) (omega arith)

pub not_root : (q : List ℕ) (xs : List Row) → IsBranch xs → find q (rooted xs) ≡ None → is_root q ≡ false
not_root q xs b absent = by (is_root q) refl
  where
    by : (z : Bool) → is_root q ≡ z → is_root q ≡ false
    by true e = absurd (cc (sym absent ∙ ap (λ (w : List ℕ). find w (rooted xs)) (same_text_is q (47 ∷ []) e) ∙ ap (λ (ys : List Row). find (47 ∷ []) (rooted ys)) b.2))
    by false e = e

-- ## A row of a new path

module _ (q : List ℕ) (path : is_path q ≡ true) (b : Below q) (xs : List Row) (e : Each (λ x. IsFrom x.path) xs) (a n : List ℕ) (at : a ≡ stem (parent_of q))
    (named : n ≡ drop (length a + 1) q) where
  up : (stem (parent_of q) ≡ before_last_slash q) × IsLed (before_last_slash q)
  up = above q path b

  at_front : a ≡ before_last_slash q
  at_front = at ∙ up.0

  is_last : n ≡ last_name q
  is_last = named ∙ ap (λ (w : List ℕ). drop (length w + 1) q) at_front

  put_whole : a ++ 47 ∷ n ≡ q
  put_whole = ap (λ (w : List ℕ). w ++ 47 ∷ n) at_front ∙ ap (λ (w : List ℕ). before_last_slash q ++ 47 ∷ w) is_last ∙ sym (last_split q b.slash)

  pub put_fits : length a + 1 ≤ length q
  put_fits =
      let sizes = length-append a (47 ∷ n) in
      let whole : length (a ++ 47 ∷ n) ≡ length q = ap (λ (w : List ℕ). length w) put_whole in
      omega (arith, sizes, whole)

  pub put_some : 0 < length n
  put_some = subst (λ (w : List ℕ). 0 < length w) (sym is_last) (last_some q path b)

  pub put_plain : has_slash n ≡ false
  put_plain = ap has_slash is_last ∙ last_plain q b.slash

  pub put_there : is_dir_there (find (parent_of q) (rooted xs)) ≡ true → IsSome (find a xs)
  put_there h =
      let whole = parent_rooted q path b up.1 in
      subst (λ (o : Option Inode). IsSome o) (find_rooted (parent_of q) whole.0 whole.1 xs e ∙ ap (λ (w : List ℕ). find w xs) (sym at)) (dir_some (find (parent_of q) (rooted xs)) h)

  pub put_absent : find q (rooted xs) ≡ None → find (a ++ 47 ∷ n) xs ≡ None
  put_absent h = ap (λ (w : List ℕ). find w xs) put_whole ∙ sym (found_below q path b xs e) ∙ h

  pub put_rows : (f : Inode → Inode) (i : Inode) → rooted (change_at a f (put (a ++ 47 ∷ n) i xs)) ≡ change_at (parent_of q) f (put q i (rooted xs))
  put_rows f i =
      ap (λ (w : List ℕ). rooted (change_at a f (put w i xs))) put_whole
      ∙ ap (λ (w : List ℕ). rooted (change_at w f (put q i xs))) at_front
      ∙ sym (put_all q path b i f xs e)

  pub put_count : find q (rooted xs) ≡ None → (f : Inode → Inode) (i : Inode) → length (change_at a f (put (a ++ 47 ∷ n) i xs)) ≡ length xs + 1
  put_count h f i = change_count a f (put (a ++ 47 ∷ n) i xs) ∙ place_count (a ++ 47 ∷ n) (pair (a ++ 47 ∷ n) i ∷ []) xs (put_absent h)

-- ## An mtime that is raised to 0

raised_none : (i : Inode) → raised 0 i ≡ i
raised_none (Dir m p u g n s) = ap (λ (k : ℕ). Dir k p u g n s) (by m)
  where
    by : (m : ℕ) → cond (nat_lt m 0) 0 m ≡ m
    by m = let off : nat_lt m 0 ≡ false = grind (arith, nat_tests) in rw off refl
raised_none (File r m a b p u g ls c) = refl

pub raise_none : (p : List ℕ) (xs : List Row) → raise p 0 xs ≡ xs
raise_none p [] = refl
raise_none p (x ∷ xs) = by (same_text p x.path) (raise_none p xs)
  where
    by : (z : Bool) → raise p 0 xs ≡ xs → cond z (pair x.path (raised 0 x.inode)) x ∷ raise p 0 xs ≡ x ∷ xs
    by true rest = ap (λ (i : Inode). pair x.path i ∷ raise p 0 xs) (raised_none x.inode) ∙ ap (λ (ys : List Row). x ∷ ys) rest
    by false rest = ap (λ (ys : List Row). x ∷ ys) rest

-- ## Room for what comes to a path

alone_parts : (p : List ℕ) (xs ys : List Row) → has_under p xs ≡ false → has_under p ys ≡ false → has_under p (xs ++ ys) ≡ false
alone_parts p [] ys a b = b
alone_parts p (x ∷ xs) ys a b =
    let parts : (is_under p x.path ≡ false) × (has_under p xs ≡ false) = or_parts (is_under p x.path) (has_under p xs) a in
    rw parts.0 (alone_parts p xs ys parts.1 b)

alone_put : (p : List ℕ) (i : Inode) (xs : List Row) → 0 < length p → has_under p xs ≡ false → has_under p (put p i xs) ≡ false
alone_put p i xs some h =
    alone_parts p (pairs_before p xs ++ pair p i ∷ []) (pairs_after p xs)
    (alone_parts p (pairs_before p xs) (pair p i ∷ []) (under_filter p _ xs h) own) (under_filter p _ xs h)
  where
    own : has_under p (pair p i ∷ []) ≡ false
    own = rw (not_under_self p some) refl

-- an inode that is put at time 0
pub room_put : {T E : Type 0} (r : Result T E) (p q : List ℕ) (i : Inode) (old now : List Row) → OnOk r (now ≡ raise q 0 (put p i old)) → OnOk r (find p old ≡ None → (j : Inode) × (now ≡ put p j old))
room_put r p q i old now h = on_ok_weaker r (λ made absent. (i, made ∙ raise_none q (put p i old))) h

module _ (s p : List ℕ) (old now : List Row) (kept : IsSome (find p old) → now ≡ old) (made : find p old ≡ None → (i : Inode) × (now ≡ put p i old)) where
  there : (i : Inode) → find p old ≡ Some i → IsSome (find p old)
  there i is = subst (λ (o : Option Inode). IsSome o) (sym is) refl

  pub room_made : IsSome (find p now)
  room_made = by (find p old) refl
    where
      by : (o : Option Inode) → find p old ≡ o → IsSome (find p now)
      by None is = let m = made is in subst (λ (ys : List Row). IsSome (find p ys)) (sym m.1) (subst (λ (o : Option Inode). IsSome o) (sym (find_put_same p m.0 old)) refl)
      by (Some i) is = subst (λ (ys : List Row). IsSome (find p ys)) (sym (kept (there i is))) (there i is)

  pub room_source : is_at_or_under s p ≡ false → IsSome (find s old) → IsSome (find s now)
  room_source apart h = by (find p old) refl
    where
      other : p ≢ s
      other is = let self : is_at_or_under s s ≡ true = rw (same_text_self s) refl in cc (sym apart ∙ ap (is_at_or_under s) is ∙ self)

      by : (o : Option Inode) → find p old ≡ o → IsSome (find s now)
      by None is = let m = made is in subst (λ (ys : List Row). IsSome (find s ys)) (sym m.1) (subst (λ (o : Option Inode). IsSome o) (sym (find_put_other p s m.0 old other)) h)
      by (Some i) is = subst (λ (ys : List Row). IsSome (find s ys)) (sym (kept (there i is))) h

  pub room_alone : 0 < length p → has_under p old ≡ false → has_under p now ≡ false
  room_alone some h = by (find p old) refl
    where
      by : (o : Option Inode) → find p old ≡ o → has_under p now ≡ false
      by None is = let m = made is in ap (has_under p) m.1 ∙ alone_put p m.0 old some h
      by (Some i) is = ap (has_under p) (kept (there i is)) ∙ h

  pub room_renamed : IsInWalkOrder old → is_at_or_under s p ≡ false → renamed s p now ≡ renamed s p old
  room_renamed o apart = by (find p old) refl
    where
      by : (u : Option Inode) → find p old ≡ u → renamed s p now ≡ renamed s p old
      by None is = let m = made is in ap (renamed s p) m.1 ∙ renamed_put s p m.0 old o is apart
      by (Some i) is = ap (renamed s p) (kept (there i is))
