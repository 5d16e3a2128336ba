-- A tree: its root's branch by whole paths, and how many rows it has.
use Rattle.std.proofs.Common.{◌≡◌, ◌==◌, ℕ, suc, ◌<◌, ◌+◌, List, [], ◌∷◌, ◌++◌, length, map, filter, drop, refl, sym, ◌∙◌, ap, subst, arith}
use Rattle.std.proofs.Common.{Bool, true, false, cond, Some, None, append_assoc, length-append, add-one, get_or, ◌&&◌}
use Rattle.std.specs.Prelude.{not}
use Rattle.std.specs.declared.cmp.Ordering.{Ordering}
use Rattle.std.specs.declared.cmp.Ordering.TheVariants.{Less, Equal, Greater}
use Rattle.std.specs.Ordering.{is_lt}
use Rattle.std.proofs.lemmas.List.{length-map}
use Rattle.std.proofs.lemmas.Bool.{and_parts}
use Rattle.std.proofs.lemmas.Bool.Decides.{nat_tests}
use Rattle.ns_tree.specs.declared.inode.Inode.{Inode}
use Rattle.ns_tree.specs.declared.inode.Row.{Row}
use Rattle.ns_tree.specs.Path.{walk_cmp, same_text, has_slash, stem, before_last_slash, parent_of, path_of_stem, are_components, is_path, is_at_or_under, moved_path}
use Rattle.ns_tree.specs.Space.{Each, pair, find, change_at, put, put_at, without, subtree, pairs_before, pairs_after, moved, renamed, has_under}
use Rattle.ns_tree.specs.Branches.{IsLed, IsFrom, from_path, is_relative, rooted}
use Rattle.ns_tree.proofs.Order.{walk_cmp_exact, same_text_self, turned, turned_less}
use Rattle.ns_tree.proofs.Parents.{Below, slash_after, stem_same}
use Rattle.ns_tree.proofs.Tails.{begins_split, components_split}
use Rattle.ns_tree.proofs.Walks.{each_append, each_filter}
use Rattle.ns_tree.proofs.Finds.{find_dropped}
use Rattle.ns_tree.proofs.Moves.{place_alone, under_filter, rooted_path, moved_branch}
use Rattle.ns_tree.proofs.Rooted.{IsUnled, find_rooted, change_rooted, put_rooted, without_rooted, sub_rooted}

-- ## The last name of a path

abbrev pub last_name : List ℕ → List ℕ
last_name q = drop (length (before_last_slash q) + 1) q

pub last_split : (q : List ℕ) → has_slash q ≡ true → q ≡ before_last_slash q ++ 47 ∷ last_name q
last_split q e =
    let size : length (before_last_slash q ++ 47 ∷ []) ≡ length (before_last_slash q) + 1 = length-append (before_last_slash q) (47 ∷ []) in
    begins_split (before_last_slash q ++ 47 ∷ []) q (slash_after q e)
    ∙ append_assoc (before_last_slash q) (47 ∷ []) (drop (length (before_last_slash q ++ 47 ∷ [])) q)
    ∙ ap (λ (k : ℕ). before_last_slash q ++ 47 ∷ drop k q) size

drop_more : (n b : ℕ) (bs : List ℕ) → drop (suc n + 1) (b ∷ bs) ≡ drop (n + 1) bs
drop_more n b bs = rw (add-one, add-one) refl

pub last_plain : (q : List ℕ) → has_slash q ≡ true → has_slash (last_name q) ≡ false
last_plain [] e = absurd (cc e)
last_plain (b ∷ bs) e = by (has_slash bs) refl (λ h. last_plain bs h)
  where
    by : (z : Bool) → has_slash bs ≡ z → (has_slash bs ≡ true → has_slash (last_name bs) ≡ false)
        → has_slash (drop (length (cond z (b ∷ before_last_slash bs) []) + 1) (b ∷ bs)) ≡ false
    by true is go = ap has_slash (drop_more (length (before_last_slash bs)) b bs) ∙ go is
    by false is go = is

name_some : (u : List ℕ) → are_components [] u ≡ true → 0 < length u
name_some [] e = absurd (cc e)
name_some (b ∷ bs) e = omega arith

-- the last name of a path other than the root's is not empty
pub last_some : (q : List ℕ) → is_path q ≡ true → Below q → 0 < length (last_name q)
last_some [] path b = absurd (cc path)
last_some (c ∷ []) path b = absurd (let sizes : length (c ∷ []) ≡ length (b.first ∷ b.second ∷ b.rest) = ap (λ (l : List ℕ). length l) b.is in omega (arith, sizes))
last_some (c ∷ d ∷ ds) path b = by (before_last_slash (c ∷ d ∷ ds)) refl
  where
    parts : are_components [] (d ∷ ds) ≡ true
    parts = (and_parts (c == 47) (are_components [] (d ∷ ds)) path).1

    whole : c ∷ d ∷ ds ≡ before_last_slash (c ∷ d ∷ ds) ++ 47 ∷ last_name (c ∷ d ∷ ds)
    whole = last_split (c ∷ d ∷ ds) b.slash

    tail : List ℕ → List ℕ
    tail [] = []
    tail (x ∷ xs) = xs

    by : (w : List ℕ) → before_last_slash (c ∷ d ∷ ds) ≡ w → 0 < length (last_name (c ∷ d ∷ ds))
    by [] is =
        let rest : d ∷ ds ≡ last_name (c ∷ d ∷ ds) = ap tail (whole ∙ ap (λ (v : List ℕ). v ++ 47 ∷ last_name (c ∷ d ∷ ds)) is) in
        subst (λ (v : List ℕ). 0 < length v) rest (omega arith)
    by (x ∷ w) is =
        let rest : d ∷ ds ≡ w ++ 47 ∷ last_name (c ∷ d ∷ ds) = ap tail (whole ∙ ap (λ (v : List ℕ). v ++ 47 ∷ last_name (c ∷ d ∷ ds)) is) in
        let both : (are_components [] w && are_components [] (last_name (c ∷ d ∷ ds))) ≡ true =
        sym (components_split [] w (last_name (c ∷ d ∷ ds))) ∙ ap (are_components []) (sym rest) ∙ parts in
        name_some (last_name (c ∷ d ∷ ds)) (and_parts (are_components [] w) (are_components [] (last_name (c ∷ d ∷ ds))) both).1

-- ## How many rows there are

pub change_count : (p : List ℕ) (f : Inode → Inode) (xs : List Row) → length (change_at p f xs) ≡ length xs
change_count p f xs = length-map xs (λ x. cond (same_text p x.path) (pair x.path (f x.inode)) x)

-- rows that are put where none was
pub place_count : (p : List ℕ) (new xs : List Row) → find p xs ≡ None → length (put_at p new xs) ≡ length xs + length new
place_count p new xs absent =
    let all = sides xs absent in
    let ends = length-append (pairs_before p xs ++ new) (pairs_after p xs) in
    let start = length-append (pairs_before p xs) new in
    omega (arith, all, ends, start)
  where
    side : (x : Row) → same_text p x.path ≡ false → (o : Ordering) → walk_cmp x.path p ≡ o → (before after : List Row)
        → length (cond (is_lt (walk_cmp x.path p)) (x ∷ before) before) + length (cond (is_lt (walk_cmp p x.path)) (x ∷ after) after) ≡ length before + length after + 1
    side x other Less is before after = rw (is, turned_less x.path p is) (omega arith)
    side x other Equal is before after =
        absurd (cc (sym other ∙ ap (same_text p) (walk_cmp_exact x.path p is) ∙ same_text_self p))
    side x other Greater is before after = rw (is, turned x.path p is) (omega arith)

    sides : (xs : List Row) → find p xs ≡ None → length (pairs_before p xs) + length (pairs_after p xs) ≡ length xs
    sides [] absent = refl
    sides (x ∷ xs) absent = by (same_text p x.path) refl absent (λ h. sides xs h)
      where
        by : (z : Bool) → same_text p x.path ≡ z → cond z (Some x.inode) (find p xs) ≡ None
            → (find p xs ≡ None → length (pairs_before p xs) + length (pairs_after p xs) ≡ length xs)
            → length (pairs_before p (x ∷ xs)) + length (pairs_after p (x ∷ xs)) ≡ length (x ∷ xs)
        by true is h go = absurd (cc h)
        by false is h go = let rest = go h in let one = side x is (walk_cmp x.path p) refl (pairs_before p xs) (pairs_after p xs) in omega (arith, rest, one)

-- what goes and what stays
pub parted_count : (test : Row → Bool) (xs : List Row) → length (filter test xs) + length (filter (λ x. not (test x)) xs) ≡ length xs
parted_count test [] = refl
parted_count test (x ∷ xs) = by (test x) (parted_count test xs)
  where
    by : (z : Bool) → length (filter test xs) + length (filter (λ y. not (test y)) xs) ≡ length xs
        → length (cond z (x ∷ filter test xs) (filter test xs)) + length (cond (not z) (x ∷ filter (λ y. not (test y)) xs) (filter (λ y. not (test y)) xs)) ≡ length (x ∷ xs)
    by true rest = omega (arith, rest)
    by false rest = omega (arith, rest)

pub without_count : (p : List ℕ) (part xs : List Row) → subtree p xs ≡ map (from_path p) part → length (without p xs) + length part ≡ length xs
without_count p part xs is =
    let all = parted_count (λ x. is_at_or_under p x.path) xs in
    let same : length (subtree p xs) ≡ length part = ap (λ (ys : List Row). length ys) is ∙ length-map part (from_path p) in
    omega (arith, all, same)

-- ## Paths from the root

abbrev pub IsRooted : List ℕ → Type 0
IsRooted p = (0 < length p) × IsLed p

pub relative_none : (p : List ℕ) → (length p == 0) ≡ true → is_relative p ≡ true
relative_none [] e = refl
relative_none (b ∷ bs) e = absurd (grind (arith, nat_tests, e))

pub relative_first : (p : List ℕ) → (length p == 0) ≡ false → not (get_or p 0 0 == 47) ≡ is_relative p
relative_first [] e = absurd (cc e)
relative_first (b ∷ bs) e = refl

pub unled : (p : List ℕ) → is_relative p ≡ true → IsUnled p
unled [] e = tt
unled (b ∷ bs) e = by (b == 47) e
  where
    by : (z : Bool) → not z ≡ true → z ≡ false
    by true h = absurd (cc h)
    by false h = refl

pub rooted_path_of : (p : List ℕ) → is_relative p ≡ false → IsRooted p
rooted_path_of [] e = absurd (cc e)
rooted_path_of (b ∷ bs) e = (omega arith, let s : (b == 47) ≡ true = by (b == 47) e in grind (arith, nat_tests, s))
  where
    by : (z : Bool) → not z ≡ false → z ≡ true
    by true h = refl
    by false h = absurd (cc h)

pub path_rooted : (p : List ℕ) → is_path p ≡ true → IsRooted p
path_rooted [] e = absurd (cc e)
path_rooted (b ∷ []) e = (omega arith, let s : (b == 47) ≡ true = e in grind (arith, nat_tests, s))
path_rooted (b ∷ c ∷ cs) e = (omega arith, let s : (b == 47) ≡ true = (and_parts (b == 47) (are_components [] (c ∷ cs)) e).0 in grind (arith, nat_tests, s))

pub path_from : (p : List ℕ) → is_path p ≡ true → Below p → IsFrom p
path_from [] e b = tt
path_from (c ∷ []) e b = absurd (let sizes : length (c ∷ []) ≡ length (b.first ∷ b.second ∷ b.rest) = ap (λ (l : List ℕ). length l) b.is in omega (arith, sizes))
path_from (c ∷ d ∷ ds) e b = ((path_rooted (c ∷ d ∷ ds) e).1, omega arith)

pub path_stays : (p : List ℕ) → 0 < length p → path_of_stem p ≡ p
path_stays [] h = absurd (omega arith)
path_stays (b ∷ bs) h = refl

pub parent_rooted : (q : List ℕ) → is_path q ≡ true → Below q → IsLed (before_last_slash q) → IsRooted (parent_of q)
parent_rooted q path b led = by (before_last_slash q) led
  where
    by : (w : List ℕ) → IsLed w → IsRooted (path_of_stem w)
    by [] l = (omega arith, refl)
    by (x ∷ xs) l = (omega arith, l)

-- the parent of a path, by the text up to its last `/`
pub above : (q : List ℕ) → is_path q ≡ true → Below q → (stem (parent_of q) ≡ before_last_slash q) × IsLed (before_last_slash q)
above [] path b = absurd (cc path)
above (c ∷ []) path b = absurd (let sizes : length (c ∷ []) ≡ length (b.first ∷ b.second ∷ b.rest) = ap (λ (l : List ℕ). length l) b.is in omega (arith, sizes))
above (c ∷ d ∷ ds) path b = by (before_last_slash (c ∷ d ∷ ds)) (last_split (c ∷ d ∷ ds) b.slash)
  where
    parts : ((c == 47) ≡ true) × (are_components [] (d ∷ ds) ≡ true)
    parts = and_parts (c == 47) (are_components [] (d ∷ ds)) path

    tail : List ℕ → List ℕ
    tail [] = []
    tail (x ∷ xs) = xs

    first : List ℕ → ℕ
    first [] = 47
    first (x ∷ xs) = x

    by : (w : List ℕ) → c ∷ d ∷ ds ≡ w ++ 47 ∷ last_name (c ∷ d ∷ ds) → (stem (path_of_stem w) ≡ w) × IsLed w
    by [] whole = (refl, tt)
    by (x ∷ []) whole =
        let rest : d ∷ ds ≡ 47 ∷ last_name (c ∷ d ∷ ds) = ap tail whole in
        absurd (cc (sym parts.1 ∙ ap (are_components []) rest))
    by (x ∷ y ∷ w) whole =
        let same : c ≡ x = ap first whole in
        let slash : c ≡ 47 = (let s : (c == 47) ≡ true = parts.0 in grind (arith, nat_tests, s)) in
        (refl, sym same ∙ slash)

pub from_put : (p : List ℕ) (new xs : List Row) → Each (λ x. IsFrom x.path) new → Each (λ x. IsFrom x.path) xs → Each (λ x. IsFrom x.path) (put_at p new xs)
from_put p new xs a l =
    each_append (λ x. IsFrom x.path) (pairs_before p xs ++ new) (pairs_after p xs)
    (each_append (λ x. IsFrom x.path) (pairs_before p xs) new (each_filter (λ x. IsFrom x.path) _ xs l) a) (each_filter (λ x. IsFrom x.path) _ xs l)

-- a row is put, and its directory's inode changes
pub put_all : (q : List ℕ) → is_path q ≡ true → Below q → (i : Inode) (f : Inode → Inode) (xs : List Row) → Each (λ x. IsFrom x.path) xs
    → change_at (parent_of q) f (put q i (rooted xs)) ≡ rooted (change_at (before_last_slash q) f (put q i xs))
put_all q path b i f xs e =
    let up = above q path b in
    let whole = path_rooted q path in
    let up_rooted = parent_rooted q path b up.1 in
    ap (λ (w : List ℕ). change_at (parent_of q) f (put_at q (pair w i ∷ []) (rooted xs))) (sym (path_stays q whole.0))
    ∙ ap (change_at (parent_of q) f) (put_rooted q whole.0 whole.1 (pair q i ∷ []) xs e)
    ∙ ap (λ (w : List ℕ). change_at (parent_of q) f (rooted (put_at w (pair q i ∷ []) xs))) (stem_same q b)
    ∙ change_rooted (parent_of q) up_rooted.0 up_rooted.1 f (put q i xs) (from_put q (pair q i ∷ []) xs (path_from q path b, tt) e)
    ∙ ap (λ (w : List ℕ). rooted (change_at w f (put q i xs))) up.0

pub found_below : (q : List ℕ) → is_path q ≡ true → Below q → (xs : List Row) → Each (λ x. IsFrom x.path) xs → find q (rooted xs) ≡ find q xs
found_below q path b xs e = let whole = path_rooted q path in find_rooted q whole.0 whole.1 xs e ∙ ap (λ (w : List ℕ). find w xs) (stem_same q b)

pub found_above : (q : List ℕ) → is_path q ≡ true → Below q → (xs : List Row) → Each (λ x. IsFrom x.path) xs → find (parent_of q) (rooted xs) ≡ find (before_last_slash q) xs
found_above q path b xs e =
    let up = above q path b in
    let whole = parent_rooted q path b up.1 in
    find_rooted (parent_of q) whole.0 whole.1 xs e ∙ ap (λ (w : List ℕ). find w xs) up.0

pub without_below_root : (q : List ℕ) → is_path q ≡ true → Below q → (xs : List Row) → Each (λ x. IsFrom x.path) xs → without q (rooted xs) ≡ rooted (without q xs)
without_below_root q path b xs e = let whole = path_rooted q path in without_rooted q whole.0 whole.1 xs e ∙ ap (λ (w : List ℕ). rooted (without w xs)) (stem_same q b)

-- ## A branch that moves

module _ (s p : List ℕ) (s_path : is_path s ≡ true) (p_path : is_path p ≡ true) (s_below : Below s) (p_below : Below p) (xs : List Row) (e : Each (λ x. IsFrom x.path) xs)
    (part old : List Row) (cut : subtree s xs ≡ map (from_path s) part) where
  abbrev left : List Row
  left = without s xs

  left_from : Each (λ x. IsFrom x.path) left
  left_from = each_filter (λ x. IsFrom x.path) _ xs e

  moved_part : moved s p (rooted xs) ≡ map (from_path p) part
  moved_part =
      let whole = path_rooted s s_path in
      ap (map (λ (x : Row). pair (moved_path s p x.path) x.inode))
      (sub_rooted s whole.0 whole.1 xs e ∙ ap (λ (w : List ℕ). rooted (subtree w xs)) (stem_same s s_below) ∙ ap rooted cut ∙ rooted_path s part whole.0)
      ∙ moved_branch s p part

  pub moved_all : has_under p (rooted xs) ≡ false → rooted (put_at p (map (from_path p) part) (without p left)) ≡ renamed s p (rooted xs)
  moved_all alone =
      let whole = path_rooted p p_path in
      ap (λ (w : List ℕ). rooted (put_at w (map (from_path p) part) (without p left))) (sym (stem_same p p_below))
      ∙ sym (put_rooted p whole.0 whole.1 (map (from_path p) part) (without p left) (each_filter (λ x. IsFrom x.path) _ left left_from))
      ∙ ap (λ (ys : List Row). put_at p ys (rooted (without p left))) (rooted_path p part whole.0)
      ∙ ap (put_at p (map (from_path p) part)) (sym (without_below_root p p_path p_below left left_from) ∙ ap (without p) (sym (without_below_root s s_path s_below xs e)))
      ∙ place_alone p (map (from_path p) part) (without s (rooted xs)) (under_filter p _ (rooted xs) alone)
      ∙ ap (λ (ys : List Row). put_at p ys (without s (rooted xs))) (sym moved_part)

  pub moved_count : subtree p left ≡ map (from_path p) old → length (put_at p (map (from_path p) part) (without p left)) + length old ≡ length xs
  moved_count taken =
      let gone = without_count s part xs cut in
      let room = without_count p old left taken in
      let put = place_count p (map (from_path p) part) (without p left) absent in
      let same = length-map part (from_path p) in
      omega (arith, gone, room, put, same)
    where
      absent : find p (without p left) ≡ None
      absent = find_dropped p (λ x. not (is_at_or_under p x.path)) left (λ x at. ap (λ (w : List ℕ). not (is_at_or_under p w)) at ∙ rw (same_text_self p) refl)
