-- A row that comes after the last one is put at the end.
use Rattle.std.proofs.Common.{◌≡◌, ℕ, ◌<◌, ◌≤◌, List, [], ◌∷◌, length, true, refl, sym, subst, arith, None, ◌++◌, append-nil}
use Rattle.std.specs.declared.cmp.Ordering.TheVariants.{Less}
use Rattle.std.specs.List.{insert}
use Rattle.std.proofs.lemmas.List.{take_all, drop_all}
use Rattle.ns_tree.specs.declared.inode.Inode.{Inode}
use Rattle.ns_tree.specs.declared.inode.Row.{Row}
use Rattle.ns_tree.specs.Path.{walk_cmp, is_path}
use Rattle.ns_tree.specs.Space.{Space, pair, find, put, is_dir_there, Each, IsInWalkOrder, IsInode}
use Rattle.ns_tree.specs.Places.{IsGapFor, IsTree}
use Rattle.ns_tree.specs.Last.{last_path, is_after_last, has_parent}
use Rattle.ns_tree.proofs.Order.{walk_cmp_total, not_same_before}
use Rattle.ns_tree.proofs.Walks.{is_less}
use Rattle.ns_tree.proofs.Place.{put_gap, find_gap, before_kept, after_none}
use Rattle.ns_tree.proofs.Sound.{sound_put}

-- the root is there
pub some_rows : (s : Space) → IsTree s → 0 < length s.pairs
some_rows s h = by s.pairs h.root
  where
    by : (xs : List Row) → is_dir_there (find (47 ∷ []) xs) ≡ true → 0 < length xs
    by [] e = absurd cc
    by (x ∷ xs) e = omega arith

-- a walk comes to every row before a path that comes after the last
pub all_before : (p : List ℕ) (xs : List Row) → IsInWalkOrder xs → walk_cmp (last_path xs) p ≡ Less → Each (λ x. walk_cmp x.path p ≡ Less) xs
all_before p [] h e = tt
all_before p (x ∷ []) h e = (e, tt)
all_before p (x ∷ y ∷ xs) h e =
    let rest : Each (λ z. walk_cmp z.path p ≡ Less) (y ∷ xs) = all_before p (y ∷ xs) h.1 e in
    (walk_cmp_total.trans x.path y.path p h.0.0 rest.0, rest)

pub gap_at_end : (p : List ℕ) (xs : List Row) → IsInWalkOrder xs → is_after_last p xs ≡ true → IsGapFor xs p (length xs)
gap_at_end p xs h e =
    record {
      in_range = omega arith;
      below = subst (λ (ys : List Row). Each (λ x. walk_cmp x.path p ≡ Less) ys) (sym (take_all (length xs) xs (omega arith))) (all_before p xs h (is_less (walk_cmp (last_path xs) p) e));
      above = subst (λ (ys : List Row). Each (λ x. walk_cmp p x.path ≡ Less) ys) (sym (drop_all (length xs) xs (omega arith))) tt;
    }

-- what holds of every namespace goes on holding
pub sound_append : (s : Space) (x : Row) → IsTree s → is_path x.path ≡ true → length x.path ≤ 1000 → IsInode x.inode → is_after_last x.path s.pairs ≡ true → has_parent x.path s.pairs ≡ true
    → IsTree (record s { pairs = insert s.pairs (length s.pairs) x })
sound_append s x h path short inode last parent =
    let gap : IsGapFor s.pairs x.path (length s.pairs) = gap_at_end x.path s.pairs h.ordered last in
    subst (λ (ys : List Row). IsTree (record s { pairs = ys })) (put_gap s.pairs x.path (length s.pairs) x.inode gap)
    (sound_put s x.path x.inode h path short inode (find_gap s.pairs x.path (length s.pairs) gap) parent)

-- it is absent, and put at the end
find_before : (p : List ℕ) (xs : List Row) → Each (λ x. walk_cmp x.path p ≡ Less) xs → find p xs ≡ None
find_before p [] h = refl
find_before p (x ∷ xs) h = rw (not_same_before p x.path h.0) (find_before p xs h.1)

pub append_absent : (p : List ℕ) (xs : List Row) → IsInWalkOrder xs → is_after_last p xs ≡ true → find p xs ≡ None
append_absent p xs o e = find_before p xs (all_before p xs o (is_less (walk_cmp (last_path xs) p) e))

pub append_put : (p : List ℕ) (i : Inode) (xs : List Row) → IsInWalkOrder xs → is_after_last p xs ≡ true → put p i xs ≡ xs ++ pair p i ∷ []
append_put p i xs o e =
    let before = all_before p xs o (is_less (walk_cmp (last_path xs) p) e) in
    rw (before_kept p xs before, after_none p xs before) (append-nil (xs ++ pair p i ∷ []))
