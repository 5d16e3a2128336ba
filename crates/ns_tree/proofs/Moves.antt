-- A subtree that moves: what was put to make room for it makes no difference.
use Rattle.std.proofs.Common.{◌≡◌, ℕ, ◌<◌, List, [], ◌∷◌, ◌++◌, length, map, filter, refl, sym, ◌∙◌, ap, arith, Bool, true, false, cond, Some, None, append-nil}
use Rattle.std.specs.Prelude.{not, ◌||◌}
use Rattle.std.specs.declared.cmp.Ordering.{Ordering}
use Rattle.std.specs.declared.cmp.Ordering.TheVariants.{Less, Equal, Greater}
use Rattle.std.specs.Ordering.{is_lt}
use Rattle.std.proofs.lemmas.Bool.{or_parts}
use Rattle.std.proofs.lemmas.List.Elements.{filter-append}
use Rattle.ns_tree.specs.declared.inode.Inode.{Inode}
use Rattle.ns_tree.specs.declared.inode.Row.{Row}
use Rattle.ns_tree.specs.Path.{walk_cmp, same_text, path_of_stem, is_under, is_at_or_under, moved_path}
use Rattle.ns_tree.specs.Space.{Each, pair, find, put, put_at, without, subtree, pairs_before, pairs_after, moved, renamed, has_under, IsInWalkOrder}
use Rattle.ns_tree.specs.Branches.{from_path, rooted}
use Rattle.ns_tree.proofs.Order.{walk_cmp_self, walk_cmp_exact, walk_cmp_total, same_text_is, same_text_self, turned, turned_less}
use Rattle.ns_tree.proofs.Walks.{before_less, after_less, each_imp}
use Rattle.ns_tree.proofs.Place.{before_kept, before_none, after_kept, after_none}
use Rattle.ns_tree.proofs.Tails.{drop_front}

-- ## Filters, one after the other

both_tests : (f g : Row → Bool) (xs : List Row) → filter f (filter g xs) ≡ filter g (filter f xs)
both_tests f g [] = refl
both_tests f g (x ∷ xs) = by (f x) refl (g x) refl (both_tests f g xs)
  where
    by : (a : Bool) → f x ≡ a → (b : Bool) → g x ≡ b → filter f (filter g xs) ≡ filter g (filter f xs)
        → filter f (cond b (x ∷ filter g xs) (filter g xs)) ≡ filter g (cond a (x ∷ filter f xs) (filter f xs))
    by true e true h rest = rw (e, h) (ap (λ (ys : List Row). x ∷ ys) rest)
    by true e false h rest = rw h rest
    by false e true h rest = rw e rest
    by false e false h rest = rest

-- a row that was put is neither before nor after its place
pub before_put : (p : List ℕ) (i : Inode) (xs : List Row) → pairs_before p (put p i xs) ≡ pairs_before p xs
before_put p i xs =
    filter-append _ (pairs_before p xs ++ pair p i ∷ []) (pairs_after p xs)
    ∙ ap (λ (ys : List Row). pairs_before p (pairs_before p xs ++ pair p i ∷ []) ++ ys) (before_none p (pairs_after p xs) (after_less p xs))
    ∙ append-nil (pairs_before p (pairs_before p xs ++ pair p i ∷ []))
    ∙ filter-append _ (pairs_before p xs) (pair p i ∷ [])
    ∙ ap (λ (ys : List Row). pairs_before p (pairs_before p xs) ++ ys) own
    ∙ append-nil (pairs_before p (pairs_before p xs))
    ∙ before_kept p (pairs_before p xs) (before_less p xs)
  where
    own : pairs_before p (pair p i ∷ []) ≡ []
    own = rw (walk_cmp_self p) refl

pub after_put : (p : List ℕ) (i : Inode) (xs : List Row) → pairs_after p (put p i xs) ≡ pairs_after p xs
after_put p i xs =
    filter-append _ (pairs_before p xs ++ pair p i ∷ []) (pairs_after p xs)
    ∙ ap (λ (ys : List Row). ys ++ pairs_after p (pairs_after p xs)) front
    ∙ after_kept p (pairs_after p xs) (after_less p xs)
  where
    own : pairs_after p (pair p i ∷ []) ≡ []
    own = rw (walk_cmp_self p) refl

    front : pairs_after p (pairs_before p xs ++ pair p i ∷ []) ≡ []
    front =
        filter-append _ (pairs_before p xs) (pair p i ∷ [])
        ∙ ap (λ (ys : List Row). ys ++ pairs_after p (pair p i ∷ [])) (after_none p (pairs_before p xs) (before_less p xs))
        ∙ own

-- what is put in its place, once a part has gone
pub place_put : (s p : List ℕ) (i : Inode) (new xs : List Row) → put_at p new (without s (put p i xs)) ≡ put_at p new (without s xs)
place_put s p i new xs = rw (before, after) refl
  where
    before : pairs_before p (without s (put p i xs)) ≡ pairs_before p (without s xs)
    before = both_tests _ _ (put p i xs) ∙ ap (without s) (before_put p i xs) ∙ both_tests _ _ xs

    after : pairs_after p (without s (put p i xs)) ≡ pairs_after p (without s xs)
    after = both_tests _ _ (put p i xs) ∙ ap (without s) (after_put p i xs) ∙ both_tests _ _ xs

-- rows in the order of a walk, parted by a path that is absent
pub parted : (p : List ℕ) (xs : List Row) → IsInWalkOrder xs → find p xs ≡ None → pairs_before p xs ++ pairs_after p xs ≡ xs
parted p [] o h = refl
parted p (x ∷ xs) o h = by (walk_cmp x.path p) refl (same_text p x.path) refl h (λ g. parted p xs o.1 g)
  where
    by : (c : Ordering) → walk_cmp x.path p ≡ c → (z : Bool) → same_text p x.path ≡ z → cond z (Some x.inode) (find p xs) ≡ None
        → (find p xs ≡ None → pairs_before p xs ++ pairs_after p xs ≡ xs) → pairs_before p (x ∷ xs) ++ pairs_after p (x ∷ xs) ≡ x ∷ xs
    by c is true same h go = absurd (cc h)
    by Less is false other h go = rw (is, turned_less x.path p is) (ap (λ (ys : List Row). x ∷ ys) (go h))
    by Equal is false other h go = absurd (cc (sym other ∙ ap (same_text p) (walk_cmp_exact x.path p is) ∙ same_text_self p))
    by Greater is false other h go =
        let later : Each (λ y. walk_cmp p y.path ≡ Less) xs =
        each_imp (λ y. walk_cmp x.path y.path ≡ Less) (λ y. walk_cmp p y.path ≡ Less) xs (λ y less. walk_cmp_total.trans p x.path y.path (turned x.path p is) less) o.0 in
        rw (is, turned x.path p is, before_none p xs later) (ap (λ (ys : List Row). x ∷ ys) (after_kept p xs later))

pub part_put : (s p : List ℕ) (i : Inode) (xs : List Row) → IsInWalkOrder xs → find p xs ≡ None → is_at_or_under s p ≡ false → subtree s (put p i xs) ≡ subtree s xs
part_put s p i xs o absent apart =
    filter-append _ (pairs_before p xs ++ pair p i ∷ []) (pairs_after p xs)
    ∙ ap (λ (ys : List Row). ys ++ subtree s (pairs_after p xs)) front
    ∙ sym (filter-append _ (pairs_before p xs) (pairs_after p xs))
    ∙ ap (subtree s) (parted p xs o absent)
  where
    own : subtree s (pair p i ∷ []) ≡ []
    own = rw apart refl

    front : subtree s (pairs_before p xs ++ pair p i ∷ []) ≡ subtree s (pairs_before p xs)
    front =
        filter-append _ (pairs_before p xs) (pair p i ∷ [])
        ∙ ap (λ (ys : List Row). subtree s (pairs_before p xs) ++ ys) own
        ∙ append-nil (subtree s (pairs_before p xs))

-- room that was made makes no difference
pub renamed_put : (s p : List ℕ) (i : Inode) (xs : List Row) → IsInWalkOrder xs → find p xs ≡ None → is_at_or_under s p ≡ false → renamed s p (put p i xs) ≡ renamed s p xs
renamed_put s p i xs o absent apart =
    ap (λ (ys : List Row). put_at p (map (λ x. pair (moved_path s p x.path) x.inode) ys) (without s (put p i xs))) (part_put s p i xs o absent apart)
    ∙ place_put s p i (moved s p xs) xs

-- ## What stood in the place goes

pub under_filter : (p : List ℕ) (test : Row → Bool) (xs : List Row) → has_under p xs ≡ false → has_under p (filter test xs) ≡ false
under_filter p test [] h = refl
under_filter p test (x ∷ xs) h =
    let parts : (is_under p x.path ≡ false) × (has_under p xs ≡ false) = or_parts (is_under p x.path) (has_under p xs) h in
    by parts.0 (test x) (under_filter p test xs parts.1)
  where
    by : is_under p x.path ≡ false → (b : Bool) → has_under p (filter test xs) ≡ false → has_under p (cond b (x ∷ filter test xs) (filter test xs)) ≡ false
    by off true rest = rw off rest
    by off false rest = rest

-- a test that the row of a path fails, over rows of which none is under the path
pub alone_gone : (p : List ℕ) (test : Row → Bool) (xs : List Row) → has_under p xs ≡ false → ((x : Row) → x.path ≡ p → test x ≡ false) → filter test (without p xs) ≡ filter test xs
alone_gone p test [] h off = refl
alone_gone p test (x ∷ xs) h off =
    let parts : (is_under p x.path ≡ false) × (has_under p xs ≡ false) = or_parts (is_under p x.path) (has_under p xs) h in
    by (same_text p x.path) refl (is_under p x.path) parts.0 (test x) refl (alone_gone p test xs parts.1 off)
  where
    by : (a : Bool) → same_text p x.path ≡ a → (b : Bool) → b ≡ false → (t : Bool) → test x ≡ t → filter test (without p xs) ≡ filter test xs
        → filter test (cond (not (a || b)) (x ∷ without p xs) (without p xs)) ≡ cond t (x ∷ filter test xs) (filter test xs)
    by a e true f t is rest = absurd (cc f)
    by true e false f true is rest = absurd (cc (sym is ∙ off x (sym (same_text_is p x.path e))))
    by true e false f false is rest = rest
    by false e false f true is rest = rw is (ap (λ (ys : List Row). x ∷ ys) rest)
    by false e false f false is rest = rw is rest

pub place_alone : (p : List ℕ) (new xs : List Row) → has_under p xs ≡ false → put_at p new (without p xs) ≡ put_at p new xs
place_alone p new xs h = rw (before, after) refl
  where
    before : pairs_before p (without p xs) ≡ pairs_before p xs
    before = alone_gone p _ xs h (λ x at. ap (λ (w : List ℕ). is_lt (walk_cmp w p)) at ∙ ap is_lt (walk_cmp_self p))

    after : pairs_after p (without p xs) ≡ pairs_after p xs
    after = alone_gone p _ xs h (λ x at. ap (λ (w : List ℕ). is_lt (walk_cmp p w)) at ∙ ap is_lt (walk_cmp_self p))

-- ## A branch that moves

path_long : (p a : List ℕ) → 0 < length p → path_of_stem (p ++ a) ≡ p ++ a
path_long [] a h = absurd (omega arith)
path_long (b ∷ bs) a h = refl

pub rooted_path : (p : List ℕ) (xs : List Row) → 0 < length p → rooted (map (from_path p) xs) ≡ map (from_path p) xs
rooted_path p [] h = refl
rooted_path p (x ∷ xs) h =
    ap (λ (w : List ℕ). pair w x.inode ∷ rooted (map (from_path p) xs)) (path_long p x.path h)
    ∙ ap (λ (ys : List Row). pair (p ++ x.path) x.inode ∷ ys) (rooted_path p xs h)

pub moved_branch : (s p : List ℕ) (xs : List Row) → map (λ x. pair (moved_path s p x.path) x.inode) (map (from_path s) xs) ≡ map (from_path p) xs
moved_branch s p [] = refl
moved_branch s p (x ∷ xs) =
    ap (λ (w : List ℕ). pair (p ++ w) x.inode ∷ map (λ y. pair (moved_path s p y.path) y.inode) (map (from_path s) xs)) (drop_front s x.path)
    ∙ ap (λ (ys : List Row). pair (p ++ x.path) x.inode ∷ ys) (moved_branch s p xs)
