-- What holds of every namespace is kept by each change of its pairs.
use Rattle.std.proofs.Common.{◌≡◌, ℕ, ◌≤◌, List, [], ◌∷◌, length, Bool, true, false, cond, refl, sym, ap, ◌∙◌, Option, Some, None, IsSome, subst}
use Rattle.std.proofs.Common.{Result, Ok, Err, OnOk, OnErr}
use Rattle.std.specs.Prelude.{nat_lt, ◌^◌}
use Rattle.ns_tree.specs.declared.inode.Inode.{Inode}
use Rattle.ns_tree.specs.declared.inode.Inode.TheVariants.{Dir, File}
use Rattle.ns_tree.specs.declared.inode.Noted.{Noted}
use Rattle.ns_tree.specs.declared.inode.Row.{Row}
use Rattle.ns_tree.specs.Path.{same_text, is_path, is_root, parent_of}
use Rattle.ns_tree.specs.Space.{Space, pair, is_dir, is_dir_there, find, put, without, raise, raised, Each, IsInWalkOrder, IsInode, IsPair}
use Rattle.ns_tree.specs.Places.{set_at, IsTree}
use Rattle.ns_tree.proofs.Order.{same_text_is}
use Rattle.ns_tree.proofs.Walks.{order_put, order_without, order_change}
use Rattle.ns_tree.proofs.Finds.{changed, find_change}
use Rattle.ns_tree.proofs.Pairs.{AreKept, kept_change, kept_put, kept_without}
use Rattle.ns_tree.proofs.Parents.{root_path}

pub pairs_of : (s : Space) → IsTree s → AreKept s.pairs
pairs_of s h = record { pairs = h.pairs; root = h.root }

-- other pairs under the same retry list
pub sound_pairs : (s : Space) (xs : List Row) → IsTree s → IsInWalkOrder xs → AreKept xs → IsTree (record s { pairs = xs })
sound_pairs s xs h order k = record { ordered = order; pairs = k.pairs; root = k.root; few = h.few; rising = h.rising; distinct = h.distinct }

-- ## Paths of a namespace
-- the root is there
pub no_root : (s : Space) (p : List ℕ) → IsTree s → find p s.pairs ≡ None → is_root p ≡ false
no_root s p h absent = by (is_root p) refl
  where
    by : (b : Bool) → is_root p ≡ b → is_root p ≡ false
    by true e = absurd (cc (sym (ap is_dir_there (ap (λ (q : List ℕ). find q s.pairs) (sym (same_text_is p root_path e)) ∙ absent)) ∙ h.root))
    by false e = e

-- pairs and calls, as they are held
abbrev pub space : List Row → List Noted → Space
space pairs calls = record { pairs = pairs; calls = calls }

-- a namespace whose pairs have changed
pub space_made : (s : Space) (rows new : List Row) (calls : List Noted) (f : List Row → List Row) → space rows calls ≡ s → new ≡ f rows → space new calls ≡ record s { pairs = f s.pairs }
space_made s rows new calls f view made = ap (λ (xs : List Row). space xs calls) made ∙ ap (λ (t : Space). record t { pairs = f t.pairs }) view

-- a change that is made or fails
pub kept_result : {T E : Type 0} (P : List Row → Type 0) (r : Result T E) (new old made : List Row) → OnOk r (new ≡ made) → OnErr r (new ≡ old) → P made → P old → P new
kept_result P (Ok x) new old made ok err m o = subst P (sym ok) m
kept_result P (Err y) new old made ok err m o = subst P (sym err) o

-- ## Changes
pub sound_put : (s : Space) (p : List ℕ) (inode : Inode) → IsTree s → is_path p ≡ true → length p ≤ 1000 → IsInode inode → find p s.pairs ≡ None
    → is_dir_there (find (parent_of p) s.pairs) ≡ true → IsTree (record s { pairs = put p inode s.pairs })
sound_put s p inode h path short good absent parent =
    sound_pairs s (put p inode s.pairs) h (order_put p inode s.pairs h.ordered) (kept_put p inode s.pairs path (no_root s p h absent) short good absent parent (pairs_of s h))

pub sound_without : (s : Space) (p : List ℕ) → IsTree s → is_path p ≡ true → is_root p ≡ false → IsTree (record s { pairs = without p s.pairs })
sound_without s p h path not_root =
    sound_pairs s (without p s.pairs) h (order_without p s.pairs h.ordered) (kept_without p s.pairs path not_root (pairs_of s h))

pub raised_dir : (t : ℕ) (i : Inode) → is_dir (raised t i) ≡ is_dir i
raised_dir t (Dir m p u g n s) = refl
raised_dir t (File r m a b p u g ls c) = refl

raised_good : (t : ℕ) → t ≤ 2 ^ 62 → (i : Inode) → IsInode i → IsInode (raised t i)
raised_good t le (Dir m p u g n s) h = (by (nat_lt m t), h.1, h.2, h.3, h.4, h.5)
  where
    by : (b : Bool) → cond b t m ≤ 2 ^ 62
    by true = le
    by false = h.0
raised_good t le (File r m a b p u g ls c) h = h

pub sound_raise : (s : Space) (p : List ℕ) (t : ℕ) → IsTree s → t ≤ 2 ^ 62 → IsTree (record s { pairs = raise p t s.pairs })
sound_raise s p t h le =
    sound_pairs s (raise p t s.pairs) h (order_change p (raised t) s.pairs h.ordered) (kept_change p (raised t) s.pairs (raised_dir t) (raised_good t le) (pairs_of s h))

-- another inode of the same kind
pub sound_set : (s : Space) (p : List ℕ) (inode : Inode) (i : Inode) → IsTree s → IsInode inode → find p s.pairs ≡ Some i → is_dir inode ≡ is_dir i
    → IsTree (record s { pairs = set_at p inode s.pairs })
sound_set s p inode i h good found kind =
    sound_pairs s (set_at p inode s.pairs) h (order_change p (λ _. inode) s.pairs h.ordered) (record { pairs = rows s.pairs h.pairs; root = there root_path ∙ h.root })
  where
    there_by : (q : List ℕ) (b : Bool) → same_text p q ≡ b → is_dir_there (changed b (λ _. inode) (find q s.pairs)) ≡ is_dir_there (find q s.pairs)
    there_by q true e =
        let at : find q s.pairs ≡ Some i = ap (λ (w : List ℕ). find w s.pairs) (sym (same_text_is p q e)) ∙ found in
        rw at kind
    there_by q false e = same (find q s.pairs)
      where
        same : (o : Option Inode) → is_dir_there (changed false (λ _. inode) o) ≡ is_dir_there o
        same None = refl
        same (Some x) = refl

    there : (q : List ℕ) → is_dir_there (find q (set_at p inode s.pairs)) ≡ is_dir_there (find q s.pairs)
    there q = ap is_dir_there (find_change p q (λ _. inode) s.pairs) ∙ there_by q (same_text p q) refl

    row : (x : Row) → IsPair s.pairs x → (z : Bool) → IsPair (set_at p inode s.pairs) (cond z (pair x.path inode) x)
    row x g true = record { path = g.path; short = g.short; inode = good; parent = there (parent_of x.path) ∙ g.parent }
    row x g false = record { path = g.path; short = g.short; inode = g.inode; parent = there (parent_of x.path) ∙ g.parent }

    rows : (ys : List Row) → Each (IsPair s.pairs) ys → Each (IsPair (set_at p inode s.pairs)) (set_at p inode ys)
    rows [] g = tt
    rows (y ∷ ys) g = (row y g.0 (same_text p y.path), rows ys g.1)

-- what is found is one of the pairs
pub found_pair : (P : Row → Type 0) (p : List ℕ) (xs : List Row) (i : Inode) → Each P xs → find p xs ≡ Some i → P (pair p i)
found_pair P p [] i e h = absurd (cc h)
found_pair P p (x ∷ xs) i e h = by (same_text p x.path) refl h (λ g. found_pair P p xs i e.1 g)
  where
    by : (z : Bool) → same_text p x.path ≡ z → cond z (Some x.inode) (find p xs) ≡ Some i → (find p xs ≡ Some i → P (pair p i)) → P (pair p i)
    by true is h go =
        let inode : x.inode ≡ i = cc h in
        subst (λ (j : Inode). P (pair p j)) inode (subst (λ (w : List ℕ). P (pair w x.inode)) (sym (same_text_is p x.path is)) e.0)
    by false is h go = go h

-- what is found has a path within its grammar
pub there_path : (s : Space) (p : List ℕ) → IsTree s → IsSome (find p s.pairs) → is_path p ≡ true
there_path s p h there = by (find p s.pairs) refl there
  where
    by : (o : Option Inode) → find p s.pairs ≡ o → IsSome o → is_path p ≡ true
    by None is t = absurd (cc t)
    by (Some i) is t = (found_pair (IsPair s.pairs) p s.pairs i h.pairs is).path

-- another inode of the same kind, where something is
pub sound_there : (s : Space) (p : List ℕ) (inode : Inode) → IsTree s → IsInode inode → IsSome (find p s.pairs) → is_dir inode ≡ is_dir_there (find p s.pairs)
    → IsTree (record s { pairs = set_at p inode s.pairs })
sound_there s p inode h good there kind = by (find p s.pairs) refl there kind
  where
    by : (o : Option Inode) → find p s.pairs ≡ o → IsSome o → is_dir inode ≡ is_dir_there o → IsTree (record s { pairs = set_at p inode s.pairs })
    by None is t k = absurd (cc t)
    by (Some i) is t k = sound_set s p inode i h good is k
