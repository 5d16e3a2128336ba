-- Above what is there stand directories that are there: a walk to it from the root meets nothing
-- that refuses.
use Rattle.std.proofs.Common.{◌≡◌, ℕ, zero, suc, ◌<◌, ◌≤◌, List, [], ◌∷◌, ◌++◌, length, Bool, true, false, cond, refl, sym, ap, ◌∙◌, append_assoc, append-nil, Option, Some, None, arith, ◌==◌, ◌&&◌}
use Rattle.std.specs.Prelude.{is_some, ◌||◌, not}
use Rattle.ns_tree.specs.declared.inode.Inode.{Inode}
use Rattle.ns_tree.specs.declared.inode.Row.{Row}
use Rattle.ns_tree.specs.Path.{same_text, stem, path_of_stem, has_slash, before_last_slash, parent_of, is_path, is_root}
use Rattle.ns_tree.specs.Space.{Space, is_dir_there, find, Each, IsPair}
use Rattle.ns_tree.specs.Places.{IsTree}
use Rattle.ns_tree.proofs.Order.{same_text_is}
use Rattle.ns_tree.proofs.Parents.{Below, below_root, stem_same, shorter}
use Rattle.ns_tree.proofs.Ancestors.{dir_some, found_parent}
use Rattle.ns_edits.specs.declared.refusal.AdmitRefusal.{AdmitRefusal}
use Rattle.ns_edits.specs.declared.refusal.AdmitRefusal.TheVariants.{BadName}
use Rattle.ns_edits.specs.Admit.{Refusal, first, refused_if, bad_path, ancestor, ancestors}

pub good_path : (p : List ℕ) → None ≡ bad_path p → is_path p ≡ true
good_path p e = by (is_path p) refl e
  where
    by : (z : Bool) → is_path p ≡ z → None ≡ refused_if (not z) BadName → is_path p ≡ true
    by true is h = is
    by false is h = absurd (cc h)

-- ## Walks
both_none : (a b : Refusal) → a ≡ None → b ≡ None → first (a ∷ b ∷ []) ≡ None
both_none a b e f = rw (e, f) refl

each_none : (a b : Refusal) → first (a ∷ b ∷ []) ≡ None → (a ≡ None) × (b ≡ None)
each_none None None e = (refl, refl)
each_none None (Some r) e = absurd (cc e)
each_none (Some q) b e = absurd (cc e)

dir_passes : (r : AdmitRefusal) (o : Option Inode) → is_dir_there o ≡ true → ancestor r o ≡ None
dir_passes r None e = absurd (cc e)
dir_passes r (Some i) e = rw e refl

no_walk : (r : AdmitRefusal) (xs : List Row) (so_far p : List ℕ) → has_slash p ≡ false → ancestors r xs so_far p ≡ None
no_walk r xs so_far [] e = refl
no_walk r xs so_far (b ∷ bs) e = by (b == 47) (has_slash bs) refl refl e (λ f. no_walk r xs (so_far ++ b ∷ []) bs f)
  where
    by : (c d : Bool) → (b == 47) ≡ c → has_slash bs ≡ d → (c || d) ≡ false → (has_slash bs ≡ false → ancestors r xs (so_far ++ b ∷ []) bs ≡ None)
        → cond c (first (ancestor r (find (path_of_stem so_far) xs) ∷ ancestors r xs (so_far ++ b ∷ []) bs ∷ [])) (ancestors r xs (so_far ++ b ∷ []) bs) ≡ None
    by true d e f g go = absurd (cc g)
    by false true e f g go = absurd (cc g)
    by false false e f g go = go f

-- a walk to a path is a walk to its directory, and the directory
walk_last : (r : AdmitRefusal) (xs : List Row) (so_far p : List ℕ) → has_slash p ≡ true → ancestors r xs so_far (before_last_slash p) ≡ None
    → ancestor r (find (path_of_stem (so_far ++ before_last_slash p)) xs) ≡ None → ancestors r xs so_far p ≡ None
walk_last r xs so_far [] s e f = absurd (cc s)
walk_last r xs so_far (b ∷ bs) s e f = by (b == 47) (has_slash bs) refl refl s e f (λ t g h. walk_last r xs (so_far ++ b ∷ []) bs t g h)
  where
    by : (c d : Bool) → (b == 47) ≡ c → has_slash bs ≡ d → (c || d) ≡ true
        → ancestors r xs so_far (cond d (b ∷ before_last_slash bs) []) ≡ None
        → ancestor r (find (path_of_stem (so_far ++ cond d (b ∷ before_last_slash bs) [])) xs) ≡ None
        → (has_slash bs ≡ true → ancestors r xs (so_far ++ b ∷ []) (before_last_slash bs) ≡ None
        → ancestor r (find (path_of_stem ((so_far ++ b ∷ []) ++ before_last_slash bs)) xs) ≡ None → ancestors r xs (so_far ++ b ∷ []) bs ≡ None)
        → cond c (first (ancestor r (find (path_of_stem so_far) xs) ∷ ancestors r xs (so_far ++ b ∷ []) bs ∷ [])) (ancestors r xs (so_far ++ b ∷ []) bs) ≡ None
    by true true is slash t e f go =
        let w : cond true (first (ancestor r (find (path_of_stem so_far) xs) ∷ ancestors r xs (so_far ++ b ∷ []) (before_last_slash bs) ∷ []))
        (ancestors r xs (so_far ++ b ∷ []) (before_last_slash bs)) ≡ None = (rw is at e) in
        let parts : (ancestor r (find (path_of_stem so_far) xs) ≡ None) × (ancestors r xs (so_far ++ b ∷ []) (before_last_slash bs) ≡ None) =
        each_none (ancestor r (find (path_of_stem so_far) xs)) (ancestors r xs (so_far ++ b ∷ []) (before_last_slash bs)) w in
        both_none (ancestor r (find (path_of_stem so_far) xs)) (ancestors r xs (so_far ++ b ∷ []) bs) parts.0 (go slash parts.1 (deeper f))
      where
        deeper : ancestor r (find (path_of_stem (so_far ++ b ∷ before_last_slash bs)) xs) ≡ None → ancestor r (find (path_of_stem ((so_far ++ b ∷ []) ++ before_last_slash bs)) xs) ≡ None
        deeper f = ap (λ (l : List ℕ). ancestor r (find (path_of_stem l) xs)) (append_assoc so_far (b ∷ []) (before_last_slash bs)) ∙ f
    by true false is slash t e f go =
        both_none (ancestor r (find (path_of_stem so_far) xs)) (ancestors r xs (so_far ++ b ∷ []) bs)
        (ap (λ (l : List ℕ). ancestor r (find (path_of_stem l) xs)) (sym (append-nil so_far)) ∙ f) (no_walk r xs (so_far ++ b ∷ []) bs slash)
    by false true is slash t e f go =
        let w : cond false (first (ancestor r (find (path_of_stem so_far) xs) ∷ ancestors r xs (so_far ++ b ∷ []) (before_last_slash bs) ∷ []))
        (ancestors r xs (so_far ++ b ∷ []) (before_last_slash bs)) ≡ None = (rw is at e) in
        go slash w (ap (λ (l : List ℕ). ancestor r (find (path_of_stem l) xs)) (append_assoc so_far (b ∷ []) (before_last_slash bs)) ∙ f)
    by false false is slash t e f go = absurd (cc t)

found_path : (ys xs : List Row) (p : List ℕ) → Each (IsPair ys) xs → is_some (find p xs) ≡ true → is_path p ≡ true
found_path ys [] p h e = absurd (cc e)
found_path ys (x ∷ xs) p h e = by (same_text p x.path) refl e (λ f. found_path ys xs p h.1 f)
  where
    by : (z : Bool) → same_text p x.path ≡ z → is_some (cond z (Some x.inode) (find p xs)) ≡ true → (is_some (find p xs) ≡ true → is_path p ≡ true) → is_path p ≡ true
    by true s e go = ap is_path (same_text_is p x.path s) ∙ h.0.path
    by false s e go = go e

-- ## Stems
stem_not_root : (p : List ℕ) → is_root p ≡ false → stem p ≡ p
stem_not_root [] e = refl
stem_not_root (b ∷ []) e = by (b == 47) refl e
  where
    by : (z : Bool) → (b == 47) ≡ z → (z && true) ≡ false → cond z [] (b ∷ []) ≡ b ∷ []
    by true is e = absurd (cc e)
    by false is e = refl
stem_not_root (b ∷ c ∷ bs) e = refl

parent_shorter : (p : List ℕ) → Below p → length (parent_of p) < length p
parent_shorter p b = by (before_last_slash p) (shorter p b.slash)
  where
    long : 1 < length p
    long = let size : length p ≡ length (b.first ∷ b.second ∷ b.rest) = ap (λ (l : List ℕ). length l) b.is in omega (arith, size)

    by : (q : List ℕ) → length q < length p → length (path_of_stem q) < length p
    by [] less = long
    by (c ∷ q) less = less

-- ## Of a namespace
module _ (s : Space) (h : IsTree s) (r : AdmitRefusal) where
  below_it : (q : List ℕ) → ancestors r s.pairs [] (stem (path_of_stem q)) ≡ None → ancestors r s.pairs [] q ≡ None
  below_it [] e = refl
  below_it (c ∷ []) e = by (c == 47)
    where
      by : (z : Bool) → cond z (first (ancestor r (find (path_of_stem []) s.pairs) ∷ None ∷ [])) None ≡ None
      by true = both_none (ancestor r (find (path_of_stem []) s.pairs)) None (dir_passes r (find (path_of_stem []) s.pairs) h.root) refl
      by false = refl
  below_it (c ∷ d ∷ q) e = e

  step : (p : List ℕ) → stem p ≡ p → has_slash p ≡ true → is_dir_there (find (parent_of p) s.pairs) ≡ true → ancestors r s.pairs [] (stem (parent_of p)) ≡ None → ancestors r s.pairs [] (stem p) ≡ None
  step p same slash dir e = ap (ancestors r s.pairs []) same ∙ walk_last r s.pairs [] p slash (below_it (before_last_slash p) e) (dir_passes r (find (parent_of p) s.pairs) dir)

  -- by the length of the path; at its directory it is known
  walk_to : (p : List ℕ) → is_some (find p s.pairs) ≡ true → (Below p → is_dir_there (find (parent_of p) s.pairs) ≡ true
      → ancestors r s.pairs [] (stem (parent_of p)) ≡ None) → ancestors r s.pairs [] (stem p) ≡ None
  walk_to p there go = by (is_root p) refl
    where
      by : (z : Bool) → is_root p ≡ z → ancestors r s.pairs [] (stem p) ≡ None
      by true root = ap (λ (l : List ℕ). ancestors r s.pairs [] (stem l)) (same_text_is p (47 ∷ []) root)
      by false root =
          let b : Below p = below_root p (found_path s.pairs s.pairs p h.pairs there) root in
          let dir : is_dir_there (find (parent_of p) s.pairs) ≡ true = found_parent s.pairs s.pairs p h.pairs there in
          step p (stem_same p b) b.slash dir (go b dir)

  walked : (n : ℕ) (p : List ℕ) → length p ≤ n → is_some (find p s.pairs) ≡ true → ancestors r s.pairs [] (stem p) ≡ None
  walked zero p le there = walk_to p there (λ b dir. let less : length (parent_of p) < length p = parent_shorter p b in absurd (omega arith))
  walked (suc n) p le there = walk_to p there (λ b dir. let less : length (parent_of p) < length p =
      parent_shorter p b in walked n (parent_of p) (omega arith) (dir_some (find (parent_of p) s.pairs) dir))

  -- where something stands, no directory above it is wanting
  pub above_found : (p : List ℕ) (i : Inode) → find p s.pairs ≡ Some i → ancestors r s.pairs [] (stem p) ≡ None
  above_found p i e = walked (length p) p (omega arith) (ap is_some e)

  -- nor above what would stand in a directory that is there
  pub above_parent : (p : List ℕ) → is_root p ≡ false → is_dir_there (find (parent_of p) s.pairs) ≡ true → ancestors r s.pairs [] (stem p) ≡ None
  above_parent p root dir = by (has_slash p) refl
    where
      by : (z : Bool) → has_slash p ≡ z → ancestors r s.pairs [] (stem p) ≡ None
      by true slash = step p (stem_not_root p root) slash dir (walked (length (parent_of p)) (parent_of p) (omega arith) (dir_some (find (parent_of p) s.pairs) dir))
      by false slash = ap (ancestors r s.pairs []) (stem_not_root p root) ∙ no_walk r s.pairs [] p slash
