-- What is under a path has that path above it as a directory: nothing is under a path where no
-- directory is.
use Rattle.std.proofs.Common.{◌≡◌, ℕ, zero, suc, ◌<◌, ◌≤◌, List, [], ◌∷◌, ◌++◌, length, Bool, true, false, cond, refl, sym, ap, ◌∙◌, append-nil, Option, Some, None, IsSome, arith, ◌==◌}
use Rattle.std.specs.Prelude.{is_some}
use Rattle.std.proofs.lemmas.Bool.Decides.{nat_tests}
use Rattle.std.proofs.lemmas.Bool.{or_right}
use Rattle.ns_tree.specs.declared.inode.Inode.{Inode}
use Rattle.ns_tree.specs.declared.inode.Row.{Row}
use Rattle.ns_tree.specs.Path.{same_text, walk_cmp, is_under, before_last_slash, parent_of}
use Rattle.ns_tree.specs.Space.{Space, is_dir_there, find, has_under, Each, IsPair}
use Rattle.ns_tree.specs.Places.{IsTree}
use Rattle.ns_tree.proofs.Order.{same_text_is, walk_cmp_self}
use Rattle.ns_tree.proofs.Walks.{each_imp}
use Rattle.ns_tree.proofs.Parents.{Below, shorter}
use Rattle.ns_tree.proofs.UnderPaths.{under_after, not_true}
use Rattle.ns_tree.proofs.Tails.{is_tail, Tail, tail_of, parent_tail, tail_parent}

pub dir_some : (o : Option Inode) → is_dir_there o ≡ true → is_some o ≡ true
dir_some None e = absurd (cc e)
dir_some (Some i) e = refl

pub found_parent : (ys xs : List Row) (q : List ℕ) → Each (IsPair ys) xs → is_some (find q xs) ≡ true → is_dir_there (find (parent_of q) ys) ≡ true
found_parent ys [] q h e = absurd (cc e)
found_parent ys (x ∷ xs) q h e = by (same_text q x.path) refl e (λ f. found_parent ys xs q h.1 f)
  where
    by : (z : Bool) → same_text q x.path ≡ z → is_some (cond z (Some x.inode) (find q xs)) ≡ true
        → (is_some (find q xs) ≡ true → is_dir_there (find (parent_of q) ys) ≡ true) → is_dir_there (find (parent_of q) ys) ≡ true
    by true s e go = ap (λ (w : List ℕ). is_dir_there (find (parent_of w) ys)) (same_text_is q x.path s) ∙ h.0.parent
    by false s e go = go e

has_under_none : (p : List ℕ) (xs : List Row) → Each (λ x. is_under p x.path ≡ false) xs → has_under p xs ≡ false
has_under_none p [] e = refl
has_under_none p (x ∷ xs) e = rw e.0 (has_under_none p xs e.1)

module _ (s : Space) (p : List ℕ) (h : IsTree s) (b : Below p) where
  -- a directory under p has a directory at p
  climb : (n : ℕ) (rest : List ℕ) → length rest ≤ n → is_tail rest ≡ true → is_dir_there (find (p ++ rest) s.pairs) ≡ true → is_dir_there (find p s.pairs) ≡ true
  climb n [] le g there = ap (λ (w : List ℕ). is_dir_there (find w s.pairs)) (sym (append-nil p)) ∙ there
  climb zero (c ∷ u) le g there = absurd (omega arith)
  climb (suc n) (c ∷ u) le g there =
      let slash : c ≡ 47 = (let e : (c == 47) ≡ true = g in grind (arith, nat_tests, e)) in
      let whole : is_dir_there (find (p ++ 47 ∷ u) s.pairs) ≡ true = ap (λ (k : ℕ). is_dir_there (find (p ++ k ∷ u) s.pairs)) (sym slash) ∙ there in
      let above : is_dir_there (find (parent_of (p ++ 47 ∷ u)) s.pairs) ≡ true = found_parent s.pairs s.pairs (p ++ 47 ∷ u) h.pairs (dir_some (find (p ++ 47 ∷ u) s.pairs) whole) in
      let less : length (before_last_slash (47 ∷ u)) < length (47 ∷ u) = shorter (47 ∷ u) refl in
      climb n (before_last_slash (47 ∷ u)) (omega (arith, le, less)) (tail_parent u)
      (ap (λ (w : List ℕ). is_dir_there (find w s.pairs)) (sym (parent_tail p u b)) ∙ above)

  row_apart : is_dir_there (find p s.pairs) ≡ false → (x : Row) → IsPair s.pairs x → is_under p x.path ≡ false
  row_apart no_dir x k = not_true (is_under p x.path) (λ u. let t : Tail p x.path = tail_of p x.path b (or_right (same_text p x.path) (is_under p x.path) u) in by u t.rest t.is t.good)
    where
      long : 0 < length p
      long = let size : length p ≡ length (b.first ∷ b.second ∷ b.rest) = ap (λ (l : List ℕ). length l) b.is in omega (arith, size)

      by : is_under p x.path ≡ true → (rest : List ℕ) → x.path ≡ p ++ rest → is_tail rest ≡ true → ⊥
      by u [] is g = cc (sym (under_after p x.path long u) ∙ ap (walk_cmp p) (is ∙ append-nil p) ∙ walk_cmp_self p)
      by u (c ∷ v) is g =
          let slash : c ≡ 47 = (let e : (c == 47) ≡ true = g in grind (arith, nat_tests, e)) in
          let whole : x.path ≡ p ++ 47 ∷ v = is ∙ ap (λ (n : ℕ). p ++ n ∷ v) slash in
          let above : is_dir_there (find (p ++ before_last_slash (47 ∷ v)) s.pairs) ≡ true =
          ap (λ (q : List ℕ). is_dir_there (find q s.pairs)) (sym (ap parent_of whole ∙ parent_tail p v b)) ∙ k.parent in
          cc (sym no_dir ∙ climb (length (before_last_slash (47 ∷ v))) (before_last_slash (47 ∷ v)) (omega arith) (tail_parent v) above)

  pub no_dir_empty : is_dir_there (find p s.pairs) ≡ false → has_under p s.pairs ≡ false
  no_dir_empty no_dir = has_under_none p s.pairs (each_imp (IsPair s.pairs) (λ x. is_under p x.path ≡ false) s.pairs (row_apart no_dir) h.pairs)

  pub absent_empty : find p s.pairs ≡ None → has_under p s.pairs ≡ false
  absent_empty absent = no_dir_empty (ap is_dir_there absent)

  pub emptied : (IsSome (find p s.pairs) → has_under p s.pairs ≡ false) → has_under p s.pairs ≡ false
  emptied f = by (find p s.pairs) refl f
    where
      by : (o : Option Inode) → find p s.pairs ≡ o → (IsSome o → has_under p s.pairs ≡ false) → has_under p s.pairs ≡ false
      by None e f = absent_empty e
      by (Some i) e f = f refl
