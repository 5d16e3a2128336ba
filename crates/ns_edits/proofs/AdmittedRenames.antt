-- What an admitted rename may rely on: the path that moves is there, and the one that it moves to
-- can take it.
use Rattle.std.proofs.Common.{◌≡◌, ℕ, ◌≤◌, ◌+◌, ◌-◌, List, [], ◌∷◌, ◌++◌, length, Bool, true, false, cond, refl, sym, ap, ◌∙◌, append-nil}
use Rattle.std.proofs.Common.{Option, Some, None, IsSome, ◌==◌, ◌&&◌, arith}
use Rattle.std.specs.Prelude.{◌||◌, is_some, nat_lt}
use Rattle.std.proofs.lemmas.Bool.Decides.{nat_tests}
use Rattle.ns_tree.specs.declared.inode.Inode.{Inode}
use Rattle.ns_tree.specs.declared.inode.Inode.TheVariants.{Dir, File}
use Rattle.ns_tree.specs.declared.inode.Row.{Row}
use Rattle.ns_tree.specs.Path.{same_text, stem, path_of_stem, is_at_or_under, has_slash, before_last_slash, parent_of, is_component, are_components, is_path, is_root}
use Rattle.ns_tree.specs.Space.{Space, is_dir_there, find, has_under, longest_under}
use Rattle.ns_tree.specs.Places.{IsTree}
use Rattle.ns_tree.proofs.Order.{same_text_is, same_text_self}
use Rattle.ns_tree.proofs.Parents.{Below, below_root, stem_same}
use Rattle.ns_tree.proofs.Tails.{is_tail, Tail, tail_of, tail_under, parent_tail, tail_parent, path_split}
use Rattle.ns_tree.proofs.Ancestors.{no_dir_empty}
use Rattle.ns_edits.specs.declared.refusal.AdmitRefusal.TheVariants.{Exists, NotFile, NotEmpty, Root, IntoItself, BadName}
use Rattle.ns_edits.specs.Admit.{refused_if, bad_path, finds, has_parent, refused_there, bad_move, last_component, target_in, target_of, admit_move, admit_rename_old, over, admit_rename}
use Rattle.ns_edits.proofs.Admitted.{none≢some, all_passed, not_refused, is_so, not_there, has_parent_is, is_there}
use Rattle.std.proofs.lemmas.Bool.{and_parts, or_parts}

pub record CanMove (src dst : List ℕ) (xs : List Row) : Type 0 where
  pub source : is_path src ≡ true
  pub src_below : is_root src ≡ false
  pub there : IsSome (find src xs)
  pub path : is_path dst ≡ true
  pub dst_below : is_root dst ≡ false
  pub apart : is_at_or_under src dst ≡ false
  pub parent : is_dir_there (find (parent_of dst) xs) ≡ true
  pub empty : has_under dst xs ≡ false
  pub short : longest_under src xs - length src + length dst ≤ 1000

moves_short : (src dst : List ℕ) (xs : List Row) → bad_move src dst xs ≡ None → longest_under src xs - length src + length dst ≤ 1000
moves_short src dst xs e = let t : nat_lt 1000 (longest_under src xs - length src + length dst) ≡ false =
    not_refused (nat_lt 1000 (longest_under src xs - length src + length dst)) BadName e in grind (arith, nat_tests, t)

-- ## A rename to the very path
-- what goes has nothing under it
over_empty : (overwrite : Bool) (source old : Option Inode) (filled : Bool) → is_some source ≡ true → over overwrite source old filled ≡ None → is_dir_there old ≡ true → filled ≡ false
over_empty w source None filled s e d = absurd (cc d)
over_empty false source (Some old) filled s e d = none≢some Exists (sym e)
over_empty true None (Some old) filled s e d = absurd (cc s)
over_empty true (Some (Dir m p u g n k)) (Some (Dir m2 p2 u2 g2 n2 k2)) filled s e d = not_refused filled NotEmpty e
over_empty true (Some (File r m a b p u g ls c)) (Some (Dir m2 p2 u2 g2 n2 k2)) filled s e d = none≢some NotFile (sym e)
over_empty true (Some i) (Some (File r m a b p u g ls c)) filled s e d = absurd (cc d)

pub rename_moves : (src dst : List ℕ) (overwrite : Bool) (s : Space) → IsTree s → admit_rename src dst overwrite s.pairs ≡ None → CanMove src dst s.pairs
rename_moves src dst overwrite s h e =
    let t = all_passed (bad_path src ∷ bad_path dst ∷ refused_if (is_root src || is_root dst) Root ∷ finds src s.pairs ∷ refused_if (is_at_or_under src dst) IntoItself ∷ has_parent dst s.pairs
    ∷ over overwrite (find src s.pairs) (find dst s.pairs) (has_under dst s.pairs) ∷ bad_move src dst s.pairs ∷ []) e in
    let path : is_path dst ≡ true = is_so (is_path dst) BadName t.1.0 in
    let roots = or_parts (is_root src) (is_root dst) (not_refused (is_root src || is_root dst) Root t.1.1.0) in
    let p = has_parent_is dst s.pairs path t.1.1.1.1.1.0 in
    let there = is_there src s.pairs t.1.1.1.0 in
    record {
      source = is_so (is_path src) BadName t.0;
      src_below = roots.0;
      there = there;
      path = path;
      dst_below = p.0;
      apart = not_refused (is_at_or_under src dst) IntoItself t.1.1.1.1.0;
      parent = p.1;
      empty = emptied there (below_root dst path p.0) t.1.1.1.1.1.1.0;
      short = moves_short src dst s.pairs t.1.1.1.1.1.1.1.0;
    }
  where
    emptied : is_some (find src s.pairs) ≡ true → Below dst → over overwrite (find src s.pairs) (find dst s.pairs) (has_under dst s.pairs) ≡ None → has_under dst s.pairs ≡ false
    emptied there b o = by (is_dir_there (find dst s.pairs)) refl
      where
        by : (z : Bool) → is_dir_there (find dst s.pairs) ≡ z → has_under dst s.pairs ≡ false
        by true d = over_empty overwrite (find src s.pairs) (find dst s.pairs) (has_under dst s.pairs) there o d
        by false d = no_dir_empty s dst h b d

-- ## A rename into a directory that is there
-- the last component of a path is one
last_good : (c rest : List ℕ) → are_components c rest ≡ true → are_components (cond (has_slash rest) [] c) (last_component rest) ≡ true
last_good c [] e = e
last_good c (b ∷ bs) e = by (b == 47) refl e (last_good [] bs) (last_good (c ++ b ∷ []) bs)
  where
    Goal : Bool → Type 0
    Goal z = are_components (cond (z || has_slash bs) [] c) (cond (z || has_slash bs) (last_component bs) (b ∷ bs)) ≡ true

    none : (z : Bool) → cond {A = List ℕ} z [] [] ≡ []
    none true = refl
    none false = refl

    first : (z : Bool) → (is_component c && are_components [] bs) ≡ true
        → (are_components [] bs ≡ true → are_components (cond (has_slash bs) [] []) (last_component bs) ≡ true)
        → are_components [] (last_component bs) ≡ true
    first z e go = ap (λ (d : List ℕ). are_components d (last_component bs)) (sym (none (has_slash bs))) ∙ go (and_parts (is_component c) (are_components [] bs) e).1

    later : (z : Bool) → has_slash bs ≡ z → are_components c (b ∷ bs) ≡ true → (are_components (c ++ b ∷ []) bs ≡ true)
        → (are_components (c ++ b ∷ []) bs ≡ true → are_components (cond z [] (c ++ b ∷ [])) (last_component bs) ≡ true)
        → are_components (cond z [] c) (cond z (last_component bs) (b ∷ bs)) ≡ true
    later true s whole e go = go e
    later false s whole e go = whole

    by : (z : Bool) → (b == 47) ≡ z → cond z (is_component c && are_components [] bs) (are_components (c ++ b ∷ []) bs) ≡ true
        → (are_components [] bs ≡ true → are_components (cond (has_slash bs) [] []) (last_component bs) ≡ true)
        → (are_components (c ++ b ∷ []) bs ≡ true → are_components (cond (has_slash bs) [] (c ++ b ∷ [])) (last_component bs) ≡ true) → Goal z
    by true is f go more = first true f go
    by false is f go more = later (has_slash bs) refl e f more

last_is : (src : List ℕ) → Below src → is_path src ≡ true → are_components [] (last_component src) ≡ true
last_is src b e =
    ap (λ (l : List ℕ). are_components [] (last_component l)) b.is
    ∙ (ap (λ (z : Bool). are_components [] (cond (z || has_slash (b.second ∷ b.rest)) (last_component (b.second ∷ b.rest)) (b.first ∷ b.second ∷ b.rest))) parts.0
    ∙ (ap (λ (d : List ℕ). are_components d (last_component (b.second ∷ b.rest))) (sym (none (has_slash (b.second ∷ b.rest)))) ∙ last_good [] (b.second ∷ b.rest) parts.1))
  where
    parts : ((b.first == 47) ≡ true) × (are_components [] (b.second ∷ b.rest) ≡ true)
    parts = and_parts (b.first == 47) (are_components [] (b.second ∷ b.rest)) (sym (ap is_path b.is) ∙ e)

    none : (z : Bool) → cond {A = List ℕ} z [] [] ≡ []
    none true = refl
    none false = refl

within_path : (dst name : List ℕ) → is_path dst ≡ true → are_components [] name ≡ true → is_path (stem dst ++ 47 ∷ name) ≡ true
within_path dst name path good = by (is_root dst) refl
  where
    alone : (l : List ℕ) → are_components [] l ≡ true → is_path (47 ∷ l) ≡ true
    alone [] e = refl
    alone (c ∷ l) e = e

    by : (z : Bool) → is_root dst ≡ z → is_path (stem dst ++ 47 ∷ name) ≡ true
    by true is = ap (λ (l : List ℕ). is_path (stem l ++ 47 ∷ name)) (same_text_is dst (47 ∷ []) is) ∙ alone name good
    by false is = let b : Below dst = below_root dst path is in
        ap (λ (l : List ℕ). is_path (l ++ 47 ∷ name)) (stem_same dst b) ∙ (path_split dst name b ∙ rw (path, good) refl)

-- it has no `/`, so the directory is the parent
last_plain : (l : List ℕ) → has_slash (last_component l) ≡ false
last_plain [] = refl
last_plain (b ∷ bs) = by ((b == 47) || has_slash bs) refl (last_plain bs)
  where
    by : (z : Bool) → ((b == 47) || has_slash bs) ≡ z → has_slash (last_component bs) ≡ false → has_slash (cond z (last_component bs) (b ∷ bs)) ≡ false
    by true is e = e
    by false is e = is

before_name : (a name : List ℕ) → has_slash name ≡ false → before_last_slash (a ++ 47 ∷ name) ≡ a
before_name [] name e = rw e refl
before_name (x ∷ a) name e = rw (slash_in a) (ap (λ (l : List ℕ). x ∷ l) (before_name a name e))
  where
    slash_in : (l : List ℕ) → has_slash (l ++ 47 ∷ name) ≡ true
    slash_in [] = refl
    slash_in (y ∷ l) = second (y == 47) (slash_in l)
      where
        second : (z : Bool) {w : Bool} → w ≡ true → (z || w) ≡ true
        second true e = refl
        second false e = e

stem_again : (p : List ℕ) → is_path p ≡ true → path_of_stem (stem p) ≡ p
stem_again [] e = absurd (cc e)
stem_again (b ∷ []) e = let same : b ≡ 47 = (let t : (b == 47) ≡ true = e in grind (arith, nat_tests, t)) in rw same refl
stem_again (b ∷ c ∷ bs) e = refl

-- what a path is under, its parent is at or under
under_of_parent : (p q : List ℕ) → Below p → same_text p q ≡ false → is_at_or_under p q ≡ true → is_at_or_under p (parent_of q) ≡ true
under_of_parent p q b other e = let t : Tail p q = tail_of p q b e in by t.rest t.is t.good
  where
    by : (rest : List ℕ) → q ≡ p ++ rest → is_tail rest ≡ true → is_at_or_under p (parent_of q) ≡ true
    by [] is g = absurd (cc (sym (ap (λ (w : List ℕ). same_text p w) (is ∙ append-nil p) ∙ same_text_self p) ∙ other))
    by (c ∷ u) is g =
        let slash : c ≡ 47 = (let f : (c == 47) ≡ true = g in grind (arith, nat_tests, f)) in
        let whole : q ≡ p ++ 47 ∷ u = is ∙ ap (λ (n : ℕ). p ++ n ∷ u) slash in
        ap (λ (w : List ℕ). is_at_or_under p w) (ap parent_of whole ∙ parent_tail p u b) ∙ tail_under p (before_last_slash (47 ∷ u)) b (tail_parent u)

module _ (src dst : List ℕ) (xs : List Row) where
  target_path : (o : Option Inode) → Below src → is_path src ≡ true → is_path dst ≡ true → is_path (target_in o src dst) ≡ true
  target_path None b s d = d
  target_path (Some (Dir m p u g n k)) b s d = within_path dst (last_component src) d (last_is src b s)
  target_path (Some (File r m a bs p u g ls c)) b s d = d

  target_apart : (o : Option Inode) → Below src → is_path dst ≡ true → is_at_or_under src dst ≡ false → same_text src (target_in o src dst) ≡ false → is_at_or_under src (target_in o src dst) ≡ false
  target_apart None b d apart other = apart
  target_apart (Some (File r m a bs p u g ls c)) b d apart other = apart
  target_apart (Some (Dir m p u g n k)) b d apart other = by (is_at_or_under src (stem dst ++ 47 ∷ last_component src)) refl
    where
      parent_is : parent_of (stem dst ++ 47 ∷ last_component src) ≡ dst
      parent_is = ap path_of_stem (before_name (stem dst) (last_component src) (last_plain src)) ∙ stem_again dst d

      by : (z : Bool) → is_at_or_under src (stem dst ++ 47 ∷ last_component src) ≡ z → is_at_or_under src (stem dst ++ 47 ∷ last_component src) ≡ false
      by false is = is
      by true is = absurd (cc (sym apart ∙ (ap (is_at_or_under src) (sym parent_is) ∙ under_of_parent src (stem dst ++ 47 ∷ last_component src) b other is)))

other_than : (src target : List ℕ) (xs : List Row) → is_some (find src xs) ≡ true → find target xs ≡ None → same_text src target ≡ false
other_than src target xs there absent = by (same_text src target) refl
  where
    by : (z : Bool) → same_text src target ≡ z → same_text src target ≡ false
    by false is = is
    by true is = absurd (cc (sym there ∙ (ap (λ (w : List ℕ). is_some (find w xs)) (same_text_is src target is) ∙ ap is_some absent)))

pub rename_old_moves : (src dst : List ℕ) (s : Space) → IsTree s → admit_rename_old src dst s.pairs ≡ None → CanMove src (target_of src dst s.pairs) s.pairs
rename_old_moves src dst s h e =
    let t = all_passed (bad_path src ∷ bad_path dst ∷ refused_if (is_root src) Root ∷ finds src s.pairs ∷ refused_if (is_at_or_under src dst)
    IntoItself ∷ admit_move src (target_of src dst s.pairs) s.pairs ∷ []) e in
    let u = all_passed (has_parent (target_of src dst s.pairs) s.pairs ∷ refused_there Exists (find (target_of src dst s.pairs) s.pairs) ∷ bad_move
    src (target_of src dst s.pairs) s.pairs ∷ []) t.1.1.1.1.1.0 in
    let source : is_path src ≡ true = is_so (is_path src) BadName t.0 in
    let below : is_root src ≡ false = not_refused (is_root src) Root t.1.1.0 in
    let dst_path : is_path dst ≡ true = is_so (is_path dst) BadName t.1.0 in
    let b : Below src = below_root src source below in
    let path : is_path (target_of src dst s.pairs) ≡ true = target_path src dst s.pairs (find dst s.pairs) b source dst_path in
    let p = has_parent_is (target_of src dst s.pairs) s.pairs path u.0 in
    let there = is_there src s.pairs t.1.1.1.0 in
    let absent : find (target_of src dst s.pairs) s.pairs ≡ None = not_there Exists (find (target_of src dst s.pairs) s.pairs) u.1.0 in
    record {
      source = source;
      src_below = below;
      there = there;
      path = path;
      dst_below = p.0;
      apart = target_apart src dst s.pairs (find dst s.pairs) b dst_path (not_refused (is_at_or_under src dst) IntoItself t.1.1.1.1.0)
          (other_than src (target_of src dst s.pairs) s.pairs there absent);
      parent = p.1;
      empty = no_dir_empty s (target_of src dst s.pairs) h (below_root (target_of src dst s.pairs) path p.0) (ap is_dir_there absent);
      short = moves_short src (target_of src dst s.pairs) s.pairs u.1.1.0;
    }
