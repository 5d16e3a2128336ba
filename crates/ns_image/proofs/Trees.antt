-- The rows of a namespace are the root and rows each of which may stand next, and the other way
-- round.
use Rattle.std.proofs.Common.{◌≡◌, ℕ, ◌<◌, Bool, true, false, cond, List, [], ◌∷◌, ◌++◌, length, drop, refl, sym, ap, subst, ◌∙◌, append_assoc, arith, Option, Some, None, ◌==◌}
use Rattle.std.specs.declared.cmp.Ordering.TheVariants.{Less, Equal}
use Rattle.std.specs.Ordering.{is_lt, nat_cmp}
use Rattle.std.specs.List.{insert}
use Rattle.std.proofs.lemmas.Bool.Decides.{nat_tests}
use Rattle.std.proofs.lemmas.Cmp.{nat_cmp_total, tied_itself}
use Rattle.std.proofs.lemmas.List.{append-nil}
use Rattle.std.proofs.lemmas.Bool.{and_parts}
use Rattle.ns_tree.specs.declared.inode.Inode.{Inode}
use Rattle.ns_tree.specs.declared.inode.Row.{Row}
use Rattle.ns_tree.specs.Path.{is_path, is_root, walk_cmp, parent_of, same_text, path_of_stem, before_last_slash, rank_of}
use Rattle.ns_tree.specs.Space.{Space, pair, find, is_dir, is_dir_there, Each, IsInWalkOrder, IsInode, IsPair}
use Rattle.ns_tree.specs.Places.{IsTree}
use Rattle.ns_tree.specs.Last.{last_path, is_after_last, has_parent}
use Rattle.ns_tree.proofs.Order.{walk_cmp_self, same_text_is, turned_less}
use Rattle.ns_tree.proofs.Finds.{or_in, find_append}
use Rattle.ns_tree.proofs.Walks.{each_imp}
use Rattle.ns_tree.proofs.Place.{each_right, order_right}
use Rattle.ns_tree.proofs.Last.{sound_append}
use Rattle.ns_tree.proofs.Parents.{Below, below_root, slash_after}
use Rattle.ns_tree.proofs.Tails.{begins_split}
use Rattle.ns_image.specs.Rows.{MayStand}
use Rattle.ns_image.proofs.RowLaws.{root_row, MayGoOn}

-- ## A path that is found
pub record Found (q : List ℕ) (P : Row → Type 0) : Type 0 where
  pub row : Row
  pub here : row.path ≡ q
  pub holds : P row

pub found_in : (q : List ℕ) (P : Row → Type 0) (xs : List Row) → is_dir_there (find q xs) ≡ true → Each P xs → Found q P
found_in q P [] e h = absurd (cc e)
found_in q P (x ∷ xs) e h = by (same_text q x.path) refl e (λ f. found_in q P xs f h.1)
  where
    by : (b : Bool) → same_text q x.path ≡ b → is_dir_there (cond b (Some x.inode) (find q xs)) ≡ true → (is_dir_there (find q xs) ≡ true → Found q P) → Found q P
    by true is e go = record { row = x; here = sym (same_text_is q x.path is); holds = h.0 }
    by false is e go = go e

-- ## The root comes first
off_root : (b c : ℕ) (bs : List ℕ) → is_path (b ∷ c ∷ bs) ≡ true → walk_cmp (b ∷ c ∷ bs) (47 ∷ []) ≡ Less → ⊥
off_root b c bs good less =
    let first : (b == 47) ≡ true = (and_parts (b == 47) _ good).0 in
    let slash : b ≡ 47 = grind (arith, nat_tests, first) in
    let other : walk_cmp (47 ∷ c ∷ bs) (47 ∷ []) ≡ Less = subst (λ (n : ℕ). walk_cmp (n ∷ c ∷ bs) (47 ∷ []) ≡ Less) slash less in
    cc other

pub only_root : (p : List ℕ) → is_path p ≡ true → (walk_cmp p (47 ∷ []) ≡ Less → ⊥)
only_root [] good less = cc good
only_root (b ∷ []) good less =
    let one : (b == 47) ≡ true = good in
    let slash : b ≡ 47 = grind (arith, nat_tests, one) in
    cc (subst (λ (n : ℕ). walk_cmp (n ∷ []) (47 ∷ []) ≡ Less) slash less)
only_root (b ∷ c ∷ bs) good less = off_root b c bs good less

pub first_is_root : (all : List Row) (x : Row) (xs : List Row) → IsInWalkOrder (x ∷ xs) → IsPair all x → is_dir_there (find (47 ∷ []) (x ∷ xs)) ≡ true → (x.path ≡ 47 ∷ []) × (is_dir x.inode ≡ true)
first_is_root all x xs order good root = by (same_text (47 ∷ []) x.path) refl root
  where
    by : (b : Bool) → same_text (47 ∷ []) x.path ≡ b → is_dir_there (cond b (Some x.inode) (find (47 ∷ []) xs)) ≡ true → (x.path ≡ 47 ∷ []) × (is_dir x.inode ≡ true)
    by true is e = (sym (same_text_is (47 ∷ []) x.path is), e)
    by false is e =
        let f = found_in (47 ∷ []) (λ y. walk_cmp x.path y.path ≡ Less) xs e order.0 in
        absurd (only_root x.path good.path (subst (λ (q : List ℕ). walk_cmp x.path q ≡ Less) f.here f.holds))

-- ## A directory comes before what stands in it
front_less : (x : List ℕ) (y : ℕ) (ys : List ℕ) → walk_cmp x (x ++ y ∷ ys) ≡ Less
front_less [] y ys = refl
front_less (b ∷ bs) y ys = let same : nat_cmp (rank_of b) (rank_of b) ≡ Equal = tied_itself nat_cmp_total (rank_of b) in rw same (front_less bs y ys)

pub parent_less : (p : List ℕ) → is_path p ≡ true → is_root p ≡ false → walk_cmp (parent_of p) p ≡ Less
parent_less p good below = by (before_last_slash p) refl
  where
    parts : Below p
    parts = below_root p good below

    split : p ≡ (before_last_slash p ++ 47 ∷ []) ++ drop (length (before_last_slash p ++ 47 ∷ [])) p
    split = begins_split (before_last_slash p ++ 47 ∷ []) p (slash_after p parts.slash)

    first_slash : (q : List ℕ) → is_path q ≡ true → (b : ℕ) (c : ℕ) (bs : List ℕ) → q ≡ b ∷ c ∷ bs → q ≡ 47 ∷ c ∷ bs
    first_slash q good b c bs is =
        let first : (b == 47) ≡ true = (and_parts (b == 47) _ (sym (ap is_path is) ∙ good)).0 in
        let slash : b ≡ 47 = grind (arith, nat_tests, first) in
        is ∙ ap (λ (n : ℕ). n ∷ c ∷ bs) slash

    by : (w : List ℕ) → before_last_slash p ≡ w → walk_cmp (path_of_stem w) p ≡ Less
    by [] e =
        let whole : p ≡ 47 ∷ parts.second ∷ parts.rest = first_slash p good parts.first parts.second parts.rest parts.is in
        subst (λ (q : List ℕ). walk_cmp (47 ∷ []) q ≡ Less) (sym whole) (front_less (47 ∷ []) parts.second parts.rest)
    by (c ∷ cs) e =
        let tail = drop (length (before_last_slash p ++ 47 ∷ [])) p in
        let whole : p ≡ (c ∷ cs) ++ 47 ∷ tail = split ∙ ap (λ (w : List ℕ). (w ++ 47 ∷ []) ++ tail) e ∙ append_assoc (c ∷ cs) (47 ∷ []) tail in
        subst (λ (q : List ℕ). walk_cmp (c ∷ cs) q ≡ Less) (sym whole) (front_less (c ∷ cs) 47 tail)

-- ## Each row of a namespace may stand next
last_before : (rows : List Row) (row : Row) (more : List Row) → 0 < length rows → IsInWalkOrder (rows ++ row ∷ more) → walk_cmp (last_path rows) row.path ≡ Less
last_before [] row more some order = absurd (omega (arith, some))
last_before (x ∷ []) row more some order = order.0.0
last_before (x ∷ y ∷ xs) row more some order = last_before (y ∷ xs) row more (omega arith) order.1

each_before : (rows : List Row) (row : Row) (more : List Row) → IsInWalkOrder (rows ++ row ∷ more) → Each (λ x. walk_cmp x.path row.path ≡ Less) rows
each_before [] row more order = tt
each_before (x ∷ xs) row more order = ((each_right (λ y. walk_cmp x.path y.path ≡ Less) xs (row ∷ more) order.0).0, each_before xs row more order.1)

dir_first : (a b : Option Inode) → is_dir_there a ≡ true → is_dir_there (or_in a b) ≡ true
dir_first None b e = absurd (cc e)
dir_first (Some i) b e = e

root_kept : (rows more : List Row) → is_dir_there (find (47 ∷ []) rows) ≡ true → is_dir_there (find (47 ∷ []) (rows ++ more)) ≡ true
root_kept rows more e = ap is_dir_there (find_append (47 ∷ []) rows more) ∙ dir_first (find (47 ∷ []) rows) (find (47 ∷ []) more) e

-- no row from a path on has a path that comes before it
not_later : (p q : List ℕ) (row : Row) (more : List Row) → row.path ≡ p → Each (λ y. walk_cmp row.path y.path ≡ Less) more → walk_cmp q p ≡ Less → is_dir_there (find q (row ∷ more)) ≡ true → ⊥
not_later p q row more is after less e =
    let f = found_in q (λ y. walk_cmp y.path p ≡ Less → ⊥) (row ∷ more) e (here, each_imp (λ y. walk_cmp row.path y.path ≡ Less) (λ y. walk_cmp y.path p ≡ Less → ⊥) more there after) in
    f.holds (subst (λ (w : List ℕ). walk_cmp w p ≡ Less) (sym f.here) less)
  where
    here : walk_cmp row.path p ≡ Less → ⊥
    here l = cc (sym (walk_cmp_self p) ∙ ap (λ (w : List ℕ). walk_cmp w p) (sym is) ∙ l)

    there : (y : Row) → walk_cmp row.path y.path ≡ Less → walk_cmp y.path p ≡ Less → ⊥
    there y later l = cc (sym (turned_less row.path y.path later) ∙ ap (walk_cmp y.path) is ∙ l)

parent_before : (rows : List Row) (row : Row) (more : List Row) → is_path row.path ≡ true → is_root row.path ≡ false → IsInWalkOrder (rows ++ row ∷ more)
    → is_dir_there (find (parent_of row.path) (rows ++ row ∷ more)) ≡ true → has_parent row.path rows ≡ true
parent_before rows row more good below order there = by (find q rows) refl
  where
    q : List ℕ
    q = parent_of row.path

    whole : is_dir_there (or_in (find q rows) (find q (row ∷ more))) ≡ true
    whole = sym (ap is_dir_there (find_append q rows (row ∷ more))) ∙ there

    later : Each (λ y. walk_cmp row.path y.path ≡ Less) more
    later = (order_right rows (row ∷ more) order).0

    by : (o : Option Inode) → find q rows ≡ o → is_dir_there (find q rows) ≡ true
    by None is = absurd (not_later row.path q row more refl later (parent_less row.path good below) (ap (λ (o : Option Inode). is_dir_there (or_in o (find q (row ∷ more)))) (sym is) ∙ whole))
    by (Some i) is = ap is_dir_there is ∙ (ap (λ (o : Option Inode). is_dir_there (or_in o (find q (row ∷ more)))) (sym is) ∙ whole)

below_first : (rows : List Row) (row : Row) (more : List Row) → is_dir_there (find (47 ∷ []) rows) ≡ true → IsInWalkOrder (rows ++ row ∷ more) → is_root row.path ≡ false
below_first rows row more root order = by (is_root row.path) refl
  where
    f : Found (47 ∷ []) (λ x. walk_cmp x.path row.path ≡ Less)
    f = found_in (47 ∷ []) (λ x. walk_cmp x.path row.path ≡ Less) rows root (each_before rows row more order)

    by : (b : Bool) → is_root row.path ≡ b → is_root row.path ≡ false
    by false is = is
    by true is =
        let same : row.path ≡ 47 ∷ [] = same_text_is row.path (47 ∷ []) is in
        absurd (cc (sym (walk_cmp_self (47 ∷ [])) ∙ ap (λ (w : List ℕ). walk_cmp w (47 ∷ [])) (sym f.here) ∙ ap (walk_cmp f.row.path) (sym same) ∙ f.holds))

some_there : (rows : List Row) → is_dir_there (find (47 ∷ []) rows) ≡ true → 0 < length rows
some_there [] e = absurd (cc e)
some_there (x ∷ xs) e = omega arith

next_rows : (rows more : List Row) (all : List Row) → rows ++ more ≡ all → IsInWalkOrder all → Each (IsPair all) more → is_dir_there (find (47 ∷ []) rows) ≡ true → MayGoOn rows more
next_rows rows [] all is order good root = tt
next_rows rows (row ∷ more) all is order good root =
    let ordered : IsInWalkOrder (rows ++ row ∷ more) = subst IsInWalkOrder (sym is) order in
    let pair_is : IsPair all row = good.0 in
    let below = below_first rows row more root ordered in
    let last : is_after_last row.path rows ≡ true = ap is_lt (last_before rows row more (some_there rows root) ordered) in
    let there : is_dir_there (find (parent_of row.path) (rows ++ row ∷ more)) ≡ true = ap (λ (ys : List Row). is_dir_there (find (parent_of row.path) ys)) is ∙ pair_is.parent in
    let may : MayStand rows row = record { path = pair_is.path; short = pair_is.short; inode = pair_is.inode; last = last; parent = parent_before rows row more pair_is.path below ordered there } in
    (may, next_rows (rows ++ row ∷ []) more all (append_assoc rows (row ∷ []) more ∙ is) order good.1 (root_kept rows (row ∷ []) root))

-- the shape of the rows of a namespace
pub record TreeShape (pairs : List Row) : Type 0 where
  pub root : Inode
  pub more : List Row
  pub is : pairs ≡ root_row root ∷ more
  pub good : IsInode root
  pub dir : is_dir root ≡ true
  pub next : MayGoOn (root_row root ∷ []) more

pub shape_of : (s : Space) → IsTree s → TreeShape s.pairs
shape_of s h = by s.pairs h.ordered h.pairs h.root
  where
    by : (xs : List Row) → IsInWalkOrder xs → Each (IsPair xs) xs → is_dir_there (find (47 ∷ []) xs) ≡ true → TreeShape xs
    by [] order good root = absurd (cc root)
    by (x ∷ xs) order good root =
        let f = first_is_root (x ∷ xs) x xs order good.0 root in
        let same : x ∷ xs ≡ root_row x.inode ∷ xs = ap (λ (p : List ℕ). pair p x.inode ∷ xs) f.0 in
        record {
          root = x.inode;
          more = xs;
          is = same;
          good = good.0.inode;
          dir = f.1;
          next = next_rows (root_row x.inode ∷ []) xs (x ∷ xs) (sym same) order good.1 f.1;
        }

-- ## Rows that may stand next make a namespace
at_end : (xs : List Row) (x : Row) → insert xs (length xs) x ≡ xs ++ x ∷ []
at_end [] x = refl
at_end (y ∷ ys) x = ap (λ (zs : List Row). y ∷ zs) (at_end ys x)

pub grown : (rows more : List Row) → MayGoOn rows more → IsTree (record { pairs = rows; calls = [] }) → IsTree (record { pairs = rows ++ more; calls = [] })
grown rows [] next h = subst (λ (ys : List Row). IsTree (record { pairs = ys; calls = [] })) (sym (append-nil rows)) h
grown rows (row ∷ more) next h =
    let one : IsTree (record { pairs = rows ++ row ∷ []; calls = [] }) =
    subst (λ (ys : List Row). IsTree (record { pairs = ys; calls = [] })) (at_end rows row)
    (sound_append (record { pairs = rows; calls = [] }) row h next.0.path next.0.short next.0.inode next.0.last next.0.parent) in
    subst (λ (ys : List Row). IsTree (record { pairs = ys; calls = [] })) (append_assoc rows (row ∷ []) more) (grown (rows ++ row ∷ []) more next.1 one)

pub root_alone : (root : Inode) → IsInode root → is_dir root ≡ true → IsTree (record { pairs = root_row root ∷ []; calls = [] })
root_alone root good dir = record {
  ordered = (tt, tt);
  pairs = (record { path = refl; short = omega arith; inode = good; parent = dir }, tt);
  root = dir;
  few = omega arith;
  rising = omega arith;
  distinct = tt;
}
