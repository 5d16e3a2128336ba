-- The sources of a concat can go one after the other: each is a file, and none is under another.
use Rattle.std.proofs.Common.{◌≡◌, ℕ, List, [], ◌∷◌, ◌++◌, length, Bool, true, false, cond, refl, sym, ap, ◌∙◌, append_assoc, Option}
use Rattle.std.proofs.Common.{Some, None, ◌==◌, ◌&&◌, arith, suc, ◌<◌, ◌+◌, take, drop, get_or, add-one, drop-cons, append-nil}
use Rattle.std.proofs.Math.Seq.{take-suc}
use Rattle.std.specs.Prelude.{not, is_some, nat_lt}
use Rattle.std.specs.List.{AllByRecursion}
use Rattle.std.proofs.lemmas.Bool.Decides.{nat_tests}
use Rattle.ns_tree.specs.declared.inode.Inode.{Inode}
use Rattle.ns_tree.specs.declared.inode.Inode.TheVariants.{Dir, File}
use Rattle.ns_tree.specs.declared.inode.Row.{Row}
use Rattle.ns_tree.specs.Path.{same_text, begins_with, stem, path_of_stem, is_under, is_at_or_under, parent_of, is_path, is_root}
use Rattle.ns_tree.specs.Space.{is_dir, is_dir_there, find, without, raise, raised, change_at}
use Rattle.ns_tree.proofs.Order.{same_text_is, same_text_self}
use Rattle.ns_tree.proofs.Finds.{changed, find_change, find_without}
use Rattle.ns_tree.proofs.Parents.{root_path, Below, below_root, stem_same}
use Rattle.ns_edits.specs.declared.refusal.AdmitRefusal.{AdmitRefusal}
use Rattle.ns_edits.specs.declared.refusal.AdmitRefusal.TheVariants.{Missing, NotFile, IntoItself, BadName, BadNumber}
use Rattle.ns_edits.specs.Admit.{first, refused_if, bad_path, ancestor, ancestors, finds, refused_dir, refused_open, is_one_of, bad_paths}
use Rattle.ns_edits.specs.Admit.{admit_part, admit_sources, no_source, blocks_of, blocks_at, admit_concat}
use Rattle.ns_edits.specs.Apply.{is_file_there, IsSource, AreSources}
use Rattle.ns_edits.proofs.Admitted.{all_passed, not_refused, is_so, ancestor_is, is_there}
use Rattle.std.proofs.lemmas.Bool.{or_parts}
use Rattle.ns_tree.proofs.Sound.{raised_dir}
use Rattle.ns_edits.proofs.Sources.{blocks_append}

-- ## A walk that met nothing met a directory at each `/`
dir_met : (r : AdmitRefusal) (xs : List Row) (so_far p rest : List ℕ) → ancestors r xs so_far (p ++ 47 ∷ rest) ≡ None → is_dir_there (find (path_of_stem (so_far ++ p)) xs) ≡ true
dir_met r xs so_far [] rest e =
    let t = all_passed (ancestor r (find (path_of_stem so_far) xs) ∷ ancestors r xs (so_far ++ 47 ∷ []) rest ∷ []) e in
    ap (λ (l : List ℕ). is_dir_there (find (path_of_stem l) xs)) (nothing so_far) ∙ ancestor_is r (find (path_of_stem so_far) xs) t.0
  where
    nothing : (l : List ℕ) → l ++ [] ≡ l
    nothing [] = refl
    nothing (x ∷ l) = ap (λ (m : List ℕ). x ∷ m) (nothing l)
dir_met r xs so_far (b ∷ p) rest e = by (b == 47) e (λ f. dir_met r xs (so_far ++ b ∷ []) p rest f)
  where
    Goal : Type 0
    Goal = is_dir_there (find (path_of_stem (so_far ++ b ∷ p)) xs) ≡ true

    deeper : is_dir_there (find (path_of_stem ((so_far ++ b ∷ []) ++ p)) xs) ≡ true → Goal
    deeper h = ap (λ (l : List ℕ). is_dir_there (find (path_of_stem l) xs)) (sym (append_assoc so_far (b ∷ []) p)) ∙ h

    by : (z : Bool) → cond z (first (ancestor r (find (path_of_stem so_far) xs) ∷ ancestors r xs (so_far ++ b ∷ []) (p ++ 47 ∷ rest) ∷ [])) (ancestors r xs (so_far ++ b ∷ []) (p ++ 47 ∷ rest)) ≡ None
        → (ancestors r xs (so_far ++ b ∷ []) (p ++ 47 ∷ rest) ≡ None → is_dir_there (find (path_of_stem ((so_far ++ b ∷ []) ++ p)) xs) ≡ true) → Goal
    by true e go = deeper (go (all_passed (ancestor r (find (path_of_stem so_far) xs) ∷ ancestors r xs (so_far ++ b ∷ []) (p ++ 47 ∷ rest) ∷ []) e).1.0)
    by false e go = deeper (go e)

-- what begins with a text and a `/` is these and a rest
record Front (p q : List ℕ) : Type 0 where
  rest : List ℕ
  is : q ≡ p ++ 47 ∷ rest

front_of : (p q : List ℕ) → begins_with (p ++ 47 ∷ []) q ≡ true → Front p q
front_of [] [] e = absurd (cc e)
front_of [] (x ∷ q) e = let same : 47 ≡ x = (let t : (47 == x) ≡ true = left (47 == x) true e in grind (arith, nat_tests, t)) in record { rest = q; is = ap (λ (n : ℕ). n ∷ q) (sym same) }
  where
    left : (a b : Bool) → (a && b) ≡ true → a ≡ true
    left true b e = refl
    left false b e = absurd (cc e)
front_of (n ∷ p) [] e = absurd (cc e)
front_of (n ∷ p) (x ∷ q) e = more (front_of p q (both (n == x) (begins_with (p ++ 47 ∷ []) q) e).1)
  where
    both : (a b : Bool) → (a && b) ≡ true → (a ≡ true) × (b ≡ true)
    both true b e = (refl, e)
    both false b e = absurd (cc e)

    more : Front p q → Front (n ∷ p) (x ∷ q)
    more f = let same : n ≡ x = (let t : (n == x) ≡ true = (both (n == x) (begins_with (p ++ 47 ∷ []) q) e).0 in grind (arith, nat_tests, t))
        in record { rest = f.rest; is = (λ i. sym same i ∷ f.is i) }

-- nothing that is found is under a file
file_apart : (p q : List ℕ) (xs : List Row) → Below p → Below q → is_file_there (find p xs) ≡ true → finds q xs ≡ None → is_under p q ≡ false
file_apart p q xs b d file e = by (is_under p q) refl
  where
    not_both : (o : Option Inode) → is_file_there o ≡ true → is_dir_there o ≡ true → ⊥
    not_both None f g = cc f
    not_both (Some (Dir m s u g n k)) f h = cc f
    not_both (Some (File r m a s p u g ls c)) f h = cc h

    by : (z : Bool) → is_under p q ≡ z → is_under p q ≡ false
    by false is = is
    by true is =
        let f : Front p q = front_of p q (ap (λ (l : List ℕ). begins_with (l ++ 47 ∷ []) q) (sym (stem_same p b)) ∙ (ap (begins_with (stem p ++ 47 ∷ [])) (sym (stem_same q d)) ∙ is)) in
        let t = all_passed (ancestors Missing xs [] (stem q) ∷ refused_if (not (is_some (find q xs))) Missing ∷ []) e in
        let walked : ancestors Missing xs [] (p ++ 47 ∷ f.rest) ≡ None = ap (ancestors Missing xs []) (sym (stem_same q d ∙ f.is)) ∙ t.0 in
        absurd (not_both (find p xs) file (ap (λ (l : List ℕ). is_dir_there (find l xs)) (sym (ap path_of_stem b.is ∙ sym b.is)) ∙ dir_met Missing xs [] p f.rest walked))

-- ## Sources that are left
changed_file : (b : Bool) (f : Inode → Inode) → ((i : Inode) → is_dir (f i) ≡ is_dir i) → (o : Option Inode) → is_file_there (changed b f o) ≡ is_file_there o
changed_file b f dirs None = refl
changed_file true f dirs (Some i) = ap not (dirs i)
changed_file false f dirs (Some i) = refl

source_changed : (p q : List ℕ) (f : Inode → Inode) (xs : List Row) → ((i : Inode) → is_dir (f i) ≡ is_dir i) → IsSource q xs → IsSource q (change_at p f xs)
source_changed p q f xs dirs h = record { path = h.path; below = h.below; file = ap is_file_there (find_change p q f xs) ∙ changed_file (same_text p q) f dirs (find q xs) ∙ h.file }

pub sources_changed : (p : List ℕ) (f : Inode → Inode) (ps : List (List ℕ)) (xs : List Row) → ((i : Inode) → is_dir (f i) ≡ is_dir i) → AreSources ps xs → AreSources ps (change_at p f xs)
sources_changed p f [] xs dirs h = tt
sources_changed p f (q ∷ qs) xs dirs h = (source_changed p q f xs dirs h.0, h.1, sources_changed p f qs xs dirs h.2)

sources_without : (p : List ℕ) (ps : List (List ℕ)) (xs : List Row) → AllByRecursion (λ q. is_at_or_under p q ≡ false) ps → AreSources ps xs → AreSources ps (without p xs)
sources_without p [] xs apart h = tt
sources_without p (q ∷ qs) xs apart h =
    (record { path = h.0.path; below = h.0.below; file = ap is_file_there (find_without p q xs apart.0) ∙ h.0.file }, h.1, sources_without p qs xs apart.1 h.2)

-- once the first of them went, and its parent's mtime was raised
pub sources_left : (p : List ℕ) (t : ℕ) (ps : List (List ℕ)) (xs : List Row) → AreSources (p ∷ ps) xs → AreSources ps (raise (parent_of p) t (without p xs))
sources_left p t ps xs h = sources_changed (parent_of p) (raised t) ps (without p xs) (raised_dir t) (sources_without p ps xs h.1 h.2)

-- ## What admission says of them
file_of : (o : Option Inode) → is_some o ≡ true → refused_dir NotFile o ≡ None → is_file_there o ≡ true
file_of None s e = absurd (cc s)
file_of (Some i) s e = ap not (not_refused (is_dir i) NotFile e)

file_not_root : (p : List ℕ) (xs : List Row) → is_dir_there (find root_path xs) ≡ true → refused_dir NotFile (find p xs) ≡ None → is_root p ≡ false
file_not_root p xs root e = by (is_root p) refl
  where
    dir : (o : Option Inode) → is_dir_there o ≡ true → refused_dir NotFile o ≡ None → ⊥
    dir None d f = cc d
    dir (Some i) d f = cc (sym d ∙ not_refused (is_dir i) NotFile f)

    by : (b : Bool) → is_root p ≡ b → is_root p ≡ false
    by false is = is
    by true is = absurd (dir (find p xs) (ap (λ (w : List ℕ). is_dir_there (find w xs)) (same_text_is p root_path is) ∙ root) e)

source_is : (p : List ℕ) (xs : List Row) → is_dir_there (find root_path xs) ≡ true → bad_path p ≡ None → admit_part p xs ≡ None → IsSource p xs
source_is p xs root path part =
    let t = all_passed (finds p xs ∷ refused_dir NotFile (find p xs) ∷ refused_open (find p xs) ∷ []) part in
    record { path = is_so (is_path p) BadName path; below = file_not_root p xs root t.1.0; file = file_of (find p xs) (is_there p xs t.0) t.1.0 }

other_text : (p q : List ℕ) → same_text q p ≡ false → same_text p q ≡ false
other_text p q e = by (same_text p q) refl
  where
    by : (z : Bool) → same_text p q ≡ z → same_text p q ≡ false
    by false is = is
    by true is = absurd (cc (sym (same_text_self p) ∙ (ap (λ (w : List ℕ). same_text w p) (same_text_is p q is) ∙ e)))

-- those that are listed after p, which is one of those listed before them
module _ (p : List ℕ) (xs : List Row) (root : is_dir_there (find root_path xs) ≡ true) (source : IsSource p xs) where
  apart_from : (before ps : List (List ℕ)) → ((q : List ℕ) → is_one_of q before ≡ false → same_text q p ≡ false) → bad_paths ps ≡ None
      → admit_sources before ps xs ≡ None → AllByRecursion (λ q. is_at_or_under p q ≡ false) ps
  apart_from before [] listed paths e = tt
  apart_from before (q ∷ qs) listed paths e =
      let t = all_passed (bad_path q ∷ bad_paths qs ∷ []) paths in
      let u = all_passed (refused_if (is_one_of q before) IntoItself ∷ admit_part q xs ∷ admit_sources (q ∷ before) qs xs ∷ []) e in
      let other : IsSource q xs = source_is q xs root t.0 u.1.0 in
      let found : finds q xs ≡ None = (all_passed (finds q xs ∷ refused_dir NotFile (find q xs) ∷ refused_open (find q xs) ∷ []) u.1.0).0 in
      let text : same_text p q ≡ false = other_text p q (listed q (not_refused (is_one_of q before) IntoItself u.0)) in
      let under : is_under p q ≡ false = file_apart p q xs (below_root p source.path source.below) (below_root q other.path other.below) source.file found in
      (rw (text, under) refl, apart_from (q ∷ before) qs (λ r not_one. listed r (or_parts (same_text r q) (is_one_of r before) not_one).1) t.1.0 u.1.1.0)

pub are_sources : (before ps : List (List ℕ)) (xs : List Row) → is_dir_there (find root_path xs) ≡ true → bad_paths ps ≡ None → admit_sources before ps xs ≡ None → AreSources ps xs
are_sources before [] xs root a b = tt
are_sources before (p ∷ ps) xs root a b =
    let t = all_passed (bad_path p ∷ bad_paths ps ∷ []) a in
    let u = all_passed (refused_if (is_one_of p before) IntoItself ∷ admit_part p xs ∷ admit_sources (p ∷ before) ps xs ∷ []) b in
    let source : IsSource p xs = source_is p xs root t.0 u.1.0 in
    (source, apart_from p xs root source (p ∷ before) ps (λ q not_one. (or_parts (same_text q p) (is_one_of q before) not_one).0) t.1.0 u.1.1.0, are_sources (p ∷ before) ps xs root t.1.0 u.1.1.0)

-- of a concat: the target is a path that is found, the sources can go
pub record Joins (target : List ℕ) (ps : List (List ℕ)) (xs : List Row) : Type 0 where
  pub there : finds target xs ≡ None
  pub sources : AreSources ps xs

pub concat_joins : (target : List ℕ) (ps : List (List ℕ)) (xs : List Row) → is_dir_there (find root_path xs) ≡ true → admit_concat target ps xs ≡ None → Joins target ps xs
concat_joins target ps xs root e =
    let q = all_passed (bad_path target ∷ bad_paths ps ∷ refused_if (no_source ps) BadNumber ∷ admit_part target xs ∷ admit_sources (target ∷ []) ps
    xs ∷ refused_if (nat_lt 65535 (length (blocks_at (target ∷ ps) xs))) BadNumber ∷ []) e in
    record {
      there = (all_passed (finds target xs ∷ refused_dir NotFile (find target xs) ∷ refused_open (find target xs) ∷ []) q.1.1.1.0).0;
      sources = are_sources (target ∷ []) ps xs root q.1.0 q.1.1.1.1.0;
    }

-- ## One source after the other
pub next_source : (ps : List (List ℕ)) (i : ℕ) (p : List ℕ) → i < length ps → p ≡ get_or ps i p → drop i ps ≡ p ∷ drop (i + 1) ps
next_source ps i p h is = rw add-one (drop-cons ps i p h ∙ ap (λ (q : List ℕ). q ∷ drop (suc i) ps) (sym is))

pub blocks_next : (target : List ℕ) (ps : List (List ℕ)) (xs : List Row) (i : ℕ) (p : List ℕ) (all new : List ℕ) → i < length ps → p ≡ get_or ps i p
    → all ≡ blocks_at (target ∷ take i ps) xs → new ≡ all ++ blocks_of (find p xs)
    → new ≡ blocks_at (target ∷ take (i + 1) ps) xs
blocks_next target ps xs i p all new h is before grown =
    let front : take (i + 1) ps ≡ take i ps ++ p ∷ [] = rw add-one (take-suc ps i p h ∙ ap (λ (q : List ℕ). take i ps ++ q ∷ []) (sym is)) in
    grown ∙ ap (λ (ns : List ℕ). ns ++ blocks_of (find p xs)) before
    ∙ append_assoc (blocks_of (find target xs)) (blocks_at (take i ps) xs) (blocks_of (find p xs))
    ∙ ap (λ (ns : List ℕ). blocks_of (find target xs) ++ ns)
    (ap (λ (ns : List ℕ). blocks_at (take i ps) xs ++ ns) (sym (append-nil (blocks_of (find p xs))))
    ∙ sym (blocks_append (take i ps) (p ∷ []) xs)
    ∙ ap (λ (qs : List (List ℕ)). blocks_at qs xs) (sym front))
