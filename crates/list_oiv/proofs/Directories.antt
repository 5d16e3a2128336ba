-- The names in a directory, and the lines of what has them.
use Rattle.std.proofs.Common.{◌≡◌, ℕ, List, [], ◌∷◌, ◌++◌, length, map, Bool, true, false, cond, Some, refl, sym, ap, ◌∙◌, append_assoc}
use Rattle.std.specs.Prelude.{filter, not}
use Rattle.std.specs.List.{flat_map}
use Rattle.std.specs.declared.cmp.Ordering.TheVariants.{Less}
use Rattle.std.proofs.lemmas.Bool.{and_parts}
use Rattle.std.proofs.lemmas.List.{length-map}
use Rattle.ns_tree.specs.declared.inode.Row.{Row}
use Rattle.ns_tree.specs.Path.{walk_cmp, stem, is_under, has_slash, part_under, is_right_under}
use Rattle.ns_tree.specs.Space.{Each, IsInWalkOrder, find, is_dir_there, names_under, children_of}
use Rattle.ns_tree.proofs.Order.{not_same_before, same_text_self}
use Rattle.ns_tree.proofs.TwoNames.{split_under}
use Rattle.ns_tree.proofs.Stands.{children_dir}
use Rattle.list_oiv.specs.Directory.{entry_line, rows_in, found_line, directory_text, path_in, line_of, line_at}

-- ## Each row is what stands at its path
each_before : (x : Row) (xs ys : List Row) → Each (λ y. walk_cmp x.path y.path ≡ Less) ys → Each (λ y. find y.path xs ≡ Some y.inode) ys → Each (λ y. find y.path (x ∷ xs) ≡ Some y.inode) ys
each_before x xs [] h e = tt
each_before x xs (y ∷ ys) h e = (rw (not_same_before y.path x.path h.0) e.0, each_before x xs ys h.1 e.1)

each_found : (xs : List Row) → IsInWalkOrder xs → Each (λ y. find y.path xs ≡ Some y.inode) xs
each_found [] h = tt
each_found (x ∷ xs) h = (rw (same_text_self x.path) refl, each_before x xs xs h.0 (each_found xs h.1))

-- ## The lines of names
-- the name of a row under a directory gives its path again
path_again : (p q : List ℕ) → is_right_under p q ≡ true → path_in p (part_under p q) ≡ q
path_again p q h =
    let parts : (is_under p q ≡ true) × (not (has_slash (part_under p q)) ≡ true) = and_parts (is_under p q) (not (has_slash (part_under p q))) h in
    sym (split_under p q parts.0 ∙ append_assoc (stem p) (47 ∷ []) (part_under p q))

lines_of_names : (p : List ℕ) (xs ys : List Row) → Each (λ y. find y.path xs ≡ Some y.inode) ys
    → flat_map (λ name. line_at xs (path_in p name)) (names_under p ys) ≡ flat_map entry_line (rows_in p ys)
lines_of_names p xs [] e = refl
lines_of_names p xs (y ∷ ys) e = by (is_right_under p y.path) refl (lines_of_names p xs ys e.1)
  where
    by : (z : Bool) → is_right_under p y.path ≡ z → flat_map (λ name. line_at xs (path_in p name)) (names_under p ys) ≡ flat_map entry_line (rows_in p ys)
        → flat_map (λ name. line_at xs (path_in p name)) (map (λ (w : Row). part_under p w.path)
        (cond z (y ∷ filter (λ (w : Row). is_right_under p w.path) ys) (filter (λ (w : Row). is_right_under p w.path) ys)))
        ≡ flat_map entry_line (cond z (y ∷ rows_in p ys) (rows_in p ys))
    by true k rest =
        let line : line_at xs (path_in p (part_under p y.path)) ≡ entry_line y = ap (line_at xs) (path_again p y.path k) ∙ ap (line_of y.path) e.0 in
        (λ i. line i ++ rest i)
    by false k rest = rest

-- ## The text of a directory
-- its names are counted, and then their lines appended
pub counted_and_told : (p : List ℕ) (xs : List Row) (names : List (List ℕ)) (empty counted text : List ℕ) → IsInWalkOrder xs → is_dir_there (find p xs) ≡ true → names ≡ children_of p xs
    → empty ≡ [] → counted ≡ empty ++ found_line (length names) → text ≡ counted ++ flat_map (λ name. line_at xs (path_in p name)) names → text ≡ directory_text p xs
counted_and_told p xs names empty counted text order dir is e c t =
    let are : names ≡ names_under p xs = is ∙ children_dir p xs dir in
    let size : length names ≡ length (rows_in p xs) = ap length are ∙ length-map (rows_in p xs) (λ (x : Row). part_under p x.path) in
    let front : counted ≡ found_line (length (rows_in p xs)) = c ∙ ap (λ (w : List ℕ). w ++ found_line (length names)) e ∙ ap found_line size in
    let lines : flat_map (λ name. line_at xs (path_in p name)) names ≡ flat_map entry_line (rows_in p xs) =
    ap (flat_map (λ name. line_at xs (path_in p name))) are ∙ lines_of_names p xs xs (each_found xs order) in
    t ∙ (λ i. front i ++ lines i)
