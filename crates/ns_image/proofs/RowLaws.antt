-- Rows that are read are those that were written, and what was written is read again.
use Rattle.std.proofs.Common.{◌≡◌, ℕ, ◌≤◌, true, List, [], ◌∷◌, ◌++◌, length, Ok, refl, ap, subst, ◌∙◌, append_assoc, arith}
use Rattle.base_words.specs.Fields.{IsBytes}
use Rattle.base_words.proofs.FieldLaws.{Begins, Begins-then}
use Rattle.edit_ops.proofs.SourceLaws.{ok_is}
use Rattle.ns_tree.specs.declared.inode.Inode.{Inode}
use Rattle.ns_tree.specs.declared.inode.Inode.TheVariants.{Dir, File}
use Rattle.ns_tree.specs.declared.inode.Row.{Row}
use Rattle.ns_tree.specs.Path.{is_path, is_root}
use Rattle.ns_tree.specs.Space.{pair, is_dir, IsInode}
use Rattle.ns_tree.specs.Last.{is_after_last, has_parent}
use Rattle.ns_tree.proofs.Order.{same_text_is}
use Rattle.ns_image.specs.declared.image_cause.ImageCause.TheVariants.{Order, NoParent}
use Rattle.ns_image.specs.Layouts.{text_bytes, inode_bytes, row_bytes}
use Rattle.ns_image.specs.Reading.{root_at, next_path_at, row_at}
use Rattle.ns_image.specs.Rows.{MayStand}
use Rattle.ns_image.proofs.FieldLaws.{bind_ok, wanted_ok, byte_takes, byte_again, path_takes, path_again}
use Rattle.ns_image.proofs.Items.{AreNext, OneTaken}
use Rattle.ns_image.proofs.InodeLaws.{fields_bytes, dir_takes, dir_again, inode_takes, inode_again}

-- ## The root
abbrev pub root_row : Inode → Row
root_row inode = pair (47 ∷ []) inode

zero_byte : (n : ℕ) → n ≤ 0 → n ≡ 0
zero_byte n le = omega (arith, le)

dir_kind : (i : Inode) → is_dir i ≡ true → 0 ∷ fields_bytes i ≡ inode_bytes i
dir_kind (Dir m p u g n s) d = refl
dir_kind (File r m a b p u g ls c) d = absurd (cc d)

pub root_takes : {bytes : List ℕ} {x : Inode × List ℕ} → IsBytes bytes → root_at bytes ≡ Ok x → Begins bytes (row_bytes (root_row x.0)) x.1 × IsInode x.0 × (is_dir x.0 ≡ true)
unfolding root_at
root_takes {bytes = bytes} {x = x} fits e =
    let p = bind_ok e in
    let f = bind_ok p.2 in
    let k = bind_ok f.2 in
    let w = wanted_ok (is_root p.0.0) Order bytes p.0 f.0 f.1 in
    let tp = path_takes {bytes = bytes} {x = p.0} fits p.1 in
    let tf : Begins bytes (text_bytes (47 ∷ [])) f.0.1 = subst (λ (y : List ℕ × List ℕ). Begins bytes (text_bytes (47 ∷ [])) y.1) w.1
    (subst (λ (q : List ℕ). Begins bytes (text_bytes q) p.0.1) (same_text_is p.0.0 (47 ∷ []) w.0) tp.0) in
    let tk = byte_takes {high = 0} {bytes = f.0.1} {x = k.0} tf.left k.1 in
    let kind : Begins f.0.1 (0 ∷ []) k.0.1 = subst (λ (n : ℕ). Begins f.0.1 (n ∷ []) k.0.1) (zero_byte k.0.0 tk.1) tk.0 in
    let td = dir_takes {bytes = k.0.1} {x = x} tk.0.left k.2 in
    let inode : Begins f.0.1 (inode_bytes x.0) x.1 = subst (λ (t : List ℕ). Begins f.0.1 t x.1) (dir_kind x.0 td.2) (Begins-then kind td.0) in
    (Begins-then tf inode, td.1, td.2)

pub root_again : (inode : Inode) (rest : List ℕ) → IsInode inode → is_dir inode ≡ true → root_at (row_bytes (root_row inode) ++ rest) ≡ Ok (inode, rest)
unfolding root_at
root_again (File r m a b p u g ls c) rest good dir = absurd (cc dir)
root_again (Dir m p u g n s) rest good dir =
    let regrouped : row_bytes (root_row (Dir m p u g n s)) ++ rest ≡ text_bytes (47 ∷ []) ++ (0 ∷ (fields_bytes (Dir m p u g n s) ++ rest)) =
    append_assoc (text_bytes (47 ∷ [])) (inode_bytes (Dir m p u g n s)) rest in
    ap root_at regrouped
    ∙ rw (
      path_again (47 ∷ []) (0 ∷ (fields_bytes (Dir m p u g n s) ++ rest)) refl (omega arith),
      byte_again 0 0 (fields_bytes (Dir m p u g n s) ++ rest) (omega arith),
    ) (dir_again m p u g n s rest good)

-- ## One row more
record PathTaken (rows : List Row) (bytes : List ℕ) (x : List ℕ × List ℕ) : Type 0 where
  taken : Begins bytes (text_bytes x.0) x.1
  path : is_path x.0 ≡ true
  short : length x.0 ≤ 1000
  last : is_after_last x.0 rows ≡ true
  parent : has_parent x.0 rows ≡ true

next_path_takes : {rows : List Row} {bytes : List ℕ} {x : List ℕ × List ℕ} → IsBytes bytes → next_path_at rows bytes ≡ Ok x → PathTaken rows bytes x
unfolding next_path_at
next_path_takes {rows = rows} {bytes = bytes} {x = x} fits e =
    let p = bind_ok e in
    let l = bind_ok p.2 in
    let w = wanted_ok (is_after_last p.0.0 rows) Order bytes p.0 l.0 l.1 in
    let v = wanted_ok (has_parent l.0.0 rows) NoParent bytes l.0 x l.2 in
    let t = path_takes {bytes = bytes} {x = p.0} fits p.1 in
    let same : p.0 ≡ x = w.1 ∙ v.1 in
    let parent : has_parent p.0.0 rows ≡ true = ap (λ (y : List ℕ × List ℕ). has_parent y.0 rows) w.1 ∙ v.0 in
    subst (λ (y : List ℕ × List ℕ). PathTaken rows bytes y) same (record { taken = t.0; path = t.1; short = t.2; last = w.0; parent = parent })

pub row_takes : (rows : List Row) (bytes : List ℕ) (x : List Row × List ℕ) → IsBytes bytes → row_at rows bytes ≡ Ok x → OneTaken row_at row_bytes MayStand rows bytes x
unfolding row_at
row_takes rows bytes x fits e =
    let p = bind_ok e in
    let i = bind_ok p.2 in
    let tp = next_path_takes {rows = rows} {bytes = bytes} {x = p.0} fits p.1 in
    let ti = inode_takes {bytes = p.0.1} {x = i.0} tp.taken.left i.1 in
    let may : MayStand rows (pair p.0.0 i.0.0) = record { path = tp.path; short = tp.short; inode = ti.1; last = tp.last; parent = tp.parent } in
    subst (λ (y : List Row × List ℕ). OneTaken row_at row_bytes MayStand rows bytes y) (ok_is (rows ++ pair p.0.0 i.0.0 ∷ [], i.0.1) x i.2)
    (record { item = pair p.0.0 i.0.0; all = refl; taken = Begins-then tp.taken ti.0; may = may })

pub row_again : (rows : List Row) (row : Row) (rest : List ℕ) → MayStand rows row → row_at rows (row_bytes row ++ rest) ≡ Ok (rows ++ row ∷ [], rest)
unfolding row_at next_path_at
row_again rows row rest may =
    let regrouped : row_bytes row ++ rest ≡ text_bytes row.path ++ (inode_bytes row.inode ++ rest) = append_assoc (text_bytes row.path) (inode_bytes row.inode) rest in
    let last = may.last in
    let parent = may.parent in
    ap (row_at rows) regrouped
    ∙ rw (path_again row.path (inode_bytes row.inode ++ rest) may.path may.short, last, parent, inode_again row.inode rest may.inode) refl

-- each row may stand after those before it
abbrev pub MayGoOn : List Row → List Row → Type 0
MayGoOn = AreNext row_at row_bytes MayStand
