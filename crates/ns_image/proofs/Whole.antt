-- An image has one spelling in each layout, and what has an image is read back from it.
use Rattle.std.proofs.Common.{◌≡◌, ℕ, suc, ◌-◌, ◌^◌, ◌<◌, ◌≤◌, true, List, [], ◌∷◌, ◌++◌, length, Result, Ok, Err, refl, sym, ap, subst, ◌∙◌, append_assoc, arith, ◌==◌, inl, inr}
use Rattle.std.specs.Prelude.{IfOk}
use Rattle.std.specs.List.{flat_map}
use Rattle.std.specs.Int.{w32, w64, to_be_bytes}
use Rattle.std.proofs.lemmas.Bool.{eqb-true}
use Rattle.std.proofs.lemmas.List.{append-nil, nil_from_length}
use Rattle.std.proofs.lemmas.List.Concat.{flat_map-cons}
use Rattle.base_words.specs.Fields.{IsBytes}
use Rattle.base_words.proofs.FieldLaws.{Begins, Begins-then, field32, field64}
use Rattle.edit_ops.proofs.SourceLaws.{ok_is}
use Rattle.ns_tree.specs.declared.inode.Row.{Row}
use Rattle.ns_tree.specs.declared.inode.Noted.{Noted}
use Rattle.ns_tree.specs.Space.{Space}
use Rattle.ns_tree.specs.Places.{IsTree}
use Rattle.ns_image.specs.declared.image_cause.ImageCause.TheVariants.{Magic, Layout, Field, Trailing}
use Rattle.ns_image.specs.declared.image_fault.ImageFault.{ImageFault}
use Rattle.ns_image.specs.declared.answer.ReadImage.{ReadImage}
use Rattle.ns_image.specs.declared.answer.ReadImage.TheVariants.{Image}
use Rattle.ns_image.specs.Layouts.{magic, row_bytes, calls_bytes, image_bytes}
use Rattle.ns_image.specs.Reading.{row_at, tree_at, calls_at, head_at, Told, told, answer, reading_of}
use Rattle.ns_image.specs.Rows.{MayStand}
use Rattle.ns_image.specs.Laws.{IsImage, IsWithin}
use Rattle.ns_image.proofs.FieldLaws.{bind_ok, wanted_ok, number_takes, number_again}
use Rattle.ns_image.proofs.RowLaws.{root_row, root_takes, root_again, row_takes, row_again}
use Rattle.ns_image.proofs.Items.{many_take, many_again}
use Rattle.ns_image.proofs.Trees.{shape_of, grown, root_alone}
use Rattle.ns_image.proofs.CallLaws.{HasLayout, calls_take, calls_again, all_next, all_read}

-- ## The head
-- the head without the count of inodes
abbrev front_bytes : ℕ → ℕ → List ℕ
front_bytes layout txid = to_be_bytes w32 magic ++ (to_be_bytes w32 layout ++ to_be_bytes w64 txid)

record HeadTaken (bytes : List ℕ) (x : (ℕ × ℕ) × List ℕ) : Type 0 where
  taken : Begins bytes (front_bytes x.0.0 x.0.1) x.1
  low : 1 ≤ x.0.0
  high : x.0.0 ≤ 2
  most : x.0.1 ≤ 2 ^ 62

one_magic : (n : ℕ) → magic ≤ n → n ≤ magic → n ≡ magic
one_magic n low high = omega (arith, low, high)

head_takes : {bytes : List ℕ} {x : (ℕ × ℕ) × List ℕ} → IsBytes bytes → head_at bytes ≡ Ok x → HeadTaken bytes x
unfolding head_at
head_takes {bytes = bytes} {x = x} fits e =
    let m = bind_ok e in
    let l = bind_ok m.2 in
    let t = bind_ok l.2 in
    let tm = number_takes field32 _ fits m.1 in
    let tl = number_takes field32 _ tm.0.left l.1 in
    let tt_ = number_takes field64 _ tl.0.left t.1 in
    let first : Begins bytes (to_be_bytes w32 magic) m.0.1 = subst (λ (n : ℕ). Begins bytes (to_be_bytes w32 n) m.0.1) (one_magic m.0.0 tm.1 tm.2) tm.0 in
    subst (λ (y : (ℕ × ℕ) × List ℕ). HeadTaken bytes y) (ok_is ((l.0.0, t.0.0), t.0.1) x t.2)
    (record { taken = Begins-then first (Begins-then tl.0 tt_.0); low = tl.1; high = tl.2; most = tt_.2 })

head_again : (layout txid : ℕ) (rest : List ℕ) → 1 ≤ layout → layout ≤ 2 → txid ≤ 2 ^ 62
    → head_at (to_be_bytes w32 magic ++ (to_be_bytes w32 layout ++ (to_be_bytes w64 txid ++ rest))) ≡ Ok ((layout, txid), rest)
unfolding head_at
head_again layout txid rest low high most =
    rw (
      number_again field32 magic magic Magic magic (to_be_bytes w32 layout ++ (to_be_bytes w64 txid ++ rest)) (omega arith) (omega arith) (omega arith),
      number_again field32 1 2 Layout layout (to_be_bytes w64 txid ++ rest) (omega (arith, high)) low high,
      number_again field64 0 (2 ^ 62) Field txid rest (omega (arith, most)) (omega arith) most,
    ) refl

-- ## The tree
abbrev tree_bytes : List Row → List ℕ
tree_bytes pairs = to_be_bytes w32 (length pairs) ++ flat_map row_bytes pairs

record TreeTaken (bytes : List ℕ) (x : List Row × List ℕ) : Type 0 where
  taken : Begins bytes (tree_bytes x.0) x.1
  counted : length x.0 < 2 ^ 32
  tree : IsTree (record { pairs = x.0; calls = [] })

tree_takes : {bytes : List ℕ} {x : List Row × List ℕ} → IsBytes bytes → tree_at bytes ≡ Ok x → TreeTaken bytes x
unfolding tree_at
tree_takes {bytes = bytes} {x = x} fits e =
    let c = bind_ok e in
    let r = bind_ok c.2 in
    let tc = number_takes field32 _ fits c.1 in
    let tr = root_takes {bytes = c.0.1} {x = r.0} tc.0.left r.1 in
    let root = root_row r.0.0 in
    let rest = many_take row_at row_bytes MayStand row_takes (c.0.0 - 1) (root ∷ []) r.0.1 x tr.0.left r.2 in
    let rows : Begins c.0.1 (flat_map row_bytes (root ∷ rest.more)) x.1 =
    subst (λ (t : List ℕ). Begins c.0.1 t x.1) (sym (flat_map-cons row_bytes root rest.more)) (Begins-then tr.0 rest.taken) in
    let count : c.0.0 ≡ length (root ∷ rest.more) = omega (arith, rest.counted, tc.1) in
    let all : Begins bytes (tree_bytes (root ∷ rest.more)) x.1 = subst (λ (n : ℕ). Begins bytes (to_be_bytes w32 n ++ flat_map row_bytes (root ∷ rest.more)) x.1) count (Begins-then tc.0 rows) in
    subst (λ (ys : List Row). TreeTaken bytes (ys, x.1)) (sym rest.all)
    (record { taken = all; counted = omega (arith, sym count, tc.2); tree = grown (root ∷ []) rest.more rest.good (root_alone r.0.0 tr.1 tr.2) })

tree_again : (s : Space) (rest : List ℕ) → IsTree s → length s.pairs < 2 ^ 32 → tree_at (tree_bytes s.pairs ++ rest) ≡ Ok (s.pairs, rest)
unfolding tree_at
tree_again s rest h few =
    let shape = shape_of s h in
    let root = root_row shape.root in
    let some : length s.pairs ≡ suc (length shape.more) = ap (λ (ys : List Row). length ys) shape.is in
    let count : length (root ∷ shape.more) - 1 ≡ length shape.more = omega arith in
    let one : length (root ∷ shape.more) < 2 ^ 32 = omega (arith, few, some) in
    let after : List ℕ = flat_map row_bytes shape.more ++ rest in
    let regrouped : tree_bytes (root ∷ shape.more) ++ rest ≡ to_be_bytes w32 (length (root ∷ shape.more)) ++ (row_bytes root ++ after) =
    ap (λ (t : List ℕ). (to_be_bytes w32 (length (root ∷ shape.more)) ++ t) ++ rest) (flat_map-cons row_bytes root shape.more)
    ∙ (append_assoc (to_be_bytes w32 (length (root ∷ shape.more))) (row_bytes root ++ flat_map row_bytes shape.more) rest
    ∙ ap (λ (t : List ℕ). to_be_bytes w32 (length (root ∷ shape.more)) ++ t) (append_assoc (row_bytes root) (flat_map row_bytes shape.more) rest)) in
    let read : tree_at (tree_bytes (root ∷ shape.more) ++ rest) ≡ Ok (root ∷ shape.more, rest) =
    ap tree_at regrouped
    ∙ rw (
      number_again field32 1 (2 ^ 32 - 1) Field (length (root ∷ shape.more)) (row_bytes root ++ after) one (omega arith) (omega (arith, one)),
      root_again shape.root after shape.good shape.dir,
      count,
    ) (many_again row_at row_bytes MayStand row_again (root ∷ []) shape.more rest shape.next) in
    subst (λ (ys : List Row). tree_at (tree_bytes ys ++ rest) ≡ Ok (ys, rest)) (sym shape.is) read

-- ## The whole
no_rest : (n : ℕ) (bytes : List ℕ) → (length bytes == 0) ≡ true → bytes ≡ []
no_rest n bytes e = nil_from_length bytes (eqb-true _ _ e)

grouped : (a b c d e f : List ℕ) → ((a ++ (b ++ c)) ++ ((d ++ e) ++ f)) ≡ (a ++ (b ++ (c ++ d))) ++ (e ++ f)
grouped a b c d e f = simp append_assoc

regroup : (a b c d e f : List ℕ) → (a ++ (b ++ (c ++ d))) ++ (e ++ f) ≡ a ++ (b ++ (c ++ ((d ++ e) ++ f)))
regroup a b c d e f = simp append_assoc

pub one_spelling : (bytes : List ℕ) (image : Told) → IsBytes bytes → told bytes ≡ Ok image → (bytes ≡ image_bytes image.layout image.space image.txid) × IsImage image
unfolding told
one_spelling bytes image fits e =
    let h = bind_ok e in
    let t = bind_ok h.2 in
    let c = bind_ok t.2 in
    let th = head_takes {bytes = bytes} {x = h.0} fits h.1 in
    let tr = tree_takes {bytes = h.0.1} {x = t.0} th.taken.left t.1 in
    let tc = calls_take h.0.0.0 h.0.0.1 t.0.1 c.0 th.low th.high tr.taken.left c.1 in
    let made : Told = record { layout = h.0.0.0; space = record { pairs = t.0.0; calls = c.0.0 }; txid = h.0.0.1 } in
    let w = wanted_ok (length c.0.1 == 0) Trailing c.0.1 made image c.2 in
    let nothing : c.0.1 ≡ [] = no_rest 0 c.0.1 w.0 in
    let parts = Begins-then th.taken (Begins-then tr.taken tc.taken) in
    let spelled : bytes ≡ image_bytes made.layout made.space made.txid =
    parts.spelled
    ∙ (ap (λ (r : List ℕ). (front_bytes h.0.0.0 h.0.0.1 ++ (tree_bytes t.0.0 ++ calls_bytes h.0.0.0 c.0.0)) ++ r) nothing
    ∙ (append-nil (front_bytes h.0.0.0 h.0.0.1 ++ (tree_bytes t.0.0 ++ calls_bytes h.0.0.0 c.0.0))
    ∙ grouped (to_be_bytes w32 magic) (to_be_bytes w32 h.0.0.0) (to_be_bytes w64 h.0.0.1) (to_be_bytes w32 (length t.0.0)) (flat_map row_bytes t.0.0) (calls_bytes h.0.0.0 c.0.0))) in
    let all = all_read t.0.0 h.0.0.1 c.0.0 tr.tree tc.few th.most tc.good in
    let is : IsImage made = record { tree = all.tree; counted = tr.counted; txid = th.most; rising = all.rising; sent = all.sent; layout = tc.layout_is } in
    subst (λ (i : Told). (bytes ≡ image_bytes i.layout i.space i.txid) × IsImage i) w.1 (spelled, is)

layout_bounds : (layout : ℕ) (calls : List Noted) → HasLayout layout calls → (1 ≤ layout) × (layout ≤ 2)
layout_bounds layout calls (inl h) = (omega (arith, h.0), omega (arith, h.0))
layout_bounds layout calls (inr h) = (omega (arith, h), omega (arith, h))

pub read_back : (image : Told) → IsImage image → told (image_bytes image.layout image.space image.txid) ≡ Ok image
unfolding told
read_back image h =
    let bounds = layout_bounds image.layout image.space.calls h.layout in
    let calls = calls_bytes image.layout image.space.calls in
    let tree = tree_bytes image.space.pairs in
    let regrouped : image_bytes image.layout image.space image.txid ≡ to_be_bytes w32 magic ++ (to_be_bytes w32 image.layout ++ (to_be_bytes w64 image.txid ++ (tree ++ calls))) =
    regroup (to_be_bytes w32 magic) (to_be_bytes w32 image.layout) (to_be_bytes w64 image.txid) (to_be_bytes w32 (length image.space.pairs)) (flat_map row_bytes image.space.pairs) calls in
    let next = all_next image.space image.txid h.tree h.rising h.sent in
    let read : calls_at image.layout image.txid calls ≡ Ok (image.space.calls, []) =
    ap (calls_at image.layout image.txid) (sym (append-nil calls)) ∙ calls_again image.layout image.txid image.space.calls [] h.layout (omega (arith, h.txid)) h.tree.few next in
    ap told regrouped
    ∙ rw (head_again image.layout image.txid (tree ++ calls) bounds.0 bounds.1 h.txid, tree_again image.space calls h.tree h.counted, read) refl

pub answered : (space : Space) (txid : ℕ) (bytes : List ℕ) → bytes ≡ image_bytes 2 space txid → IsImage (record { layout = 2; space = space; txid = txid }) → reading_of bytes ≡ Image space txid
answered space txid bytes is h = ap (answer (length bytes)) (ap told is ∙ read_back (record { layout = 2; space = space; txid = txid }) h)

-- ## What is read is within its limits
within : (bytes : List ℕ) → IsBytes bytes → IsWithin (reading_of bytes)
within bytes fits = by (told bytes) refl
  where
    by : (r : Result Told ImageFault) → told bytes ≡ r → IsWithin (answer (length bytes) r)
    by (Ok image) e = let h : IsImage image = (one_spelling bytes image fits e).1 in (h.txid, h.rising)
    by (Err f) e = tt

pub is_within : {E : Type 0} (bytes : List ℕ) (r : Result ReadImage E) → IsBytes bytes → IfOk r (λ read. read ≡ reading_of bytes) → IfOk r (λ read. IsWithin read)
is_within bytes (Ok read) fits e = subst IsWithin (sym e) (within bytes fits)
is_within bytes (Err x) fits e = tt
