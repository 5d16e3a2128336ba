-- Rows that are read by the last one alone are those that are read by all before them.
use Rattle.std.proofs.Common.{◌≡◌, ℕ, ◌+◌, ◌-◌, ◌<◌, ◌≤◌, Bool, true, false, List, [], ◌∷◌, ◌++◌, length, Result, Ok, Err, refl, sym, ap, subst, ◌∙◌, arith, ◌==◌}
use Rattle.std.specs.Ordering.{is_lt}
use Rattle.std.proofs.lemmas.Bool.{and_parts}
use Rattle.std.proofs.lemmas.List.{length_push}
use Rattle.edit_ops.proofs.SourceLaws.{ok_is}
use Rattle.ns_tree.specs.declared.inode.Inode.{Inode}
use Rattle.ns_tree.specs.declared.inode.Noted.{Noted}
use Rattle.ns_tree.specs.declared.inode.Row.{Row}
use Rattle.ns_tree.specs.Path.{is_path, walk_cmp, parent_of}
use Rattle.ns_tree.specs.Space.{pair, find, is_dir, is_dir_there, IsInode}
use Rattle.ns_tree.specs.Last.{last_path, is_after_last, has_parent}
use Rattle.ns_tree.proofs.Walks.{is_less}
use Rattle.ns_image.specs.declared.image_cause.ImageCause.TheVariants.{Order, NoParent, Field}
use Rattle.ns_image.specs.declared.image_fault.ImageFault.{ImageFault}
use Rattle.ns_image.specs.declared.image_fault.ReadError.{ReadError}
use Rattle.ns_image.specs.declared.image_fault.ReadError.TheVariants as errors
use Rattle.ns_image.specs.Reading.{◌>>=◌, Fails, wanted, is_short_path, text_at, path_at, inode_at, next_path_at, row_at, repeated, tree_at, calls_at, head_at, told}
use Rattle.ns_image.specs.Rows.{MayStand, MayTake, HasTaken, IsNext, EndsAt, is_above_last, path_after, row_after}
use Rattle.ns_image.proofs.FieldLaws.{bind_ok, wanted_ok}
use Rattle.ns_image.proofs.Items.{goes_on, ends, is_done, at_first}
use Rattle.ns_image.proofs.LastRow.{parent_by_last, ends_next}

path_good : (bytes : List ℕ) (x : List ℕ × List ℕ) → path_at bytes ≡ Ok x → is_path x.0 ≡ true
unfolding path_at
path_good bytes x e =
    let t = bind_ok {r = text_at bytes} {f = λ text. wanted (is_short_path text.0) Field bytes text} e in
    let w = wanted_ok (is_short_path t.0.0) Field bytes t.0 x t.2 in
    ap (λ (y : List ℕ × List ℕ). is_path y.0) (sym w.1) ∙ (and_parts (is_path t.0.0) _ w.0).0

abbrev row_of : List ℕ → Inode × List ℕ → Result (Row × List ℕ) ImageFault
row_of path inode = Ok (pair path inode.0, inode.1)

-- the rows, with one more
abbrev with_row : List Row → Row × List ℕ → Result (List Row × List ℕ) ImageFault
with_row rows x = Ok (rows ++ x.0 ∷ [], x.1)

module _ (rows : List Row) (last : List ℕ) (directory : Bool) (at : EndsAt rows last directory) where
  -- the path that is read by the last row alone is the one that is read by all rows
  same_path : (bytes : List ℕ) → path_after last directory bytes ≡ next_path_at rows bytes
  unfolding path_after next_path_at
  same_path bytes = by (path_at bytes) refl
    where
      lasts : (p : List ℕ) → is_lt (walk_cmp last p) ≡ is_after_last p rows
      lasts p = ap (λ (q : List ℕ). is_lt (walk_cmp q p)) (sym at.last)

      parents : (p : List ℕ) → is_path p ≡ true → is_after_last p rows ≡ true → is_above_last (parent_of p) last directory ≡ has_parent p rows
      parents p good after =
          ap (λ (q : List ℕ). is_above_last (parent_of p) q directory) (sym at.last)
          ∙ ap (is_above_last (parent_of p) (last_path rows)) (sym at.kind ∙ ap (λ (q : List ℕ). is_dir_there (find q rows)) (sym at.last))
          ∙ sym (parent_by_last rows at.tree p good (is_less (walk_cmp (last_path rows) p) after))

      by : (r : Result (List ℕ × List ℕ) ImageFault) → path_at bytes ≡ r
          → (r >>= λ path. wanted (is_lt (walk_cmp last path.0)) Order bytes path >>= λ later. wanted (is_above_last (parent_of later.0) last directory) NoParent bytes later)
          ≡ (r >>= λ path. wanted (is_after_last path.0 rows) Order bytes path >>= λ later. wanted (has_parent later.0 rows) NoParent bytes later)
      by (Err f) e = refl
      by (Ok x) e = rw (lasts x.0) (then (is_after_last x.0 rows) refl)
        where
          then : (b : Bool) → is_after_last x.0 rows ≡ b
              → (wanted b Order bytes x >>= λ later. wanted (is_above_last (parent_of later.0) last directory) NoParent bytes later)
              ≡ (wanted b Order bytes x >>= λ later. wanted (has_parent later.0 rows) NoParent bytes later)
          then true after = ap (λ (z : Bool). wanted z NoParent bytes x) (parents x.0 (path_good bytes x e) after)
          then false after = refl

  -- the row that is read by the last one alone, put behind all rows, is the one that is read by all
  same_row : (bytes : List ℕ) → row_at rows bytes ≡ (row_after last directory bytes >>= with_row rows)
  unfolding row_after row_at
  same_row bytes = rw (same_path bytes) (by (next_path_at rows bytes))
    where
      then : (path : List ℕ) (r : Result (Inode × List ℕ) ImageFault)
          → (r >>= λ inode. with_row rows (pair path inode.0, inode.1)) ≡ ((r >>= row_of path) >>= with_row rows)
      then path (Err f) = refl
      then path (Ok i) = refl

      by : (r : Result (List ℕ × List ℕ) ImageFault)
          → (r >>= λ path. (inode_at path.1 >>= λ inode. with_row rows (pair path.0 inode.0, inode.1))) ≡ ((r >>= λ path. (inode_at path.1 >>= row_of path.0)) >>= with_row rows)
      by (Err f) = refl
      by (Ok p) = then p.0 (inode_at p.1)

  pub row_read : (bytes : List ℕ) (x : Row × List ℕ) → row_after last directory bytes ≡ Ok x → row_at rows bytes ≡ Ok (rows ++ x.0 ∷ [], x.1)
  row_read bytes x e = same_row bytes ∙ ap (λ (r : Result (Row × List ℕ) ImageFault). r >>= with_row rows) e

  pub row_fails : (bytes : List ℕ) (e : ReadError) → Fails e (row_after last directory bytes) → Fails e (row_at rows bytes)
  row_fails bytes errors.Memory h = tt
  row_fails bytes (errors.Fault f) h = same_row bytes ∙ ap (λ (r : Result (Row × List ℕ) ImageFault). r >>= with_row rows) h

  -- that row may stand next
  placed : (bytes : List ℕ) (x : Row × List ℕ) → row_after last directory bytes ≡ Ok x → (is_after_last x.0.path rows ≡ true) × (has_parent x.0.path rows ≡ true)
  unfolding row_after next_path_at
  placed bytes x e =
      let p = bind_ok {r = path_after last directory bytes} {f = λ path. (inode_at path.1 >>= row_of path.0)} e in
      let i = bind_ok {r = inode_at p.0.1} {f = row_of p.0.0} p.2 in
      let q = bind_ok {r = path_at bytes} {f = λ path. (wanted (is_after_last path.0 rows) Order bytes path >>= λ later.
      wanted (has_parent later.0 rows) NoParent bytes later)} (sym (same_path bytes) ∙ p.1) in
      let l = bind_ok {r = wanted (is_after_last q.0.0 rows) Order bytes q.0} {f = λ later. wanted (has_parent later.0 rows) NoParent bytes later} q.2 in
      let w = wanted_ok (is_after_last q.0.0 rows) Order bytes q.0 l.0 l.1 in
      let v = wanted_ok (has_parent l.0.0 rows) NoParent bytes l.0 p.0 l.2 in
      let row = ok_is (pair p.0.0 i.0.0, i.0.1) x i.2 in
      subst (λ (y : Row × List ℕ). (is_after_last y.0.path rows ≡ true) × (has_parent y.0.path rows ≡ true)) row
      (ap (λ (y : List ℕ × List ℕ). is_after_last y.0 rows) (sym (w.1 ∙ v.1)) ∙ w.0, ap (λ (y : List ℕ × List ℕ). has_parent y.0 rows) (sym v.1) ∙ v.0)

  pub may_stand : (bytes : List ℕ) (x : Row × List ℕ) → row_after last directory bytes ≡ Ok x → (is_path x.0.path ≡ true) × (length x.0.path ≤ 1000) × IsInode x.0.inode → MayStand rows x.0
  may_stand bytes x e good = let p = placed bytes x e in record { path = good.0; short = good.1; inode = good.2; last = p.0; parent = p.1 }

-- ## Rows one after the other
module _ {S : Type 0} (has_taken : S → List Row → Type 0) where
  -- the row that was read may be taken
  pub may_take : (sink : S) (last : List ℕ) (directory : Bool) (bytes : List ℕ) (row : Row) (rest : List ℕ) → HasTaken has_taken sink last directory 1 → row_after last directory bytes ≡ Ok (row, rest)
      → (is_path row.path ≡ true) × (length row.path ≤ 1000) × IsInode row.inode → MayTake has_taken sink row
  may_take sink last directory bytes row rest h e good = let few = h.few
      in record { rows = h.rows; taken = h.taken; may = may_stand h.rows last directory h.ends bytes (row, rest) e good; few = omega (arith, few) }

  pub taken_next : (next : S) (last : List ℕ) (directory : Bool) (bytes : List ℕ) (row : Row) (path rest : List ℕ) (kind : Bool) → row_after last directory bytes ≡ Ok (row, rest)
      → (is_path row.path ≡ true) × (length row.path ≤ 1000) × IsInode row.inode → row.path ≡ path → kind ≡ is_dir row.inode
      → (rows : List Row) → has_taken next (rows ++ row ∷ []) → EndsAt rows last directory
      → (y : List Row × List ℕ) × (row_at rows bytes ≡ Ok y) × IsNext has_taken next path kind rest (length rows + 1) y
  taken_next next last directory bytes row path rest kind e good named is rows taken at =
      let may = may_stand rows last directory at bytes (row, rest) e good in
      let whole = ends_next rows last directory row at may in (
        (rows ++ row ∷ [], rest),
        row_read rows last directory at bytes (row, rest) e,
        record {
          left = refl;
          taken = taken;
          ends = subst (λ (k : Bool). EndsAt (rows ++ row ∷ []) path k) (sym is) (subst (λ (p : List ℕ). EndsAt (rows ++ row ∷ []) p (is_dir row.inode)) named whole);
          counted = length_push rows row;
        },
      )

  -- so many rows were taken, and the others are to be read
  pub record IsAmid (count i : ℕ) (first sink : S) (from : List ℕ) (bytes : List ℕ) (last : List ℕ) (directory : Bool) (rest : List ℕ) : Type 0 where
    pub room : HasTaken has_taken sink last directory (count - i)
    pub so_far : (rows : List Row) → has_taken first rows → EndsAt rows from true
        → (all : List Row) × has_taken sink all × EndsAt all last directory × (repeated row_at (count - i) all rest ≡ repeated row_at count rows bytes)

  pub amid_first : (count : ℕ) (first : S) (from bytes : List ℕ) → HasTaken has_taken first from true count → IsAmid count 0 first first from bytes from true bytes
  amid_first count first from bytes h =
      let all : count - 0 ≡ count = omega arith in
      record {
        room = subst (λ (n : ℕ). HasTaken has_taken first from true n) (sym all) h;
        so_far = λ rows taken at. (rows, taken, at, at_first row_at count rows bytes);
      }

  pub amid_room : (count i : ℕ) (first sink : S) (from bytes last : List ℕ) (directory : Bool) (rest : List ℕ) → i < count
      → IsAmid count i first sink from bytes last directory rest → HasTaken has_taken sink last directory 1
  amid_room count i first sink from bytes last directory rest lt h = let few = h.room.few in record { rows = h.room.rows; taken = h.room.taken; ends = h.room.ends; few = omega (arith, few, lt) }

  pub amid_next : (count i : ℕ) (first sink next : S) (from bytes last : List ℕ) (directory : Bool) (rest path : List ℕ) (kind : Bool) (left : List ℕ)
      → i < count → IsAmid count i first sink from bytes last directory rest
      → ((rows : List Row) → has_taken sink rows → EndsAt rows last directory → (y : List Row × List ℕ) × (row_at rows rest ≡ Ok y) × IsNext has_taken next path kind left (length rows + 1) y)
      → IsAmid count (i + 1) first next from bytes path kind left
  amid_next count i first sink next from bytes last directory rest path kind left lt h step =
      let s = step h.room.rows h.room.taken h.room.ends in
      let few = h.room.few in
      let counted = s.2.counted in
      record {
        room = record { rows = s.0.0; taken = s.2.taken; ends = s.2.ends; few = omega (arith, few, counted, lt) };
        so_far = λ rows taken at.
            let a = h.so_far rows taken at in
            let t = step a.0 a.1 a.2 in
            let read : row_at a.0 rest ≡ Ok (t.0.0, left) = t.1 ∙ ap (λ (r : List ℕ). Ok (t.0.0, r)) t.2.left in
            (t.0.0, t.2.taken, t.2.ends, goes_on row_at count i a.0 rest t.0.0 left (repeated row_at count rows bytes) lt read a.3);
      }

  pub amid_last : (count i : ℕ) (first sink : S) (from bytes last : List ℕ) (directory : Bool) (rest : List ℕ) → count ≤ i → IsAmid count i first sink from bytes last directory rest
      → (rows : List Row) → has_taken first rows → EndsAt rows from true → (y : List Row × List ℕ) × (repeated row_at count rows bytes ≡ Ok y) × ((y.1 ≡ rest) × has_taken sink y.0)
  amid_last count i first sink from bytes last directory rest le h rows taken at =
      let a = h.so_far rows taken at in
      ((a.0, rest), is_done row_at count i a.0 rest (repeated row_at count rows bytes) le a.3, (refl, a.1))

  pub amid_fails : (count i : ℕ) (first sink : S) (from bytes last : List ℕ) (directory : Bool) (rest : List ℕ) (e : ReadError) → i < count → IsAmid count i first sink from bytes last directory rest
      → ((rows : List Row) → has_taken sink rows → EndsAt rows last directory → Fails e (row_at rows rest))
      → (rows : List Row) → has_taken first rows → EndsAt rows from true → Fails e (repeated row_at count rows bytes)
  amid_fails count i first sink from bytes last directory rest e lt h step rows taken at =
      let a = h.so_far rows taken at in
      ends row_at e count i a.0 rest (repeated row_at count rows bytes) lt (step a.0 a.1 a.2) a.3

-- ## The whole
pub all_told : (bytes : List ℕ) (layout txid : ℕ) (after_head after_rows after_calls : List ℕ) (read : List Row × List ℕ) (calls : List Noted)
    → head_at bytes ≡ Ok ((layout, txid), after_head) → tree_at after_head ≡ Ok read → read.1 ≡ after_rows
    → calls_at layout txid after_rows ≡ Ok (calls, after_calls) → (length after_calls == 0) ≡ true
    → told bytes ≡ Ok (record { layout = layout; space = record { pairs = read.0; calls = calls }; txid = txid })
unfolding told
all_told bytes layout txid after_head after_rows after_calls read calls head tree left listed ends =
    let here : calls_at layout txid read.1 ≡ Ok (calls, after_calls) = ap (calls_at layout txid) left ∙ listed in
    rw (head, tree, here, ends) refl
