-- Rows that come one by one, and their text.
use Rattle.std.proofs.Common.{◌≡◌, ℕ, List, [], ◌∷◌, ◌++◌, append_assoc, append-nil, sym, ap, ◌∙◌, arith}
use Rattle.std.specs.List.{flat_map}
use Rattle.std.proofs.lemmas.List.Concat.{flat_map-append}
use Rattle.json.specs.Token.{Token}
use Rattle.json.specs.Tree.{json_tokens}
use Rattle.json.specs.Written.{Written}
use Rattle.ns_tree.specs.declared.inode.Row.{Row}
use Rattle.ns_tree.specs.Space.{IsInode}
use Rattle.ns_tree.proofs.Walks.{each_append}
use Rattle.ns_image.specs.Rows.{MayTake}
use Rattle.list_text.specs.Texts.{header}
use Rattle.list_oiv.specs.declared.tally.Tally.{Tally}
use Rattle.list_oiv.specs.Delimited.{row_line, delimited}
use Rattle.list_oiv.specs.Entries.{row_json, HasEntries}
use Rattle.list_oiv.specs.Sizes.{AreSizes, AreCounted, HasRoom}
use Rattle.list_oiv.proofs.Counting.{has_room}
use Rattle.list_oiv.proofs.Fitting.{spread}

-- ---- lines

pub first_line : (none names text : List ℕ) (root : Row) → none ≡ [] → names ≡ none ++ (header ++ 10 ∷ []) → text ≡ names ++ row_line root → text ≡ delimited (root ∷ [])
first_line none names text root e f g =
    g ∙ (ap (λ (t : List ℕ). t ++ row_line root) (f ∙ ap (λ (t : List ℕ). t ++ (header ++ 10 ∷ [])) e) ∙ ap (λ (t : List ℕ). (header ++ 10 ∷ []) ++ t) (sym (append-nil (row_line root))))

pub line_more : (rows : List Row) (row : Row) (old new : List ℕ) → old ≡ delimited rows → new ≡ old ++ row_line row → new ≡ delimited (rows ++ row ∷ [])
line_more rows row old new e f =
    f ∙ (ap (λ (t : List ℕ). t ++ row_line row) e
    ∙ (append_assoc (header ++ 10 ∷ []) (flat_map row_line rows) (row_line row)
    ∙ ap (λ (t : List ℕ). (header ++ 10 ∷ []) ++ t) (ap (λ (t : List ℕ). flat_map row_line rows ++ t) (sym (append-nil (row_line row))) ∙ sym (flat_map-append row_line rows (row ∷ [])))))

-- ---- objects

pub entry_more : (rows : List Row) (row : Row) (old new : Written) → HasEntries old rows
    → (new.tokens ≡ old.tokens ++ json_tokens (row_json row)) × (new.before ≡ old.before) → HasEntries new (rows ++ row ∷ [])
entry_more rows row old new h added = record {
  before = added.1 ∙ h.before;
  tokens = added.0 ∙ (ap (λ (ts : List Token). ts ++ json_tokens (row_json row)) h.tokens ∙ ap (λ (ts : List Token). Token.begin_array ∷ ts) (sym (spread rows row)));
}

-- ---- counts

pub first_counted : (s : Tally) (root : Row) → AreSizes s (root ∷ []) → IsInode root.inode → AreCounted s (root ∷ [])
first_counted s root a inode = record { sizes = a; inodes = (inode, tt) }

pub room_left : (s : Tally) (row : Row) → MayTake AreCounted s row → HasRoom s
room_left s row h = let few = h.few in has_room s h.rows h.taken.inodes (omega (arith, few)) h.taken.sizes

pub counted_more : (s t : Tally) (row : Row) → IsInode row.inode → ((rows : List Row) → AreSizes s rows → AreSizes t (rows ++ row ∷ []))
    → (rows : List Row) → AreCounted s rows → AreCounted t (rows ++ row ∷ [])
counted_more s t row inode more rows h = record { sizes = more rows h.sizes; inodes = each_append (λ r. IsInode r.inode) rows (row ∷ []) h.inodes (inode, tt) }
