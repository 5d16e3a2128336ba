-- A map of files after one key was changed.
use Rattle.std.proofs.Common.{◌≡◌, ◌≢◌, ◌∙◌, ◌⊎◌, ⊎_elim, inl, inr, ℕ, List, ap, sym, subst, Bool, true, false, refl}
use Rattle.std.specs.Prelude.{Option, Result, Ok, Err, OnErr, string_bytes, bytes_eq, if◌then◌else◌}
use Rattle.std.specs.BTreeMap.{BTreeMap, UpdatesBy}
use Rattle.std.specs.declared.string.String.{String}
use Rattle.std.specs.declared.alloc.Global.{Global}
use Rattle.std.specs.Cmp.Lexicographic.{slice_cmp}
use Rattle.std.specs.Ordering.{nat_cmp}
use Rattle.std.specs.String.{string_cmp}
use Rattle.std.proofs.lemmas.Map.Text.{btree_map_updates_text}
use Rattle.std.proofs.lemmas.Slice.Eq.{bytes_eq-Decides}
use Rattle.base_disk.specs.FileView.{FileView}
use Rattle.base_disk.specs.FileMap.{Map, file_in, SetsFile, SameFiles}

pub equal_names : (a b : List ℕ) → a ≡ b → bytes_eq a b ≡ true
equal_names a b same = (bytes_eq-Decides a b).1 same

pub other_names : (a b : List ℕ) → a ≢ b → bytes_eq a b ≡ false
other_names a b ne = by (bytes_eq a b) refl
  where
    by : (t : Bool) → bytes_eq a b ≡ t → t ≡ false
    by true is = absurd (ne ((bytes_eq-Decides a b).0 is))
    by false is = refl

pub sets_file : (name : List ℕ) (m n : BTreeMap (String Global) FileView) (w : Option FileView) → UpdatesBy string_cmp (λ k. slice_cmp nat_cmp name (string_bytes k)) m n w
    → SetsFile name w m.entries n.entries
sets_file name m n w updates = record {
  here = btree_map_updates_text name m n w updates name ∙ ap (λ (t : Bool). if t then w else file_in m.entries name) (equal_names name name refl);
  others = λ q ne. btree_map_updates_text name m n w updates q ∙ ap (λ (t : Bool). if t then w else file_in m.entries q) (other_names name q (λ same. ne (sym same)));
}

pub sets_to : (name : List ℕ) (v w : Option FileView) (m n : Map) → SetsFile name v m n → v ≡ w → SetsFile name w m n
sets_to name v w m n sets same = record { here = sets.here ∙ same; others = sets.others }

-- a name is this one or it isn't
pub names : (a b : List ℕ) → (a ≡ b) ⊎ (a ≢ b)
names a b = by (bytes_eq a b) refl
  where
    by : (t : Bool) → bytes_eq a b ≡ t → (a ≡ b) ⊎ (a ≢ b)
    by true is = inl ((bytes_eq-Decides a b).0 is)
    by false is = inr (λ same. let yes = equal_names a b same in absurd (cc))

pub sets_same : (name : List ℕ) (w : Option FileView) (m n : Map) → SetsFile name w m n → file_in m name ≡ w → SameFiles m n
sets_same name w m n sets was = record {
  files = λ q. ⊎_elim
      (λ is. subst (λ (a : List ℕ). file_in n a ≡ file_in m a) (sym is) (sets.here ∙ sym was))
      (λ ne. sets.others q ne)
      (names q name);
}

pub on_err : {T E : Type 0} (r : Result T E) (P : Type 0) → P → OnErr r P
on_err (Ok x) P fact = tt
on_err (Err e) P fact = fact

pub apart : (a b : List ℕ) → bytes_eq a b ≡ false → a ≢ b
apart a b other same = let yes = equal_names a b same in absurd (cc)
