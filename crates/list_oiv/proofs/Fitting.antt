-- The columns of a row of a namespace fit JSON as it is written.
use Rattle.std.proofs.Common.{◌≡◌, ℕ, ◌<◌, Bool, true, false, List, [], ◌∷◌, ◌++◌, length, map, Option, Some, None, IsAscii, append_assoc, refl, sym, ap, ◌∙◌, subst, arith, lit<}
use Rattle.std.specs.Prelude.{◌&&◌, ◌||◌, ◌==◌, not, nat_le, nat_lt, if◌then◌else◌}
use Rattle.std.specs.List.{flat_map, AllByRecursion}
use Rattle.std.proofs.lemmas.List.{append-nil}
use Rattle.std.proofs.lemmas.Bool.{and_parts, eqb-true}
use Rattle.std.proofs.lemmas.Bool.Decides.{nat_tests}
use Rattle.ns_tree.specs.declared.inode.Inode.{Inode}
use Rattle.ns_tree.specs.declared.inode.Inode.TheVariants.{Dir, File}
use Rattle.ns_tree.specs.declared.inode.Row.{Row}
use Rattle.ns_tree.specs.Path.{is_path, is_owner, is_letter, is_owner_byte, all_owner_bytes, is_component_byte, all_component_bytes, is_dot_name, is_component, are_components}
use Rattle.ns_tree.specs.Space.{IsInode}
use Rattle.list_text.proofs.Ascii.{AreSmall, ascii_of}
use Rattle.list_text.specs.Permissions.{has_bit, letter, kind_letter, letters}
use Rattle.list_text.specs.Columns.{ColumnsView, columns, columns_of}
use Rattle.list_text.specs.Values.{limit_of, IsAsciiValue, IsAsciiMember}
use Rattle.json.specs.Token.{Token}
use Rattle.json.specs.Tree.{json_tokens}
use Rattle.list_oiv.specs.Entries.{members, row_json, FitsJson}
use Rattle.list_oiv.proofs.Counting.{size_small}

-- ---- owners

owner_byte_small : (b : ℕ) → is_owner_byte b ≡ true → b < 128
owner_byte_small b e = grind (arith, nat_tests)

first_small : (b : ℕ) → (is_letter b || (b == 95)) ≡ true → b < 128
first_small b e = grind (arith, nat_tests)

owner_bytes_small : (bs : List ℕ) → all_owner_bytes bs ≡ true → AreSmall bs
owner_bytes_small [] e = tt
owner_bytes_small (b ∷ bs) e = let p = and_parts (is_owner_byte b) (all_owner_bytes bs) e in (owner_byte_small b p.0, owner_bytes_small bs p.1)

owner_ascii : (owner : List ℕ) → is_owner owner ≡ true → IsAscii owner
owner_ascii [] e = absurd cc
owner_ascii (b ∷ bs) e =
    let p = and_parts ((is_letter b || (b == 95)) && nat_le (length (b ∷ bs)) 32) (all_owner_bytes bs) e in
    let q = and_parts (is_letter b || (b == 95)) (nat_le (length (b ∷ bs)) 32) p.0 in
    ascii_of (b ∷ bs) (first_small b q.0, owner_bytes_small bs p.1)

-- ---- paths

component_byte_small : (b : ℕ) → is_component_byte b ≡ true → b < 128
component_byte_small b e = grind (arith, nat_tests)

component_bytes_small : (bs : List ℕ) → all_component_bytes bs ≡ true → AreSmall bs
component_bytes_small [] e = tt
component_bytes_small (b ∷ bs) e = let p = and_parts (is_component_byte b) (all_component_bytes bs) e in (component_byte_small b p.0, component_bytes_small bs p.1)

component_small : (c : List ℕ) → is_component c ≡ true → AreSmall c
component_small c e = component_bytes_small c (and_parts (nat_lt 0 (length c) && nat_le (length c) 255 && not (is_dot_name c)) (all_component_bytes c) e).1

split_small : (xs ys : List ℕ) → AreSmall (xs ++ ys) → AreSmall xs × AreSmall ys
split_small [] ys h = (tt, h)
split_small (x ∷ xs) ys h = let t = split_small xs ys h.1 in ((h.0, t.0), t.1)

components_more : (c : List ℕ) (b : ℕ) (bs : List ℕ) → ((d : List ℕ) → are_components d bs ≡ true → AreSmall d × AreSmall bs) → (t : Bool) → (b == 47) ≡ t
    → (if t then is_component c && are_components [] bs else are_components (c ++ b ∷ []) bs) ≡ true → AreSmall c × AreSmall (b ∷ bs)
components_more c b bs more true h k =
    let p = and_parts (is_component c) (are_components [] bs) k in
    (component_small c p.0, (omega (arith, eqb-true b 47 h), (more [] p.1).1))
components_more c b bs more false h k =
    let p = more (c ++ b ∷ []) k in
    let q = split_small c (b ∷ []) p.0 in
    (q.0, (q.1.0, p.1))

components_small : (c bs : List ℕ) → are_components c bs ≡ true → AreSmall c × AreSmall bs
components_small c [] e = (component_small c e, tt)
components_small c (b ∷ bs) e = components_more c b bs (λ d k. components_small d bs k) (b == 47) refl e

path_ascii : (p : List ℕ) → is_path p ≡ true → IsAscii p
path_ascii [] e = absurd cc
path_ascii (b ∷ []) e = ascii_of (b ∷ []) (omega (arith, eqb-true b 47 e), tt)
path_ascii (b ∷ c ∷ bs) e =
    let p = and_parts (b == 47) (are_components [] (c ∷ bs)) e in
    ascii_of (b ∷ c ∷ bs) (omega (arith, eqb-true b 47 p.0), (components_small [] (c ∷ bs) p.1).1)

-- ---- permissions

picked_small : (t : Bool) (a b : ℕ) → a < 128 → b < 128 → (if t then a else b) < 128
picked_small true a b p q = p
picked_small false a b p q = q

letter_small : (n weight glyph : ℕ) → glyph < 128 → letter n weight glyph < 128
letter_small n weight glyph h = picked_small (has_bit n weight) glyph 45 h (lit< tt)

last_small : (n : ℕ) → (if has_bit n 512 then (if has_bit n 1 then 116 else 84) else letter n 1 120) < 128
last_small n =
    picked_small (has_bit n 512) (if has_bit n 1 then 116 else 84) (letter n 1 120) (picked_small (has_bit n 1) 116 84 (lit< tt) (lit< tt)) (letter_small n 1 120 (lit< tt))

kind_small : (d : Bool) → kind_letter d < 128
kind_small true = lit< tt
kind_small false = lit< tt

letters_ascii : (d : Bool) (n : ℕ) → IsAscii (letters d n)
letters_ascii d n = ascii_of (letters d n) (
  kind_small d,
  (
    letter_small n 256 114 (lit< tt),
    (
      letter_small n 128 119 (lit< tt),
      (
        letter_small n 64 120 (lit< tt),
        (
          letter_small n 32 114 (lit< tt),
          (
            letter_small n 16 119 (lit< tt),
            (
              letter_small n 8 120 (lit< tt),
              (letter_small n 4 114 (lit< tt), (letter_small n 2 119 (lit< tt), (last_small n, tt))),
            ),
          ),
        ),
      ),
    ),
  ),
)

-- ---- columns

pub inode_fits : (path : List ℕ) (inode : Inode) → is_path path ≡ true → IsInode inode → FitsJson (columns path inode)
inode_fits path (Dir mtime permission user group names space) p h = record {
  path = path_ascii path p;
  permission = letters_ascii true permission;
  user = owner_ascii user h.2;
  group = owner_ascii group h.3;
  size = omega arith;
}
inode_fits path (File replication mtime atime block_size permission user group lengths unfinished) p h = record {
  path = path_ascii path p;
  permission = letters_ascii false permission;
  user = owner_ascii user h.5;
  group = owner_ascii group h.6;
  size = omega (arith, size_small lengths h.7 h.8);
}

limit_ascii : (q : Option ℕ) → IsAsciiValue (limit_of q)
limit_ascii None = tt
limit_ascii (Some n) = tt

pub members_ascii : (c : ColumnsView) → FitsJson c → AllByRecursion IsAsciiMember (members c)
members_ascii c h = (tt, (tt, (limit_ascii c.space, (tt, (h.group, (tt, (limit_ascii c.names, (h.path, (h.permission, (tt, (tt, (h.user, tt))))))))))))

pub row_fits : (row : Row) → is_path row.path ≡ true → IsInode row.inode → (c : ColumnsView) → c ≡ columns_of row → FitsJson c
row_fits row p h c e = subst FitsJson (sym e) (inode_fits row.path row.inode p h)

-- ---- rows one after the other

pub spread : (xs : List Row) (x : Row) → flat_map json_tokens (map row_json (xs ++ x ∷ [])) ≡ flat_map json_tokens (map row_json xs) ++ json_tokens (row_json x)
spread [] x = append-nil (json_tokens (row_json x))
spread (y ∷ ys) x =
    ap (λ (z : List Token). json_tokens (row_json y) ++ z) (spread ys x) ∙ sym (append_assoc (json_tokens (row_json y)) (flat_map json_tokens (map row_json ys)) (json_tokens (row_json x)))
