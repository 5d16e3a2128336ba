-- The names of the files of a map.
use Rattle.std.proofs.Common.{◌≡◌, ◌∙◌, ℕ, zero, suc, ◌<◌, List, [], ◌∷◌, sym, arith, Bool, true, false, cond, map, length, refl}
use Rattle.std.specs.Prelude.{Some, IsSome, Contains, slice_index_or, string_bytes}
use Rattle.std.specs.declared.string.String.{String}
use Rattle.std.specs.declared.alloc.Global.{Global}
use Rattle.std.specs.declared.cmp.Ordering.TheVariants.{Less}
use Rattle.std.specs.Map.{lookup, keys_of}
use Rattle.std.specs.Cmp.Lexicographic.{slice_cmp}
use Rattle.std.specs.Ordering.{nat_cmp}
use Rattle.std.specs.String.{string_cmp}
use Rattle.std.specs.List.Sorted.{IsStrictlySortedBy}
use Rattle.std.specs.List.{AllByRecursion}
use Rattle.std.proofs.lemmas.Map.Text.{is_eq-slice_cmp}
use Rattle.std.proofs.lemmas.Slice.Eq.{bytes_eq-Decides}
use Rattle.base_disk.specs.Calls.{Lists}
use Rattle.base_disk.specs.FileMap.{Map, is_named, file_in, now_of, names_in}

pub same_name : (name : List ℕ) (k : String Global) → is_named name k ≡ true → name ≡ string_bytes k
same_name name k is = (bytes_eq-Decides name (string_bytes k)).0 (sym (is_eq-slice_cmp name (string_bytes k)) ∙ is)

at_name : (name : List ℕ) (k : String Global) → name ≡ string_bytes k → is_named name k ≡ true
at_name name k same = is_eq-slice_cmp name (string_bytes k) ∙ (bytes_eq-Decides name (string_bytes k)).1 same

found : (name : List ℕ) (es : Map) → IsSome (now_of (lookup (is_named name) es)) → Contains (map string_bytes (keys_of es)) name
found name [] is = absurd (cc)
found name (e ∷ es) is = by (is_named name e.0) refl (λ rest. found name es rest) is
  where
    by : (t : Bool) → is_named name e.0 ≡ t → (IsSome (now_of (lookup (is_named name) es)) → Contains (map string_bytes (keys_of es)) name)
        → IsSome (now_of (cond t (Some e.1) (lookup (is_named name) es))) → Contains (string_bytes e.0 ∷ map string_bytes (keys_of es)) name
    by true here behind is = (0, omega arith, sym (same_name name e.0 here))
    by false other behind is = let at = behind is in (suc at.0, omega (arith, at.1), at.2)

there : (name : List ℕ) (es : Map) → Contains (map string_bytes (keys_of es)) name → IsSome (now_of (lookup (is_named name) es))
there name [] at = absurd (omega (arith, at.1))
there name (e ∷ es) at = by (is_named name e.0) refl (λ rest. there name es rest) at.0 at.1 at.2
  where
    by : (t : Bool) → is_named name e.0 ≡ t → (Contains (map string_bytes (keys_of es)) name → IsSome (now_of (lookup (is_named name) es))) → (k : ℕ)
        → k < length (string_bytes e.0 ∷ map string_bytes (keys_of es))
        → slice_index_or (string_bytes e.0 ∷ map string_bytes (keys_of es)) k name ≡ name
        → IsSome (now_of (cond t (Some e.1) (lookup (is_named name) es)))
    by true here behind k lt is = refl
    by false other behind zero lt is = let yes = at_name name e.0 (sym is) in absurd (cc)
    by false other behind (suc k) lt is = behind (k, omega arith, is)

all_less : (k : String Global) (es : Map) → AllByRecursion (λ y. string_cmp k y ≡ Less) (keys_of es)
    → AllByRecursion (λ y. slice_cmp nat_cmp (string_bytes k) y ≡ Less) (map string_bytes (keys_of es))
all_less k [] all = tt
all_less k (e ∷ es) all = (all.0, all_less k es all.1)

sorted : (es : Map) → IsStrictlySortedBy string_cmp (keys_of es) → IsStrictlySortedBy (slice_cmp nat_cmp) (map string_bytes (keys_of es))
unfolding IsStrictlySortedBy
sorted [] is = tt
sorted (e ∷ es) is = (all_less e.0 es is.0, sorted es is.1)

pub lists : (m : Map) → IsStrictlySortedBy string_cmp (keys_of m) → Lists (names_in m) (λ name. now_of (file_in m name))
lists m is = record { there = λ name at. there name m at; all = λ name is. found name m is; sorted = sorted m is }
