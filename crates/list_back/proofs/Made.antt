-- Values that are the objects of edits, one after the other.
use Rattle.std.proofs.Common.{◌≡◌, ℕ, suc, ◌+◌, ◌<◌, ◌≤◌, false, List, [], ◌∷◌, ◌++◌, length, map, refl, sym, ap, subst, ◌∙◌, arith}
use Rattle.std.specs.Prelude.{◌==◌, nat_lt}
use Rattle.std.specs.List.{list_any}
use Rattle.std.proofs.lemmas.Bool.{le-ltb, or_from, ne_eqb}
use Rattle.serde_json.specs.Data.{Data}
use Rattle.journal_core.specs.Limits.{max_number, max_body}
use Rattle.disk_frame.specs.Frames.{is_bad_body}
use Rattle.edit_ops.specs.Records.{EditView, record_of}
use Rattle.list_back.specs.Objects.{IsObject}
use Rattle.list_back.proofs.Entries.{one_object}
use Rattle.list_back.specs.Entries.{IsEntry, AreEntries}
use Rattle.list_back.specs.Backs.{HasBadEntry}
use Rattle.list_back.proofs.Written.{AreGood}

pub entry_at : (t u : ℕ) (e : EditView) (d : Data) → t ≡ u → IsEntry t e d → IsEntry u e d
entry_at t u e d same is = subst (λ (n : ℕ). IsEntry n e d) same is

pub one_entry : (txid : ℕ) (e f : EditView) (d : Data) → IsEntry txid e d → IsEntry txid f d → e ≡ f
one_entry txid e f d a b = one_object txid e f d (omega (arith, a.within)) a.object b.object

pub entries_push : (start : ℕ) (es : List EditView) (ds : List Data) (e : EditView) (d : Data) → AreEntries start es ds
    → IsEntry (start + length ds) e d → AreEntries start (es ++ e ∷ []) (ds ++ d ∷ [])
entries_push start [] [] e d are is = (entry_at (start + 0) start e d (omega arith) is, tt)
entries_push start [] (x ∷ ds) e d are is = absurd are
entries_push start (y ∷ es) [] e d are is = absurd are
entries_push start (y ∷ es) (x ∷ ds) e d are is = (are.0, entries_push (start + 1) es ds e d are.1 (entry_at (start + suc (length ds)) (start + 1 + length ds) e d (omega arith) is))

pub as_many : (start : ℕ) (es : List EditView) (ds : List Data) → AreEntries start es ds → length es ≡ length ds
as_many start [] [] are = refl
as_many start [] (d ∷ ds) are = absurd are
as_many start (e ∷ es) [] are = absurd are
as_many start (e ∷ es) (d ∷ ds) are = ap suc (as_many (start + 1) es ds are.1)

pub records_length : (es : List EditView) → length (map record_of es) ≡ length es
records_length [] = refl
records_length (e ∷ es) = ap suc (records_length es)

good_body : (txid : ℕ) (e : EditView) (d : Data) → IsEntry txid e d → is_bad_body (record_of e) ≡ false
good_body txid e d is = or_from (length (record_of e) == 0) (nat_lt max_body (length (record_of e)))
    (ne_eqb (length (record_of e)) 0 (λ z. omega arith)) (le-ltb max_body (length (record_of e)) is.small)

pub records_good : (start : ℕ) (es : List EditView) (ds : List Data) → AreEntries start es ds → AreGood (map record_of es)
records_good start [] ds are = refl
records_good start (e ∷ es) [] are = absurd are
records_good start (e ∷ es) (d ∷ ds) are = or_from (is_bad_body (record_of e)) (list_any is_bad_body (map record_of es)) (good_body start e d are.0) (records_good (start + 1) es ds are.1)

-- the last txid is at most 2^62
pub entries_within : (start : ℕ) (es : List EditView) (ds : List Data) → start ≤ max_number + 1 → AreEntries start es ds → start + length es ≤ max_number + 1
entries_within start [] ds small are = omega (arith, small)
entries_within start (e ∷ es) [] small are = absurd are
entries_within start (e ∷ es) (d ∷ ds) small are = let within : start ≤ max_number = are.0.within in omega (arith, entries_within (start + 1) es ds (omega (arith, within)) are.1)

pub same_entries : (start : ℕ) (es fs : List EditView) (ds : List Data) → AreEntries start es ds → AreEntries start fs ds → es ≡ fs
same_entries start [] [] ds a b = refl
same_entries start [] (f ∷ fs) [] a b = absurd b
same_entries start [] (f ∷ fs) (d ∷ ds) a b = absurd a
same_entries start (e ∷ es) fs [] a b = absurd a
same_entries start (e ∷ es) [] (d ∷ ds) a b = absurd b
same_entries start (e ∷ es) (f ∷ fs) (d ∷ ds) a b = (λ i. one_entry start e f d a.0 b.0 i ∷ same_entries (start + 1) es fs ds a.1 b.1 i)

-- where all are entries none is bad
entry_there : (start : ℕ) (es : List EditView) (before : List Data) (value : Data) (behind : List Data)
    → AreEntries start es (before ++ value ∷ behind) → (e : EditView) × IsEntry (start + length before) e value
entry_there start [] [] value behind are = absurd are
entry_there start [] (x ∷ before) value behind are = absurd are
entry_there start (e ∷ es) [] value behind are = (e, entry_at start (start + 0) e value (omega arith) are.0)
entry_there start (e ∷ es) (x ∷ before) value behind are =
    let r = entry_there (start + 1) es before value behind are.1 in
    (r.0, entry_at (start + 1 + length before) (start + suc (length before)) r.0 value (omega arith) r.1)

pub none_bad : (start : ℕ) (es : List EditView) (ds : List Data) (index : ℕ) → AreEntries start es ds → HasBadEntry start ds index → ⊥
none_bad start es ds index are bad =
    let r = entry_there start es bad.before bad.value bad.behind (subst (λ (x : List Data). AreEntries start es x) bad.parts are) in
    bad.bad r.0 (entry_at (start + length bad.before) (start + index) r.0 bad.value (ap (λ (n : ℕ). start + n) (sym bad.at)) r.1)

-- ## The code of the reader of a body

pub body_too_long : (txid : ℕ) (d : Data) (e f : EditView) (body : List ℕ) → IsObject txid e d → body ≡ record_of e → max_body < length body → IsEntry txid f d → ⊥
body_too_long txid d e f body read is long entry =
    let same : e ≡ f = one_object txid e f d (omega (arith, entry.within)) read entry.object in
    let count : length body ≡ length (record_of f) = ap length (is ∙ ap record_of same) in
    omega (arith, count, long, entry.small)
