-- A text becomes one segment, or else it has one fault.
use Rattle.std.proofs.Common.{◌≡◌, ℕ, suc, ◌+◌, List, [], ◌∷◌, ◌++◌, length, map, refl, sym, ap, subst, ◌∙◌, arith}
use Rattle.serde_json.specs.Data.{Data}
use Rattle.edit_ops.specs.Records.{EditView, record_of}
use Rattle.list_back.specs.Pieces.{segment_bytes}
use Rattle.list_back.specs.Entries.{IsEntry, AreEntries}
use Rattle.list_back.specs.Backs.{HasNoArray, HasLongArray, HasBadMember, BecomesSegment, IsOfObjects}
use Rattle.list_back.proofs.Made.{entry_at, same_entries, none_bad}
use Rattle.list_back.proofs.Listings.{one_array}

-- ## One segment
pub one_segment : (start epoch : ℕ) (bytes a b : List ℕ) → BecomesSegment start epoch bytes a → BecomesSegment start epoch bytes b → a ≡ b
one_segment start epoch bytes a b x y =
    let values = one_array bytes x.0 y.0 x.1 y.1 in
    let also : AreEntries start y.3.edits x.0 = subst (λ (ds : List Data). AreEntries start y.3.edits ds) (sym values) y.3.are in
    let edits = same_entries start x.3.edits y.3.edits x.0 x.3.are also in
    x.3.spelled ∙ ap (λ (es : List EditView). segment_bytes start epoch (map record_of es)) edits ∙ sym y.3.spelled

pub segment_objects : (start epoch : ℕ) (bytes segment : List ℕ) → BecomesSegment start epoch bytes segment → IsOfObjects start bytes
segment_objects start epoch bytes segment x = (x.0, x.3.edits, x.1, x.2, x.3.are)

-- ## One bad member
first_bad : (start : ℕ) (es fs : List EditView) (b c : List Data) (v w : Data) (r s : List Data) → b ++ v ∷ r ≡ c ++ w ∷ s → AreEntries start es b → AreEntries start fs c
    → ((e : EditView) → IsEntry (start + length b) e v → ⊥) → ((e : EditView) → IsEntry (start + length c) e w → ⊥) → length b ≡ length c
first_bad start es fs [] [] v w r s parts p q bad worse = refl
first_bad start es [] [] (y ∷ c) v w r s parts p q bad worse = absurd q
first_bad start es (f ∷ fs) [] (y ∷ c) v w r s parts p q bad worse =
    let same : y ≡ v = cc in
    absurd (bad f (entry_at start (start + 0) f v (omega arith) (subst (λ (d : Data). IsEntry start f d) same q.0)))
first_bad start [] fs (x ∷ b) [] v w r s parts p q bad worse = absurd p
first_bad start (e ∷ es) fs (x ∷ b) [] v w r s parts p q bad worse =
    let same : x ≡ w = cc in
    absurd (worse e (entry_at start (start + 0) e w (omega arith) (subst (λ (d : Data). IsEntry start e d) same p.0)))
first_bad start [] fs (x ∷ b) (y ∷ c) v w r s parts p q bad worse = absurd p
first_bad start (e ∷ es) [] (x ∷ b) (y ∷ c) v w r s parts p q bad worse = absurd q
first_bad start (e ∷ es) (f ∷ fs) (x ∷ b) (y ∷ c) v w r s parts p q bad worse =
    let rest : b ++ v ∷ r ≡ c ++ w ∷ s = cc in
    ap suc (first_bad (start + 1) es fs b c v w r s rest p.1 q.1
    (λ d is. bad d (entry_at (start + 1 + length b) (start + suc (length b)) d v (omega arith) is))
    (λ d is. worse d (entry_at (start + 1 + length c) (start + suc (length c)) d w (omega arith) is)))

pub one_bad_member : (start : ℕ) (bytes : List ℕ) (i j : ℕ) → HasBadMember start bytes i → HasBadMember start bytes j → i ≡ j
one_bad_member start bytes i j x y =
    let p = x.3 in
    let q = y.3 in
    let parts : x.3.before ++ x.3.value ∷ x.3.behind ≡ y.3.before ++ y.3.value ∷ y.3.behind = sym p.parts ∙ one_array bytes x.0 y.0 x.1 y.1 ∙ q.parts in
    p.at ∙ first_bad start p.edits q.edits p.before q.before p.value q.value p.behind q.behind parts p.good q.good
    (λ e is. p.bad e (entry_at (start + length p.before) (start + i) e p.value (ap (λ (n : ℕ). start + n) (sym p.at)) is))
    (λ e is. q.bad e (entry_at (start + length q.before) (start + j) e q.value (ap (λ (n : ℕ). start + n) (sym q.at)) is))
    ∙ sym q.at

-- ## No two faults, and none of a text of objects
pub none_long : (bytes : List ℕ) (number : ℕ) → HasNoArray bytes → HasLongArray bytes number → ⊥
none_long bytes number none x = none x.0 x.1

pub none_bad_member : (start : ℕ) (bytes : List ℕ) (index : ℕ) → HasNoArray bytes → HasBadMember start bytes index → ⊥
none_bad_member start bytes index none x = none x.0 x.1

pub long_no_bad : (start : ℕ) (bytes : List ℕ) (number index : ℕ) → HasLongArray bytes number → HasBadMember start bytes index → ⊥
long_no_bad start bytes number index x y =
    let count : length x.0 ≡ length y.0 = ap length (one_array bytes x.0 y.0 x.1 y.1) in
    omega (arith, count, x.3, y.2)

pub objects_array : (start : ℕ) (bytes : List ℕ) → IsOfObjects start bytes → HasNoArray bytes → ⊥
objects_array start bytes x none = none x.0 x.2

pub objects_few : (start : ℕ) (bytes : List ℕ) (number : ℕ) → IsOfObjects start bytes → HasLongArray bytes number → ⊥
objects_few start bytes number x y =
    let count : length x.0 ≡ length y.0 = ap length (one_array bytes x.0 y.0 x.2 y.1) in
    omega (arith, count, x.3, y.3)

pub objects_good : (start : ℕ) (bytes : List ℕ) (index : ℕ) → IsOfObjects start bytes → HasBadMember start bytes index → ⊥
objects_good start bytes index x y =
    none_bad start x.1 y.0 index (subst (λ (ds : List Data). AreEntries start x.1 ds) (one_array bytes x.0 y.0 x.2 y.1) x.4) y.3
