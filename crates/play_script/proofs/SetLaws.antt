-- Names that stand in a set: the number of a name, the name with a number, and one more; and lines
-- that declare none.
use Rattle.std.proofs.Common.{ℕ, zero, suc, ◌≡◌, ◌<◌, ◌≤◌, ◌+◌, List, [], ◌∷◌, ◌++◌, length, map, Option, Some, None, Bool, true, false, not, ◌||◌, ◌⊎◌, inl, inr, cond, refl, sym, ap, subst, ◌∙◌, nat_lt, arith}
use Rattle.std.specs.Prelude.{Result, Ok, Err, IfOk, OnErr, nat_eq, is_some, slice_get, if◌then◌else◌}
use Rattle.std.specs.Borrow.{Bor}
use Rattle.std.specs.Bool.{Decides, one_answer}
use Rattle.std.specs.Cmp.Lexicographic.{pointwise}
use Rattle.std.specs.List.{list_any, position, position_or_len}
use Rattle.std.specs.Str.{bytes_eq}
use Rattle.std.proofs.lemmas.Bool.Decides.{Decides-eqb, leb_tells}
use Rattle.std.proofs.lemmas.List.{length-map, length_push}
use Rattle.std.proofs.lemmas.Slice.Eq.{bytes_eq-Decides, slice_eq-Decides}
use Rattle.play_script.specs.Views.{SaidView, lent_names}
use Rattle.play_script.specs.Words.{actor_of, name_at, Inserts}
use Rattle.play_script.specs.declared.kind.Kind.{Kind}
use Rattle.play_script.specs.declared.kind.Kind.TheVariants as kind
use Rattle.play_script.specs.declared.script_line.ScriptLine.{ScriptLine}
use Rattle.play_script.specs.declared.script_line.ScriptLine.TheVariants.{Declare}
use Rattle.play_script.specs.declared.line_read.LineRead.{LineRead}
use Rattle.play_script.specs.declared.line_read.LineRead.TheVariants as line_read
use Rattle.play_script.specs.Grammar.{kind_in, operands, said_by, said_after, HasSense}
use Rattle.play_script.specs.Rules.{declares}
use Rattle.play_script.specs.Reading.{Declares, IsRead, said_read}
use Rattle.play_script.proofs.NameLaws.{lt_is}

-- ## The number of a name
eq_test : (q k : List ℕ) → pointwise nat_eq q k ≡ bytes_eq k q
eq_test q k =
    let same : Decides (bytes_eq k q) (k ≡ q) = bytes_eq-Decides k q in
    one_answer (pointwise nat_eq q k) (bytes_eq k q) (slice_eq-Decides Decides-eqb q k (pointwise nat_eq q k) refl) (λ e. sym (same.0 e), λ e. same.1 (sym e))

abbrev asks : Bor (List ℕ) → Bor (List ℕ) → Bool
asks q k = pointwise nat_eq q.now k.now

same_place : (q : Bor (List ℕ)) (ks : List (Bor (List ℕ))) → position_or_len (asks q) ks ≡ position_or_len (λ n. bytes_eq n q.now) (lent_names ks)
same_place q [] = refl
same_place q (k ∷ ks) = λ i. cond (not (eq_test q.now k.now i)) (1 + same_place q ks i) 0

pub lent_count : (ks : List (Bor (List ℕ))) → length ks ≡ length (lent_names ks)
lent_count ks = sym (length-map ks (λ n. n.now))

pub place_in : (q : Bor (List ℕ)) (ks : List (Bor (List ℕ))) → position (asks q) ks ≡ actor_of (lent_names ks) q.now
unfolding actor_of
place_in q ks = λ i. cond (nat_lt (same_place q ks i) (lent_count ks i)) (Some (same_place q ks i)) None

-- ## The name with a number
pub name_in : (ks : List (Bor (List ℕ))) (i : ℕ) (k : Bor (List ℕ)) → slice_get ks i ≡ Some k → k.now ≡ name_at (lent_names ks) i
name_in [] i k e = cc
name_in (x ∷ ks) zero k e = let same : x ≡ k = cc in ap (λ (b : Bor (List ℕ)). b.now) (sym same)
name_in (x ∷ ks) (suc i) k e = name_in ks i k e

-- ## One more name
pub lt_next : (m n : ℕ) → nat_lt (1 + m) (suc n) ≡ nat_lt m n
lt_next m n =
    elim (leb_tells (suc m) n) [
      | inl p ↦ elim (leb_tells (suc (1 + m)) (suc n)) [ inl q ↦ q.0 ∙ sym p.0 | inr q ↦ absurd (omega (arith, p.1, q.1)) ]
      | inr p ↦ elim (leb_tells (suc (1 + m)) (suc n)) [ inl q ↦ absurd (omega (arith, p.1, q.1)) | inr q ↦ q.0 ∙ sym p.0 ]
    ]

any_place : (p : Bor (List ℕ) → Bool) (ks : List (Bor (List ℕ))) → list_any p ks ≡ nat_lt (position_or_len p ks) (length ks)
any_place p [] = refl
any_place p (k ∷ ks) = by (p k) (any_place p ks)
  where
    by : (b : Bool) → list_any p ks ≡ nat_lt (position_or_len p ks) (length ks) → (b || list_any p ks) ≡ nat_lt (cond (not b) (1 + position_or_len p ks) 0) (suc (length ks))
    by true h = sym (lt_is zero (suc (length ks)) (omega arith))
    by false h = h ∙ sym (lt_next (position_or_len p ks) (length ks))

some_if : (b : Bool) (n : ℕ) → b ≡ is_some (cond b (Some n) None)
some_if true n = refl
some_if false n = refl

any_in : (q : Bor (List ℕ)) (ks : List (Bor (List ℕ))) → list_any (asks q) ks ≡ is_some (actor_of (lent_names ks) q.now)
any_in q ks =
    any_place (asks q) ks ∙ some_if (nat_lt (position_or_len (asks q) ks) (length ks)) (position_or_len (asks q) ks) ∙ ap is_some (place_in q ks)

none_if : (o : Option ℕ) → is_some o ≡ false → o ≡ None
none_if None e = refl
none_if (Some n) e = cc

pub absent_in : (q : Bor (List ℕ)) (ks : List (Bor (List ℕ))) → list_any (asks q) ks ≡ false → actor_of (lent_names ks) q.now ≡ None
absent_in q ks e = none_if (actor_of (lent_names ks) q.now) (sym (any_in q ks) ∙ e)

lent_push : (ks : List (Bor (List ℕ))) (q : Bor (List ℕ)) → lent_names (ks ++ q ∷ []) ≡ lent_names ks ++ q.now ∷ []
lent_push [] q = refl
lent_push (k ∷ ks) q = ap (λ ns. k.now ∷ ns) (lent_push ks q)

pub inserted : (q : Bor (List ℕ)) (ks new : List (Bor (List ℕ))) (r : Bool) → r ≡ not (list_any (asks q) ks) → new ≡ (if list_any (asks q) ks then ks else ks ++ q ∷ [])
    → Inserts (lent_names ks) q.now r (lent_names new)
inserted q ks new r a b = by (list_any (asks q) ks) refl a b
  where
    by : (t : Bool) → list_any (asks q) ks ≡ t → r ≡ not t → new ≡ (if t then ks else ks ++ q ∷ []) → Inserts (lent_names ks) q.now r (lent_names new)
    by true e a b =
        subst (λ (x : Bool). Inserts (lent_names ks) q.now x (lent_names new)) (sym a) (sym (any_in q ks) ∙ e, ap lent_names b)
    by false e a b =
        subst (λ (x : Bool). Inserts (lent_names ks) q.now x (lent_names new)) (sym a) (absent_in q ks e, ap lent_names b ∙ lent_push ks q)

pub ruleset sets = (lent_count, place_in, name_in, absent_in, inserted)

-- ## One more actor
pub declared : {E : Type 0} (old : SaidView) (names : List (List ℕ)) (name : List ℕ) (res : Result Bool E) → IfOk res (λ new. Inserts old.names name new names)
    → IfOk res (λ new. Declares old name new (record { named = old.named; nodes = old.nodes; names = names }))
declared old names name (Ok true) h = (h.0, ap (λ ns. record { named = old.named; nodes = old.nodes; names = ns }) h.1)
declared old names name (Ok false) h = (h.0, ap (λ ns. record { named = old.named; nodes = old.nodes; names = ns }) h.1)
declared old names name (Err e) h = h

pub declared_few : {E : Type 0} (old names : List (List ℕ)) (name : List ℕ) (res : Result Bool E) → length old < 8 → IfOk res (λ new. Inserts old name new names) → OnErr res (names ≡ old)
    → length names ≤ 8
declared_few old names name (Ok true) l h e = let n : length names ≡ length old + 1 = ap length h.1 ∙ length_push old name in omega (arith, l, n)
declared_few old names name (Ok false) l h e = let n : length names ≡ length old = ap length h.1 in omega (arith, l, n)
declared_few old names name (Err x) l h e = let n : length names ≡ length old = ap length e in omega (arith, l, n)

pub ruleset declarations = (declared, declared_few)

-- a line that declares one has sense only where there is none of the name
pub added : (said now : SaidView) (line : ScriptLine) (name : List ℕ) (r : Bool) → line ≡ Declare name → HasSense said line → Declares said name r now → now ≡ said_after said line
added said now line name r e s h = subst (λ (l : ScriptLine). now ≡ said_after said l) (sym e) (by r (subst (HasSense said) e s) h)
  where
    by : (r : Bool) → HasSense said (Declare name) → Declares said name r now → now ≡ said_after said (Declare name)
    by true s h = h.1
    by false s h = let wrong : false ≡ true = sym (ap is_some s.2) ∙ h.0 in cc

pub ruleset adds = (added)

-- ## Lines that declare none
none_declared : (said : SaidView) (k : Kind) (words : List (List ℕ)) → declares k ≡ false → said ≡ said_by said k words
none_declared said kind.Declare words d = cc
none_declared said (kind.Task t) words d = refl
none_declared said kind.Log words d = refl
none_declared said kind.Edits words d = refl
none_declared said kind.Purge words d = refl
none_declared said kind.Trim words d = refl
none_declared said (kind.Standby w) words d = refl
none_declared said (kind.Call c) words d = refl
none_declared said (kind.Node t) words d = refl
none_declared said kind.Stop words d = refl
none_declared said kind.Cut words d = refl

pub kept_by : (said : SaidView) (k : Kind) (words : List (List ℕ)) (r : LineRead) → declares k ≡ false → IsRead said k words r → said ≡ said_read said r
kept_by said k words (line_read.Broken rule) d h = refl
kept_by said k words (line_read.Says line) d h = none_declared said k (operands said.names line) d ∙ ap (λ x. said_by said x (operands said.names line)) (sym h.1)

pub kept_ok : {E : Type 0} (said : SaidView) (k : Kind) (words : List (List ℕ)) (res : Result LineRead E) → declares k ≡ false → IfOk res (IsRead said k words)
    → IfOk res (λ r. said ≡ said_read said r)
kept_ok said k words (Ok r) d h = kept_by said k words r d h
kept_ok said k words (Err e) d h = h

pub ruleset kept = (kept_by, kept_ok)
