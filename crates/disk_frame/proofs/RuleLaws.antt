-- The rules that a frame keeps, and that a batch within the limits keeps them.
use Rattle.std.proofs.Common.{◌≡◌, ◌≢◌, ℕ, ◌+◌, ◌*◌, ◌^◌, ◌<◌, ◌≤◌, Bool, true, false, not, cond, eqb, ltb, List, [], ◌∷◌, length, Option, Some, None, refl, arith}
use Rattle.std.specs.List.{flat_map, list_any, AllByRecursion}
use Rattle.std.proofs.lemmas.Bool.{ltb-false, le-ltb, eqb-true, eqb-false, eq-eqb, ne_eqb, or_parts, or_from, not-false, not_from_true}
use Rattle.std.proofs.lemmas.List.{length-append}
use Rattle.journal_core.specs.Views.{BatchView, last_txid}
use Rattle.journal_core.specs.Limits.{max_number, max_body}
use Rattle.disk_frame.specs.declared.frame_cause.FrameCause.{FrameCause}
use Rattle.disk_frame.specs.declared.frame_cause.FrameCause.TheVariants.{Count, Body, Order}
use Rattle.disk_frame.specs.Frames.{entry_bytes, is_bad_count, is_bad_body, is_out_of_order, broken_rule}
use Rattle.disk_frame.specs.Faults.{FitsFields}

-- what a frame has that breaks no rule
pub record Keeps (next : ℕ) (b : BatchView) : Type 0 where
  pub some : 1 ≤ length b.bodies
  pub most : length b.bodies ≤ 16384
  pub bodies : list_any is_bad_body b.bodies ≡ false
  pub first : b.first ≡ next
  pub last : last_txid b ≤ 4611686018427387904

no_rule : (x y z : Bool) → cond {A = Option FrameCause} x (Some Count)
    (cond {A = Option FrameCause} y (Some Body) (cond {A = Option FrameCause} z (Some Order) None)) ≡ None → (x ≡ false) × (y ≡ false) × (z ≡ false)
no_rule true y z e = absurd cc
no_rule false true z e = absurd cc
no_rule false false true e = absurd cc
no_rule false false false e = (refl, refl, refl)

no_rule_from : (x y z : Bool) → x ≡ false → y ≡ false → z ≡ false → cond {A = Option FrameCause} x (Some Count)
    (cond {A = Option FrameCause} y (Some Body) (cond {A = Option FrameCause} z (Some Order) None)) ≡ None
no_rule_from x y z p q r = rw (p, q, r) refl

pub rules_kept : (next : ℕ) (b : BatchView) → broken_rule next b ≡ None → Keeps next b
unfolding broken_rule
rules_kept next b e =
    let parts = no_rule (is_bad_count (length b.bodies)) (list_any is_bad_body b.bodies) (is_out_of_order next b.first (last_txid b)) e in
    let count = or_parts (eqb (length b.bodies) 0) (ltb 16384 (length b.bodies)) parts.0 in
    let order = or_parts (not (eqb b.first next)) (ltb 4611686018427387904 (last_txid b)) parts.2 in
    let some : length b.bodies ≢ 0 = eqb-false _ _ count.0 in
    record {
      some = omega (arith, some);
      most = ltb-false _ _ count.1;
      bodies = parts.1;
      first = eqb-true _ _ (not-false (eqb b.first next) order.0);
      last = ltb-false _ _ order.1;
    }

pub keeps_rules : (next : ℕ) (b : BatchView) → Keeps next b → broken_rule next b ≡ None
unfolding broken_rule
keeps_rules next b k =
    no_rule_from (is_bad_count (length b.bodies)) (list_any is_bad_body b.bodies) (is_out_of_order next b.first (last_txid b))
    (or_from _ _ (ne_eqb (length b.bodies) 0 (λ e. omega (arith, e, k.some))) (le-ltb _ _ k.most))
    k.bodies
    (or_from _ _ (not_from_true (eqb b.first next) (eq-eqb b.first next k.first)) (le-ltb _ _ k.last))

-- ---- room in the fields

pub record Sized (bodies : List (List ℕ)) : Type 0 where
  pub size : length (flat_map entry_bytes bodies) ≤ 4098 * length bodies
  pub short : AllByRecursion (λ body. length body < 2 ^ 16) bodies

pub good_sized : (bodies : List (List ℕ)) → list_any is_bad_body bodies ≡ false → Sized bodies
good_sized [] e = record { size = omega arith; short = tt }
good_sized (body ∷ bodies) e =
    let parts = or_parts (is_bad_body body) (list_any is_bad_body bodies) e in
    let one = or_parts (eqb (length body) 0) (ltb 4096 (length body)) parts.0 in
    let rest = good_sized bodies parts.1 in
    let le : length body ≤ 4096 = ltb-false _ _ one.1 in
    record {
      size = omega (arith, le, rest.size, length-append body (flat_map entry_bytes bodies));
      short = (omega (arith, le), rest.short);
    }

pub good_fits : (next : ℕ) (b : BatchView) → broken_rule next b ≡ None → FitsFields b
good_fits next b e =
    let k = rules_kept next b e in
    let s = good_sized b.bodies k.bodies in
    record {
      whole = omega (arith, s.size, k.most);
      first = omega (arith, k.last, k.some);
      count = omega (arith, k.most);
      bodies = s.short;
    }

-- the txids go on after a frame
pub next_within : (next : ℕ) (b : BatchView) → broken_rule next b ≡ None → next + length b.bodies ≤ 4611686018427387905
next_within next b e = let k = rules_kept next b e in omega (arith, k.last, k.some, k.first)

-- ---- a batch within the limits

no_long_body : (bodies : List (List ℕ)) → AllByRecursion (λ body. body ≢ []) bodies → list_any (λ body. ltb max_body (length body)) bodies ≡ false → list_any is_bad_body bodies ≡ false
no_long_body [] some e = refl
no_long_body ([] ∷ bodies) some e = absurd (some.0 refl)
no_long_body ((byte ∷ body) ∷ bodies) some e =
    let parts = or_parts (ltb max_body (length (byte ∷ body))) (list_any (λ body. ltb max_body (length body)) bodies) e in
    let there : eqb (length (byte ∷ body)) 0 ≡ false = ne_eqb _ _ (λ z. omega (arith, z)) in
    or_from (is_bad_body (byte ∷ body)) (list_any is_bad_body bodies) (or_from _ _ there parts.0) (no_long_body bodies some.1 parts.1)

some_bodies : (bodies : List (List ℕ)) → bodies ≢ [] → 1 ≤ length bodies
some_bodies [] ne = absurd (ne refl)
some_bodies (body ∷ bodies) ne = omega arith

-- a batch within the limits, whose bodies aren't empty, breaks no rule where its first txid is the
-- next
pub within_limits : (b : BatchView) → b.bodies ≢ [] → AllByRecursion (λ body. body ≢ []) b.bodies → last_txid b ≤ max_number
    → list_any (λ body. ltb max_body (length body)) b.bodies ≡ false → length b.bodies ≤ 16384 → broken_rule b.first b ≡ None
within_limits b ne some last short most =
    keeps_rules b.first b (record {
      some = some_bodies b.bodies ne;
      most = most;
      bodies = no_long_body b.bodies some short;
      first = refl;
      last = last;
    })
