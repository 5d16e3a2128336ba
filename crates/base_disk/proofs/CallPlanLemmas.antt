-- One call counted.
use Rattle.std.proofs.Common.{◌≡◌, ◌∙◌, ℕ, suc, ◌+◌, ◌-◌, ◌^◌, ◌<◌, ◌≤◌, List, [], ◌∷◌, refl, ap, inl, inr, arith, Bool, true, false, ◌||◌, ◌&&◌}
use Rattle.std.specs.declared.alloc.Global.{Global}
use Rattle.std.specs.Prelude.{Vec, min, Option, Some, None, Ok, Err, nat_lt, ◌==◌, option_map, if◌then◌else◌}
use Rattle.std.specs.List.{list_any, list_all}
use Rattle.std.proofs.lemmas.Bool.Decides.{nat_tests}
use Rattle.std.proofs.lemmas.Bool.{and_parts}
use Rattle.base_disk.specs.Calls.{HasCause}
use Rattle.base_disk.specs.CallPlan.{is_listed, is_stopped, is_past, IsSteady, left_of, Counted}
use Rattle.base_disk.specs.declared.disk.DiskFail.TheVariants.{Failed}
use Rattle.base_disk.specs.declared.call_plan.CallPlan.{CallPlan}

below_more : (n m k : ℕ) → m ≤ k → nat_lt n m ≡ true → nat_lt n k ≡ true
below_more n m k le = grind (arith, nat_tests)

below_other : (n m : ℕ) → nat_lt n m ≡ true → (n == m) ≡ false
below_other n m = grind (arith, nat_tests)

above_none : (k : ℕ) → (suc k == 0) ≡ false
above_none k = grind (arith, nat_tests)

past_more : (xs : List ℕ) (m k : ℕ) → m ≤ k → list_all (λ n. nat_lt n m) xs ≡ true → list_all (λ n. nat_lt n k) xs ≡ true
past_more [] m k le all = refl
past_more (x ∷ xs) m k le all =
    let both = and_parts (nat_lt x m) (list_all (λ n. nat_lt n m) xs) all in
    ap (λ (b : Bool). b && list_all (λ n. nat_lt n k) xs) (below_more x m k le both.0) ∙ past_more xs m k le both.1

past_none : (xs : List ℕ) (m : ℕ) → list_all (λ n. nat_lt n m) xs ≡ true → list_any (λ n. n == m) xs ≡ false
past_none [] m all = refl
past_none (x ∷ xs) m all =
    let both = and_parts (nat_lt x m) (list_all (λ n. nat_lt n m) xs) all in
    ap (λ (b : Bool). b || list_any (λ n. n == m) xs) (below_other x m both.0) ∙ past_none xs m both.1

-- a call counted
pub record Advances (p q : CallPlan) : Type 0 where
  pub made : p.made ≤ q.made
  pub failing : q.failing ≡ p.failing
  pub left : q.left ≡ option_map (λ n. n - 1) p.left

abbrev pub is_due : CallPlan → Bool
is_due p = is_listed p || is_stopped p

module _ (p q : CallPlan) (on : Advances p q) where
  past_stays : is_past p ≡ true → is_past q ≡ true
  past_stays past =
      ap (λ (v : Vec ℕ Global). list_all (λ n. nat_lt n q.made) v.items) on.failing ∙ past_more p.failing.items p.made q.made on.made past

  none_due : IsSteady p → is_due p ≡ false
  none_due steady = by p.left steady.none_left_out ∙ refl
    where
      by : (o : Option ℕ) → o ≡ None → (list_any (λ n. n == p.made) p.failing.items || (elim o [ Some n ↦ n == 0 | None ↦ false ])) ≡ false
      by None is = ap (λ (b : Bool). b || false) (past_none p.failing.items p.made steady.past)
      by (Some n) is = absurd (cc)

  steady_stays : IsSteady p → IsSteady q
  steady_stays steady = record {
    none_left_out = on.left ∙ ap (λ (o : Option ℕ). option_map (λ n. n - 1) o) steady.none_left_out;
    past = past_stays steady.past;
  }

  pub cause_ok : q.faults ≡ p.faults → HasCause {T = Unit {0}} p.faults q.faults (IsSteady p) (IsSteady q) (Ok tt)
  cause_ok same = record { later = omega (arith, same); failed = λ e. absurd (cc); still = inr same; steady = steady_stays; no_fault = λ s e. absurd (cc) }

  pub cause_err : is_due p ≡ true → q.faults ≡ min (p.faults + 1) (2 ^ 64 - 1) → p.faults < 2 ^ 64 → HasCause {T = Unit {0}} p.faults q.faults (IsSteady p) (IsSteady q) (Err Failed)
  cause_err due rose fits = record {
    later = omega (arith, rose, fits);
    failed = λ e. omega (arith, rose);
    still = inl refl;
    steady = steady_stays;
    no_fault = λ s e. let not_due = none_due s in cc;
  }

  -- where a number of calls is left, no call is listed
  counted : (b : Bool) (o : Option ℕ) (k : ℕ) → (if b then o else None) ≡ Some k → (b ≡ true) × (o ≡ Some k)
  counted true o k is = (refl, is)
  counted false o k is = absurd (cc)

  due_at : (o : Option ℕ) (k : ℕ) → o ≡ Some k → (elim o [ Some n ↦ n == 0 | None ↦ false ]) ≡ (k == 0)
  due_at None k is = absurd (cc)
  due_at (Some n) k is = let e : n ≡ k = cc in ap (λ (m : ℕ). m == 0) e

  due_is : (k : ℕ) → left_of p ≡ Some k → is_due p ≡ (k == 0)
  due_is k left =
      let c = counted (is_past p) p.left k left in
      ap (λ (b : Bool). b || is_stopped p) (past_none p.failing.items p.made c.0) ∙ due_at p.left k c.1

  left_is : (k : ℕ) → left_of p ≡ Some k → left_of q ≡ Some (k - 1)
  left_is k left =
      let c = counted (is_past p) p.left k left in
      ap (λ (b : Bool). if b then q.left else None) (past_stays c.0) ∙ on.left ∙ ap (λ (o : Option ℕ). option_map (λ n. n - 1) o) c.1

  pub budget_ok : is_due p ≡ false → Counted (left_of p) (left_of q) (Ok tt)
  budget_ok not_due = record {
    stops = λ left. let e = due_is 0 left in absurd (cc);
    counts = λ k left. (refl, left_is (suc k) left ∙ ap (λ (n : ℕ). Some n) (let e : suc k - 1 ≡ k = omega arith in e));
  }

  pub budget_err : is_due p ≡ true → Counted (left_of p) (left_of q) (Err Failed)
  budget_err due = record {
    stops = λ left. (refl, left_is 0 left ∙ ap (λ (n : ℕ). Some n) (let e : 0 - 1 ≡ 0 = omega arith in e));
    counts = λ k left. let e : is_due p ≡ false = due_is (suc k) left ∙ above_none k in absurd (cc);
  }
