-- A text that is written through a buffer.
use Rattle.std.specs.Prelude.{ℕ, ◌≡◌, ◌⊎◌, ◌≤◌, Bool, true, false, List, [], ◌++◌, Option}
use Rattle.std.proofs.Common.{refl, sym, ap, subst, ◌∙◌, inl, inr, ⊎_elim, arith, append_assoc, append-nil}
use Rattle.std.specs.Io.KnownBytes.{Appends}
use Rattle.std.proofs.KnownBytes.{Appends-nil, Appends-trans}
use Rattle.base_outside.specs.Faults.{Rose}

-- what the sink took, where it tells it, how often it failed, what waits for it, and whether a
-- write of this text failed
pub record Writing : Type 0 where
  pub taken : Option (List ℕ)
  pub faults : ℕ
  pub held : List ℕ
  pub failed : Bool

-- Between the one and the other these bytes came: the sink took a front of what waited and of them,
-- and the rest waits; or a write failed, and nothing was written after it.
pub record Gives (x y : Writing) (bytes : List ℕ) : Type 0 where
  pub front : List ℕ
  pub rest : List ℕ
  pub took : Appends x.taken y.taken front
  pub parts : x.held ++ bytes ≡ front ++ rest
  pub never_falls : x.faults ≤ y.faults
  pub sound : y.failed ≡ false → (x.failed ≡ false) × (rest ≡ y.held) × (y.faults ≡ x.faults)
  pub broken : y.failed ≡ true → (x.failed ≡ true) ⊎ Rose x.faults y.faults
  pub after : x.failed ≡ true → front ≡ []

abbrev pub at : {K : Type 0} → (K → Option (List ℕ)) → (K → ℕ) → K → List ℕ → Bool → Writing
at taken faults sink held failed = record { taken = taken sink; faults = faults sink; held = held; failed = failed }

pub gives_none : (x : Writing) → Gives x x []
gives_none x = record {
  front = [];
  rest = x.held;
  took = Appends-nil x.taken;
  parts = append-nil x.held;
  never_falls = omega arith;
  sound = λ e. (e, refl, refl);
  broken = λ e. inl e;
  after = λ e. refl;
}

pub gives_more : (x y z : Writing) (a b : List ℕ) → Gives x y a → Gives y z b → Gives x z (a ++ b)
gives_more x y z a b p q = by y.failed refl
  where
    so_far : x.held ++ (a ++ b) ≡ p.front ++ (p.rest ++ b)
    so_far = sym (append_assoc x.held a b) ∙ ap (λ (t : List ℕ). t ++ b) p.parts ∙ append_assoc p.front p.rest b

    both : Appends x.taken z.taken (p.front ++ q.front)
    both = Appends-trans x.taken y.taken z.taken p.front q.front p.took q.took

    rises : Rose x.faults y.faults → Rose x.faults z.faults
    rises r = let more : y.faults ≤ z.faults = q.never_falls in omega (arith, r, more)

    by : (v : Bool) → y.failed ≡ v → Gives x z (a ++ b)
    by false e =
        let s = p.sound e in
        record {
          front = p.front ++ q.front;
          rest = q.rest;
          took = both;
          parts = so_far ∙ ap (λ (t : List ℕ). p.front ++ (t ++ b)) s.1 ∙ ap (λ (t : List ℕ). p.front ++ t) q.parts ∙ sym (append_assoc p.front q.front q.rest);
          never_falls = (let l : x.faults ≤ y.faults = p.never_falls in let m : y.faults ≤ z.faults = q.never_falls in omega (arith, l, m));
          sound = λ n. (let t = q.sound n in (s.0, t.1, t.2 ∙ s.2));
          broken = λ n. ⊎_elim (λ (t : y.failed ≡ true). absurd (cc (e, t))) (λ (r : Rose y.faults z.faults). inr (subst (λ (k : ℕ). Rose k z.faults) s.2 r)) (q.broken n);
          after = λ n. absurd (cc (n, s.0));
        }
    by true e = record {
      front = p.front;
      rest = p.rest ++ b;
      took = subst (λ (t : List ℕ). Appends x.taken z.taken t) (ap (λ (t : List ℕ). p.front ++ t) (q.after e) ∙ append-nil p.front) both;
      parts = so_far;
      never_falls = (let l : x.faults ≤ y.faults = p.never_falls in let m : y.faults ≤ z.faults = q.never_falls in omega (arith, l, m));
      sound = λ n. absurd (cc ((q.sound n).0, e));
      broken = λ n. ⊎_elim (λ (t : x.failed ≡ true). inl t) (λ (r : Rose x.faults y.faults). inr (rises r)) (p.broken e);
      after = p.after;
    }
