-- The test of a mark decides whether the plan has it.
use Rattle.std.proofs.Common.{◌≡◌, ℕ, List, [], ◌∷◌, Bool, true, false, Contains, refl, sym, ap, subst, ◌⊎◌, inl, inr}
use Rattle.std.specs.Prelude.{◌≢◌, ◌&&◌, ◌||◌, ◌==◌}
use Rattle.std.proofs.lemmas.Bool.Decides.{eqb_tells}
use Rattle.std.proofs.lemmas.Bool.{or_right}
use Rattle.journal_history.specs.declared.mark.Mark.{Mark}
use Rattle.journal_history.specs.declared.mark.MarkKind.{MarkKind}
use Rattle.journal_history.specs.declared.mark.MarkKind.TheVariants as kind
use Rattle.mesh.specs.Marks.{mark, same_kind, is_marked}
use Rattle.mesh.proofs.Lists.{contains_cases, contains_head, contains_tail, contains_none, same_test}

pub kind_is : (a b : MarkKind) → same_kind a b ≡ true → a ≡ b
unfolding same_kind
kind_is kind.Dropped kind.Dropped e = refl
kind_is kind.Muted kind.Muted e = refl
kind_is kind.Late kind.Late e = refl
kind_is kind.Dropped kind.Muted e = absurd (cc e)
kind_is kind.Dropped kind.Late e = absurd (cc e)
kind_is kind.Muted kind.Dropped e = absurd (cc e)
kind_is kind.Muted kind.Late e = absurd (cc e)
kind_is kind.Late kind.Dropped e = absurd (cc e)
kind_is kind.Late kind.Muted e = absurd (cc e)

kind_self : (a : MarkKind) → same_kind a a ≡ true
unfolding same_kind
kind_self kind.Dropped = refl
kind_self kind.Muted = refl
kind_self kind.Late = refl

mark_is : (m : Mark) (k n : ℕ) (kd : MarkKind) → ((m.node == k) && ((m.number == n) && same_kind m.kind kd)) ≡ true → m ≡ mark k n kd
mark_is m k n kd e = by (eqb_tells m.node k) (eqb_tells m.number n)
  where
    by : (((m.node == k) ≡ true) × (m.node ≡ k)) ⊎ (((m.node == k) ≡ false) × (m.node ≢ k))
        → (((m.number == n) ≡ true) × (m.number ≡ n)) ⊎ (((m.number == n) ≡ false) × (m.number ≢ n)) → m ≡ record { node = k; number = n; kind = kd }
    by (inl a) (inl b) =
        let c : same_kind m.kind kd ≡ true = rw (a.0, b.0) at e in
        subst (λ (x : ℕ). m ≡ record { node = x; number = n; kind = kd }) a.1
        (subst (λ (x : ℕ). m ≡ record { node = m.node; number = x; kind = kd }) b.1
        (ap (λ (x : MarkKind). record { node = m.node; number = m.number; kind = x }) (kind_is m.kind kd c)))
    by (inl a) (inr b) = absurd (cc (rw (a.0, b.0) at e))
    by (inr a) b = absurd (cc (rw a.0 at e))

pub marked_has : (k n : ℕ) (kd : MarkKind) (ms : List Mark) → is_marked ms k n kd ≡ true → Contains ms (mark k n kd)
unfolding is_marked
marked_has k n kd [] e = absurd (cc e)
marked_has k n kd (m ∷ ms) e = by ((m.node == k) && ((m.number == n) && same_kind m.kind kd)) refl e (λ x. marked_has k n kd ms x)
  where
    by : (b : Bool) → ((m.node == k) && ((m.number == n) && same_kind m.kind kd)) ≡ b → (b || is_marked ms k n kd) ≡ true
        → (is_marked ms k n kd ≡ true → Contains ms (mark k n kd)) → Contains (m ∷ ms) (mark k n kd)
    by true a f go = contains_head m ms (mark k n kd) (mark_is m k n kd a)
    by false a f go = contains_tail m ms (mark k n kd) (go f)

self_test : (k n : ℕ) (kd : MarkKind) → ((k == k) && ((n == n) && same_kind kd kd)) ≡ true
self_test k n kd = rw (same_test k k refl, same_test n n refl) (kind_self kd)

pub has_marked : (k n : ℕ) (kd : MarkKind) (ms : List Mark) → Contains ms (mark k n kd) → is_marked ms k n kd ≡ true
unfolding is_marked
has_marked k n kd [] h = absurd (contains_none (mark k n kd) h)
has_marked k n kd (m ∷ ms) h = by (contains_cases m ms (mark k n kd) h) (λ g. has_marked k n kd ms g)
  where
    by : (m ≡ mark k n kd) ⊎ Contains ms (mark k n kd) → (Contains ms (mark k n kd) → is_marked ms k n kd ≡ true)
        → (((m.node == k) && ((m.number == n) && same_kind m.kind kd)) || is_marked ms k n kd) ≡ true
    by (inl e) go = subst (λ (x : Mark). (((x.node == k) && ((x.number == n) && same_kind x.kind kd)) || is_marked ms k n kd) ≡ true) (sym e) (rw (self_test k n kd) refl)
    by (inr g) go = or_right ((m.node == k) && ((m.number == n) && same_kind m.kind kd)) (is_marked ms k n kd) (go g)
