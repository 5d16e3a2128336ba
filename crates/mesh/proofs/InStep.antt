-- A caller's record and an order of all lines that has its lines in the order of the record: what
-- stands before each of them in both.
use Rattle.std.proofs.Common.{◌≡◌, ℕ, List, [], ◌∷◌, ◌++◌, refl, sym, ap, ◌∙◌, subst, append_assoc, ◌⊎◌, inl, inr}
use Rattle.journal_history.specs.declared.record.Record.{Record}
use Rattle.journal_history.specs.Moving.{Placed}
use Rattle.mesh.specs.Matches.{reached, lines_of, AreSame}
use Rattle.mesh.specs.Traces.{history_of, IsEvent, InStep, begins, notes, waits, goes}
use Rattle.mesh.proofs.Tied.{Tied, quiet, others, both}

-- so both list the same of each node
pub tied_of : (k c : ℕ) (rs : List Record) (t : List Placed) → InStep c rs t → Tied k c rs t
tied_of k c rs t begins = unfold Tied history_of reached lines_of AreSame in tt
tied_of k c rs t (notes old more u r is off h) = subst (λ (l : List Record). Tied k c l t) (sym is) (quiet k c old r t (off k) (tied_of k c old t h))
tied_of k c rs t (waits old u next x is off h) = subst (λ (l : List Placed). Tied k c rs l) (sym is) (others k c rs u x off (tied_of k c rs u h))
tied_of k c rs t (goes old more u next r x is then by e h) =
    subst (λ (l : List Record). Tied k c l t) (sym is) (subst (λ (l : List Placed). Tied k c (old ++ r ∷ []) l) (sym then) (both k c old r u x by (e.reach k) e.same (tied_of k c old u h)))

-- ## Where a line of the trace stands in its caller's record
pub record Sent (c : ℕ) (rs : List Record) (before : List Placed) (x : Placed) : Type 0 where
  pub past : List Record
  pub line : Record
  pub rest : List Record
  pub whole : rs ≡ past ++ line ∷ rest
  pub event : IsEvent line x
  pub step : InStep c past before

-- an item of a list that got one more is the last or one of the others
last_or : {A : Type 0} (xs : List A) (y : A) (before after : List A) (x : A) → xs ++ y ∷ [] ≡ before ++ x ∷ after → ((xs ≡ before) × (y ≡ x)) ⊎ ((rest : List A) × (xs ≡ before ++ x ∷ rest))
last_or [] y [] after x e = inl (refl, cc e)
last_or [] y (b ∷ []) after x e = absurd (cc e)
last_or [] y (b ∷ (d ∷ before)) after x e = absurd (cc e)
last_or {A} (z ∷ xs) y [] after x e = let same : z ≡ x = cc e in inr (xs, ap (λ (w : A). w ∷ xs) same)
last_or {A} (z ∷ xs) y (b ∷ before) after x e =
    let first : z ≡ b = cc e in
    let tail : xs ++ y ∷ [] ≡ before ++ x ∷ after = cc e in
    by first (last_or xs y before after x tail)
  where
    by : z ≡ b → ((xs ≡ before) × (y ≡ x)) ⊎ ((rest : List A) × (xs ≡ before ++ x ∷ rest)) → ((z ∷ xs ≡ b ∷ before) × (y ≡ x)) ⊎ ((rest : List A) × (z ∷ xs ≡ b ∷ (before ++ x ∷ rest)))
    by f (inl h) = inl (ap (λ (l : List A). z ∷ l) h.0 ∙ ap (λ (w : A). w ∷ before) f, h.1)
    by f (inr h) = inr (h.0, ap (λ (l : List A). z ∷ l) h.1 ∙ ap (λ (w : A). w ∷ (before ++ x ∷ h.0)) f)

abbrev pub sent_more : (c : ℕ) (rs more last : List Record) (before : List Placed) (x : Placed) → more ≡ rs ++ last → Sent c rs before x → Sent c more before x
sent_more c rs more last before x is s = record {
  past = s.past;
  line = s.line;
  rest = s.rest ++ last;
  whole = is ∙ ap (λ (l : List Record). l ++ last) s.whole ∙ append_assoc s.past (s.line ∷ s.rest) last;
  event = s.event;
  step = s.step;
}

nothing_there : (before after : List Placed) (x : Placed) → [] ≡ before ++ x ∷ after → ⊥
nothing_there [] after x e = cc e
nothing_there (y ∷ before) after x e = cc e

pub sent_at : (c : ℕ) (rs : List Record) (t before after : List Placed) (x : Placed) → InStep c rs t → t ≡ before ++ x ∷ after → x.line.caller ≡ c → Sent c rs before x
sent_at c rs t before after x begins e by = absurd (nothing_there before after x e)
sent_at c rs t before after x (notes old more u r is off h) e by = sent_more c old rs (r ∷ []) before x is (sent_at c old t before after x h e by)
sent_at c rs t before after x (waits old u next y is off h) e by = at (last_or u y before after x (sym is ∙ e)) (λ l f. sent_at c rs u before l x h f by)
  where
    at : ((u ≡ before) × (y ≡ x)) ⊎ ((l : List Placed) × (u ≡ before ++ x ∷ l)) → ((l : List Placed) → u ≡ before ++ x ∷ l → Sent c rs before x) → Sent c rs before x
    at (inl w) go = absurd (off (ap (λ (z : Placed). z.line.caller) w.1 ∙ by))
    at (inr w) go = go w.0 w.1
sent_at c rs t before after x (goes old more u next r y is then from event h) e by = at (last_or u y before after x (sym then ∙ e)) (λ l f. sent_at c old u before l x h f by)
  where
    at : ((u ≡ before) × (y ≡ x)) ⊎ ((l : List Placed) × (u ≡ before ++ x ∷ l)) → ((l : List Placed) → u ≡ before ++ x ∷ l → Sent c old before x) → Sent c rs before x
    at (inl w) go = record { past = old; line = r; rest = []; whole = is; event = subst (IsEvent r) w.1 event; step = subst (InStep c old) w.0 h }
    at (inr w) go = sent_more c old rs (r ∷ []) before x is (go w.0 w.1)
