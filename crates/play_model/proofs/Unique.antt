-- A script has one play, and lines and answers have one record.
use Rattle.std.proofs.Common.{◌≡◌, ℕ, zero, suc, ◌+◌, ◌-◌, ◌≤◌, List, [], ◌∷◌, Bool, true, refl, sym, ap, ◌∙◌, subst, arith, ◌⊎◌, inl, inr}
use Rattle.std.specs.Prelude.{Option, None}
use Rattle.journal_history.specs.declared.record.Record.{Record}
use Rattle.journal_history.specs.declared.record.Record.TheVariants.{Call, Late, Operator, Outcome}
use Rattle.journal_history.specs.declared.record.Told.{Told}
use Rattle.play_model.specs.Lines.{Line}
use Rattle.play_model.specs.Actor.{Actor, Want, WantsCall, WantsCopy, Says, Rests, wants, goes_on, Fits, actor_after, IsLed}
use Rattle.play_model.specs.Plays.{Play, next_line, take_turn, play_step, play_steps, play_begins, has_ended, IsPlay}
use Rattle.play_model.specs.Told.{told_in}
use Rattle.play_model.proofs.Final.{ended_lines, ended_turn}

-- ## A play that has ended stays as it is
still_by : (p : Play) (o : Option ℕ) (ls : List Line) → o ≡ None → p.lines ≡ ls → ls ≡ [] → take_turn o p ≡ p
unfolding take_turn next_line
still_by p o ls e l n = subst (λ (x : Option ℕ). take_turn x p ≡ p) (sym e) (subst (λ (x : List Line). next_line x p ≡ p) (sym (l ∙ n)) refl)

still : (p : Play) → has_ended p ≡ true → play_step p ≡ p
unfolding play_step
still p e = still_by p p.turn p.lines (ended_turn p e) refl (ended_lines p e)

stays : (n : ℕ) (p : Play) → has_ended p ≡ true → play_steps n p ≡ p
unfolding play_steps
stays zero p e = refl
stays (suc n) p e = ap (play_steps n) (still p e) ∙ stays n p e

pub more_steps : (n k : ℕ) (p : Play) → play_steps (k + n) p ≡ play_steps k (play_steps n p)
unfolding play_steps
more_steps zero k p = let same : k + 0 ≡ k = omega arith in ap (λ (x : ℕ). play_steps x p) same
more_steps (suc n) k p =
    let same : k + suc n ≡ suc (k + n) = omega arith in
    ap (λ (x : ℕ). play_steps x p) same ∙ more_steps n k (play_step p)

unique_by : (named : Bool) (n : ℕ) (lines : List Line) (p q : Play) (h : IsPlay named n lines p) (g : IsPlay named n lines q) → h.steps ≤ g.steps → p ≡ q
unique_by named n lines p q h g l =
    let same : g.steps ≡ g.steps - h.steps + h.steps = omega (arith, l) in
    let whole : play_steps g.steps (play_begins named n lines) ≡ play_steps (g.steps - h.steps) p =
    ap (λ (x : ℕ). play_steps x (play_begins named n lines)) same ∙ (more_steps h.steps (g.steps - h.steps) (play_begins named n lines) ∙ ap (play_steps (g.steps - h.steps)) h.reached) in
    sym (stays (g.steps - h.steps) p h.ended) ∙ (sym whole ∙ g.reached)

pub one_play : (named : Bool) (n : ℕ) (lines : List Line) (p q : Play) → IsPlay named n lines p → IsPlay named n lines q → p ≡ q
one_play named n lines p q h g = by (total h.steps g.steps)
  where
    total : (a b : ℕ) → (a ≤ b) ⊎ (b ≤ a)
    total a b = grind arith

    by : (h.steps ≤ g.steps) ⊎ (g.steps ≤ h.steps) → p ≡ q
    by (inl l) = unique_by named n lines p q h g l
    by (inr l) = sym (unique_by named n lines q p g h l)

-- ## What a want fixes of a line
fixed : (w : Want) (r x : Record) → Fits w r → Fits w x → told_in (r ∷ []) ≡ told_in (x ∷ []) → r ≡ x
unfolding Fits told_in
fixed (WantsCall k q) (Call i p t) (Call j o u) h g e =
    let same : t ≡ u = cc e in
    cc (h.0, h.1, g.0, g.1, same)
fixed (WantsCall k q) (Call i p t) (Late j o) h g e = absurd g
fixed (WantsCall k q) (Call i p t) (Operator j o d) h g e = absurd g
fixed (WantsCall k q) (Call i p t) (Outcome y) h g e = absurd g
fixed (WantsCall k q) (Late i p) x h g e = absurd h
fixed (WantsCall k q) (Operator i p d) x h g e = absurd h
fixed (WantsCall k q) (Outcome y) x h g e = absurd h
fixed (WantsCopy k q) (Late i p) (Late j o) h g e = cc (h.0, h.1, g.0, g.1)
fixed (WantsCopy k q) (Late i p) (Call j o u) h g e = absurd g
fixed (WantsCopy k q) (Late i p) (Operator j o d) h g e = absurd g
fixed (WantsCopy k q) (Late i p) (Outcome y) h g e = absurd g
fixed (WantsCopy k q) (Call i p t) x h g e = absurd h
fixed (WantsCopy k q) (Operator i p d) x h g e = absurd h
fixed (WantsCopy k q) (Outcome y) x h g e = absurd h
fixed (Says t) (Outcome y) (Outcome z) h g e = ap Outcome (h ∙ sym g)
fixed (Says t) (Outcome y) (Call j o u) h g e = absurd g
fixed (Says t) (Outcome y) (Late j o) h g e = absurd g
fixed (Says t) (Outcome y) (Operator j o d) h g e = absurd g
fixed (Says t) (Call i p u) x h g e = absurd h
fixed (Says t) (Late i p) x h g e = absurd h
fixed (Says t) (Operator i p d) x h g e = absurd h
fixed Rests r x h g e = absurd h

told_parts : (w : Want) (r x : Record) (rs xs : List Record) → Fits w r → Fits w x → told_in (r ∷ rs) ≡ told_in (x ∷ xs) → (told_in (r ∷ []) ≡ told_in (x ∷ [])) × (told_in rs ≡ told_in xs)
unfolding Fits told_in
told_parts (WantsCall k q) (Call i p t) (Call j o u) rs xs h g e = (ap (λ (z : Told). z ∷ []) (cc e), cc e)
told_parts (WantsCall k q) (Call i p t) (Late j o) rs xs h g e = absurd g
told_parts (WantsCall k q) (Call i p t) (Operator j o d) rs xs h g e = absurd g
told_parts (WantsCall k q) (Call i p t) (Outcome y) rs xs h g e = absurd g
told_parts (WantsCall k q) (Late i p) x rs xs h g e = absurd h
told_parts (WantsCall k q) (Operator i p d) x rs xs h g e = absurd h
told_parts (WantsCall k q) (Outcome y) x rs xs h g e = absurd h
told_parts (WantsCopy k q) (Late i p) (Late j o) rs xs h g e = (refl, e)
told_parts (WantsCopy k q) (Late i p) (Call j o u) rs xs h g e = absurd g
told_parts (WantsCopy k q) (Late i p) (Operator j o d) rs xs h g e = absurd g
told_parts (WantsCopy k q) (Late i p) (Outcome y) rs xs h g e = absurd g
told_parts (WantsCopy k q) (Call i p t) x rs xs h g e = absurd h
told_parts (WantsCopy k q) (Operator i p d) x rs xs h g e = absurd h
told_parts (WantsCopy k q) (Outcome y) x rs xs h g e = absurd h
told_parts (Says t) (Outcome y) (Outcome z) rs xs h g e = (refl, e)
told_parts (Says t) (Outcome y) (Call j o u) rs xs h g e = absurd g
told_parts (Says t) (Outcome y) (Late j o) rs xs h g e = absurd g
told_parts (Says t) (Outcome y) (Operator j o d) rs xs h g e = absurd g
told_parts (Says t) (Call i p u) x rs xs h g e = absurd h
told_parts (Says t) (Late i p) x rs xs h g e = absurd h
told_parts (Says t) (Operator i p d) x rs xs h g e = absurd h
told_parts Rests r x rs xs h g e = absurd h

no_line : (w : Want) (x : Record) → w ≡ Rests → Fits w x → ⊥
unfolding Fits
no_line w x e h = subst (λ (z : Want). Fits z x) e h

-- a record that rests where it ends, and another by the same answers, are one
pub one_record : (a : Actor) (rs xs : List Record) → IsLed a rs → IsLed a xs → wants (actor_after a rs) ≡ Rests → wants (actor_after a xs) ≡ Rests → told_in rs ≡ told_in xs → rs ≡ xs
unfolding IsLed actor_after
one_record a [] [] h g e f t = refl
one_record a [] (x ∷ xs) h g e f t = absurd (no_line (wants a) x e g.0)
one_record a (r ∷ rs) [] h g e f t = absurd (no_line (wants a) r f h.0)
one_record a (r ∷ rs) (x ∷ xs) h g e f t =
    let parts : (told_in (r ∷ []) ≡ told_in (x ∷ [])) × (told_in rs ≡ told_in xs) = told_parts (wants a) r x rs xs h.0 g.0 t in
    let same : r ≡ x = fixed (wants a) r x h.0 g.0 parts.0 in
    let g' : IsLed (goes_on a r) xs = subst (λ (z : Record). IsLed (goes_on a z) xs) (sym same) g.1 in
    let f' : wants (actor_after (goes_on a r) xs) ≡ Rests = subst (λ (z : Record). wants (actor_after (goes_on a z) xs) ≡ Rests) (sym same) f in
    ap (λ (z : Record). z ∷ rs) same ∙ ap (λ (l : List Record). x ∷ l) (one_record (goes_on a r) rs xs h.1 g' e f' parts.1)
