-- What a replay of the edits after a position leaves.
use Rattle.std.proofs.Common.{◌≡◌, ℕ, ◌+◌, ◌-◌, ◌<◌, ◌≤◌, List, [], ◌∷◌, length, take, min, length-take, Option, Some, None, ◌⊎◌, inl, inr, refl, sym, ap, ◌∙◌, subst, arith}
use Rattle.std.specs.Option.{ForSome}
use Rattle.std.proofs.Math.Seq.{take-length}
use Rattle.std.proofs.lemmas.Bool.{cases_eq}
use Rattle.std.proofs.lemmas.List.{length-take-le}
use Rattle.journal_core.specs.Limits.{max_number}
use Rattle.journal_core.specs.Views.{BatchView, last_txid}
use Rattle.ns_tree.specs.Space.{Space, AreRising}
use Rattle.ns_edits.specs.Replay.{entered, goes_on, replay_from, Applied, All, BadEntry, applied}
use Rattle.ns_edits.proofs.Retries.{entry_rising}
use Rattle.ns_edits.proofs.Splits.{some_is, none≢some, HasGone, has_gone}
use Rattle.play_names.specs.Holding.{Holding, Broken}
use Rattle.play_names.specs.Tails.{Breaks, pass_begun, up_to, after_applied}
use Rattle.play_standby.specs.Standbys.{StandbyView, IsStandby}

-- no call is remembered above the last entry
pub rising_along : (t : ℕ) (bodies : List (List ℕ)) (s z : Space) → AreRising 0 t s.calls → replay_from t bodies s ≡ Some z → AreRising 0 (t + length bodies) z.calls
unfolding replay_from
rising_along t [] s z h e =
    let same : t ≡ t + length {A = List ℕ} [] = omega arith in
    subst (λ (k : ℕ). AreRising 0 k z.calls) same (subst (λ (x : Space). AreRising 0 t x.calls) (some_is s z e) h)
rising_along t (body ∷ bodies) s z h e = by (λ y. rising_along (t + 1) bodies y z) (entered (t + 1) body s) refl e
  where
    by : ((y : Space) → AreRising 0 (t + 1) y.calls → replay_from (t + 1) bodies y ≡ Some z → AreRising 0 (t + 1 + length bodies) z.calls)
        → (o : Option Space) → entered (t + 1) body s ≡ o → goes_on o (replay_from (t + 1) bodies) ≡ Some z → AreRising 0 (t + length (body ∷ bodies)) z.calls
    by rec None is e = none≢some z e
    by rec (Some y) is e =
        let same : t + 1 + length bodies ≡ t + length (body ∷ bodies) = omega arith in
        subst (λ (k : ℕ). AreRising 0 k z.calls) same (rec y (entry_rising t body s y h is) e)

-- what was applied of a batch, as far as it goes
pub record Left (t : ℕ) (bodies : List (List ℕ)) (s z : Space) (u : ℕ) : Type 0 where
  pub count : ℕ
  pub few : count ≤ length bodies
  pub position : u ≡ t + count
  pub replayed : replay_from t (take count bodies) s ≡ Some z

left_sound : (t : ℕ) (bodies : List (List ℕ)) (s z : Space) (u : ℕ) → AreRising 0 t s.calls → t + length bodies ≤ max_number → Left t bodies s z u → IsStandby (record { space = z; position = u })
left_sound t bodies s z u h most l =
    let size : length (take l.count bodies) ≡ l.count = length-take-le l.count bodies l.few in
    let same : t + length (take l.count bodies) ≡ u = omega (arith, size, l.position) in
    record {
      within = omega (arith, l.position, l.few, most);
      calls = subst (λ (k : ℕ). AreRising 0 k z.calls) same (rising_along t (take l.count bodies) s z h l.replayed);
    }

all_left : (t : ℕ) (bodies : List (List ℕ)) (s z : Space) (u : ℕ) → applied t bodies s ≡ All z u → IsStandby (record { space = s; position = t }) → t + length bodies ≤ max_number
    → IsStandby (record { space = z; position = u })
all_left t bodies s z u e h most =
    let gone : HasGone t bodies s (All z u) = subst (HasGone t bodies s) e (has_gone t bodies s) in
    let calls : AreRising 0 (t + length bodies) z.calls = rising_along t bodies s z h.calls gone.0 in
    record { within = omega (arith, gone.1, most); calls = subst (λ (k : ℕ). AreRising 0 k z.calls) (sym gone.1) calls }

pub bad_positive : (t : ℕ) (bodies : List (List ℕ)) (s z : Space) (u : ℕ) → applied t bodies s ≡ BadEntry z u → 1 ≤ u
bad_positive t bodies s z u e =
    let gone : HasGone t bodies s (BadEntry z u) = subst (HasGone t bodies s) e (has_gone t bodies s) in
    omega (arith, gone.0.position)

bad_left : (t : ℕ) (bodies : List (List ℕ)) (s z : Space) (u : ℕ) → applied t bodies s ≡ BadEntry z u → IsStandby (record { space = s; position = t }) → t + length bodies ≤ max_number
    → IsStandby (record { space = z; position = u - 1 })
bad_left t bodies s z u e h most =
    let gone : HasGone t bodies s (BadEntry z u) = subst (HasGone t bodies s) e (has_gone t bodies s) in
    left_sound t bodies s z (u - 1) h.calls most (record { count = gone.0.count; few = gone.0.few; position = omega (arith, gone.0.position); replayed = gone.0.replayed })

-- a bad entry stands before the end
bad_within : (t : ℕ) (bodies : List (List ℕ)) (s z : Space) (u : ℕ) → applied t bodies s ≡ BadEntry z u → u ≤ t + length bodies
bad_within t bodies s z u e =
    let gone : HasGone t bodies s (BadEntry z u) = subst (HasGone t bodies s) e (has_gone t bodies s) in
    by gone (cases_eq gone.0.count (length bodies))
  where
    by : (g : HasGone t bodies s (BadEntry z u)) → (g.0.count ≡ length bodies) ⊎ (g.0.count ≡ length bodies → ⊥) → u ≤ t + length bodies
    by g (inl same) =
        let whole : take g.0.count bodies ≡ bodies = ap (λ (k : ℕ). take k bodies) same ∙ take-length bodies in
        none≢some z (sym g.1 ∙ (ap (λ (l : List (List ℕ)). replay_from t l s) (sym whole) ∙ g.0.replayed))
    by g (inr ne) =
        let less : g.0.count < length bodies = below g.0.count (length bodies) g.0.few ne in
        omega (arith, less, g.0.position)
      where
        below : (a b : ℕ) → a ≤ b → (a ≡ b → ⊥) → a < b
        below a b le ne = grind arith

-- ## Of a batch that was cut at the end of the tail
pub record IsCut (until : Option ℕ) (s : StandbyView) (whole cut : BatchView) : Type 0 where
  pub is : cut ≡ record { first = whole.first; bodies = up_to until s.position whole.bodies }
  pub first : whole.first ≡ s.position + 1
  pub last : last_txid whole ≤ max_number

shorter : (until : Option ℕ) (t : ℕ) (bodies : List (List ℕ)) → length (up_to until t bodies) ≤ length bodies
shorter None t bodies = omega arith
shorter (Some last) t bodies = let e : length (take (last - t) bodies) ≡ min (last - t) (length bodies) = length-take (last - t) bodies in grind (arith, e)

module _ (until : Option ℕ) (s : StandbyView) (whole cut : BatchView) (h : IsCut until s whole cut) where
  from : cut.first - 1 ≡ s.position
  from = let e : cut.first ≡ whole.first = ap (λ (b : BatchView). b.first) h.is in omega (arith, e, h.first)

  most : s.position + length cut.bodies ≤ max_number
  most =
      let e : length cut.bodies ≡ length (up_to until s.position whole.bodies) = ap (λ (b : BatchView). length b.bodies) h.is in
      omega (arith, e, shorter until s.position whole.bodies, h.first, h.last)

  at : (z : Applied) → applied (cut.first - 1) cut.bodies s.space ≡ z → applied s.position (up_to until s.position whole.bodies) s.space ≡ z
  at z e = ap (λ (l : List (List ℕ)). applied s.position l s.space) (sym (ap (λ (b : BatchView). b.bodies) h.is)) ∙ ap (λ (k : ℕ). applied k cut.bodies s.space) (sym from) ∙ e

  pub all_sound : IsStandby s → (z : Space) (u : ℕ) → applied (cut.first - 1) cut.bodies s.space ≡ All z u → IsStandby (record { space = z; position = u })
  all_sound i z u e = all_left s.position cut.bodies s.space z u (ap (λ (k : ℕ). applied k cut.bodies s.space) (sym from) ∙ e) i most

  pub bad_sound : IsStandby s → (z : Space) (u : ℕ) → applied (cut.first - 1) cut.bodies s.space ≡ BadEntry z u → IsStandby (record { space = z; position = u - 1 })
  bad_sound i z u e = bad_left s.position cut.bodies s.space z u (ap (λ (k : ℕ). applied k cut.bodies s.space) (sym from) ∙ e) i most

  pub part_sound : IsStandby s → (z : Space) (count : ℕ) → count < length cut.bodies → replay_from (cut.first - 1) (take count cut.bodies) s.space ≡ Some z
      → IsStandby (record { space = z; position = s.position + count })
  part_sound i z count few e =
      left_sound s.position cut.bodies s.space z (s.position + count) i.calls most
      (record { count = count; few = omega (arith, few); position = refl; replayed = ap (λ (k : ℕ). replay_from k (take count cut.bodies) s.space) (sym from) ∙ e })

  cut_is : cut ≡ record { first = whole.first; bodies = up_to until s.position whole.bodies }
  cut_is = h.is

  cut_short : (last : ℕ) → until ≡ Some last → s.position < last → s.position + length cut.bodies ≤ last
  cut_short last e below =
      let bodies : cut.bodies ≡ take (last - s.position) whole.bodies = ap (λ (b : BatchView). b.bodies) cut_is ∙ ap (λ (o : Option ℕ). up_to o s.position whole.bodies) e in
      let size : length cut.bodies ≡ min (last - s.position) (length whole.bodies) = ap (λ (l : List (List ℕ)). length l) bodies ∙ length-take (last - s.position) whole.bodies in
      omega (arith, size, below)

  pub bad_before : ForSome until (λ last. s.position < last) → (z : Space) (u : ℕ) → applied (cut.first - 1) cut.bodies s.space ≡ BadEntry z u → until ≡ Some (u - 1) → ⊥
  bad_before f z u e at =
      let lt : s.position < u - 1 = f (u - 1) at in
      let short : s.position + length cut.bodies ≤ u - 1 = cut_short (u - 1) at lt in
      let within : u ≤ s.position + length cut.bodies = bad_within s.position cut.bodies s.space z u (ap (λ (k : ℕ). applied k cut.bodies s.space) (sym from) ∙ e) in
      omega (arith, short, within, lt)

  pub all_goes : (h : Holding) (z : Space) (u : ℕ) → applied (cut.first - 1) cut.bodies s.space ≡ All z u
      → after_applied until (applied s.position (up_to until s.position whole.bodies) s.space) h ≡ pass_begun until (record h { space = z; position = u })
  all_goes h z u e = ap (λ (a : Applied). after_applied until a h) (at (All z u) e)

  pub bad_breaks : (h : Holding) (z : Space) (u : ℕ) → applied (cut.first - 1) cut.bodies s.space ≡ BadEntry z u
      → after_applied until (applied s.position (up_to until s.position whole.bodies) s.space) h ≡ Breaks (record h { space = z; position = u - 1; work = Broken })
  bad_breaks h z u e = ap (λ (a : Applied). after_applied until a h) (at (BadEntry z u) e)
