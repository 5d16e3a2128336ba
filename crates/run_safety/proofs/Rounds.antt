-- The rounds of one takeover in order: the round before each, and what all earlier ones wrote. No
-- run is named here.
use Rattle.std.proofs.Common.{◌≡◌, ℕ, zero, suc, ◌<◌, ◌≤◌, List, Some, inl, inr, arith, subst, sym, ap, ◌∙◌}
use Rattle.std.proofs.lemmas.Bool.{cases_lt}
use Rattle.writer_core.specs.declared.round.Round.{Round as TableRound}
use Rattle.writer_core.specs.declared.round.Round.TheVariants as table
use Rattle.writer_core.specs.declared.slot.Slot.{Slot}
use Rattle.writer_core.specs.Views.{WriterView}
use Rattle.writer_core.specs.Whole.{Takeover}
use Rattle.run_safety.proofs.Slots.{some_same}
use Rattle.run_safety.proofs.SeenLaws.{Round, Propose, Ask, Get, Recover, Finalizing, Open, Write, Clean, Other, Writer, seen_round, seen, seen_at, SeenAt, seen_of, seen_here}
use Rattle.run_safety.proofs.Frames.{Done, Getting, Frame, low_of, end_below, IsGet, StepOf, Stands}
use Rattle.run_safety.proofs.Table.{Comes as ComesAt, comes_at, sound_at}

-- ## The round before
pub record Comes (n : ℕ) (t : Takeover) (s : ℕ) (next : Writer) : Type 0 where
  pub writer : Writer
  pub at : seen_at n t s ≡ Some writer
  pub step : StepOf n t s writer next
  pub done : (IsGet writer.round → ⊥) → Done n writer (t.heard s)
  pub low : end_below writer writer.round ≤ low_of next next.round

pub comes : (n : ℕ) (t : Takeover) (s : ℕ) (next : Writer) → seen_at n t (suc s) ≡ Some next → Comes n t s next
comes n t s next e =
    let x : SeenAt n t (suc s) next = seen_of n t (suc s) next e in
    let c : ComesAt n t s x.underway = comes_at n t s x.underway x.tasks x.at in
    record {
      writer = seen c.writer;
      at = seen_here n t s c.writer x.tasks c.at;
      step = subst (λ z. StepOf n t s (seen c.writer) z) x.is c.next_is.step;
      done = c.next_is.done;
      low = subst (λ z. end_below (seen c.writer) (seen c.writer).round ≤ low_of z z.round) x.is c.next_is.low;
    }

pub frame : (n : ℕ) (t : Takeover) (s : ℕ) (w : Writer) → seen_at n t s ≡ Some w → Frame w
frame n t s w e =
    let x : SeenAt n t s w = seen_of n t s w e in
    subst (λ z. Frame z) x.is (sound_at n t s x.underway x.tasks x.at).frame

-- a fetch goes to the node of the best answer that counts
get_stands : (n : ℕ) (t : Takeover) (s : ℕ) (w : WriterView) (r : TableRound) (node m end : ℕ) (bodies : List (List ℕ)) → Stands n t s w.slots r
    → seen_round w r ≡ Get node m end bodies → Getting n t m node end w.slots
get_stands n t s w table.State node m end bodies h e = let no : Other ≡ Get node m end bodies = e in cc
get_stands n t s w table.Propose node m end bodies h e = let no : Propose ≡ Get node m end bodies = e in cc
get_stands n t s w (table.Prepare k) node m end bodies h e = let no : Ask k ≡ Get node m end bodies = e in cc
get_stands n t s w (table.Fetch node2 m2 end2 bodies2) node m end bodies h e =
    let one : Get node2 m2 end2 bodies2 ≡ Get node m end bodies = e in
    let a : node2 ≡ node = cc in
    let b : m2 ≡ m = cc in
    let c : end2 ≡ end = cc in
    subst (λ z. Getting n t m node z w.slots) c (subst (λ z. Getting n t m z end2 w.slots) a (subst (λ z. Getting n t z node2 end2 w.slots) b h))
get_stands n t s w (table.Accept b) node m end bodies h e = let no : Recover b ≡ Get node m end bodies = e in cc
get_stands n t s w (table.Finalize k l) node m end bodies h e = let no : Finalizing k l ≡ Get node m end bodies = e in cc
get_stands n t s w table.Start node m end bodies h e = let no : Open w.start ≡ Get node m end bodies = e in cc
get_stands n t s w table.Open node m end bodies h e = let no : Write w.start _ ≡ Get node m end bodies = e in cc
get_stands n t s w (table.Write b) node m end bodies h e = let no : Write w.start _ ≡ Get node m end bodies = e in cc
get_stands n t s w (table.Purge min) node m end bodies h e = let no : Clean min ≡ Get node m end bodies = e in cc

pub getting : (n : ℕ) (t : Takeover) (s : ℕ) (w : Writer) (node m end : ℕ) (bodies : List (List ℕ)) → seen_at n t s ≡ Some w
    → w.round ≡ Get node m end bodies → (slots : List Slot) × Getting n t m node end slots
getting n t s w node m end bodies e is =
    let x : SeenAt n t s w = seen_of n t s w e in
    (x.underway.writer.slots, get_stands n t s x.underway.writer x.underway.round node m end bodies (sound_at n t s x.underway x.tasks x.at).stands (ap (λ z. z.round) x.is ∙ is))

-- ## Earlier rounds
low_le : (w : Writer) (r : Round) → low_of w r ≤ end_below w r
low_le w Propose = omega arith
low_le w (Ask m) = omega arith
low_le w (Get node m end bodies) = omega arith
low_le w (Recover b) = omega arith
low_le w (Finalizing m l) = omega arith
low_le w (Open m) = omega arith
low_le w (Write m b) = omega arith
low_le w (Clean l) = omega arith
low_le w Other = omega arith

-- what a round writes ends at or below what a later one begins with
pub below_later : (n : ℕ) (t : Takeover) (s later : ℕ) (w x : Writer) → s < later → seen_at n t s ≡ Some w → seen_at n t later ≡ Some x → end_below w w.round ≤ low_of x x.round
below_later n t s zero w x lt a b = absurd (omega arith)
below_later n t s (suc later) w x lt a b =
    let c : Comes n t later x = comes n t later x b in
    elim (cases_lt s later) [
      | inl earlier ↦
          (let rest : end_below w w.round ≤ low_of c.writer c.writer.round = below_later n t s later w c.writer earlier a c.at in
          let own : low_of c.writer c.writer.round ≤ end_below c.writer c.writer.round = low_le c.writer c.writer.round in omega (arith, c.low))
      | inr not_before ↦
          (let same : s ≡ later = omega arith in
          let one : w ≡ c.writer = some_same (sym a ∙ (ap (λ k. seen_at n t k) same ∙ c.at)) in
          subst (λ z. end_below z z.round ≤ low_of x x.round) (sym one) c.low)
    ]

-- every round before one that came was there, and but for a fetch a majority answered it
pub record RoundBefore (n : ℕ) (t : Takeover) (s : ℕ) : Type 0 where
  pub writer : Writer
  pub at : seen_at n t s ≡ Some writer
  pub done : (IsGet writer.round → ⊥) → Done n writer (t.heard s)

pub earlier_round : (n : ℕ) (t : Takeover) (s later : ℕ) (x : Writer) → s < later → seen_at n t later ≡ Some x → RoundBefore n t s
earlier_round n t s zero x lt b = absurd (omega arith)
earlier_round n t s (suc later) x lt b =
    let c : Comes n t later x = comes n t later x b in
    elim (cases_lt s later) [
      | inl earlier ↦ earlier_round n t s later c.writer earlier c.at
      | inr not_before ↦ (let same : s ≡ later = omega arith in
          subst (λ k. RoundBefore n t k) (sym same) (record { writer = c.writer; at = c.at; done = c.done }))
    ]
