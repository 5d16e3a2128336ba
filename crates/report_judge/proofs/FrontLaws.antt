-- The search for the longest front of some lines that keeps a fact, and what no list breaks.
use Rattle.std.proofs.Common.{ℕ, ◌≡◌, ◌+◌, ◌-◌, ◌<◌, ◌≤◌, Bool, List, [], ◌⊎◌, inl, inr, Result, Ok, Err, Decides, length, take, sym, subst, arith}
use Rattle.std.specs.Prelude.{IfOk}
use Rattle.std.proofs.Math.Seq.{take-length}
use Rattle.std.proofs.lemmas.Bool.{cases_lt}
use Rattle.std.proofs.lemmas.List.{get_or_past}
use Rattle.journal_history.specs.declared.history_line.HistoryLine.{HistoryLine}
use Rattle.journal_history.specs.declared.record.Record.{Record}
use Rattle.journal_history.specs.Cell.{fresh_cell, IsLocalRun}
use Rattle.mesh.specs.declared.whole.Mesh.{Mesh}
use Rattle.mesh.specs.Agree.{history_at}
use Rattle.mesh.specs.Makers.{IsOperators, HaveBodies, IsMade, IsOfChores}
use Rattle.mesh.specs.Matches.{AreWithin}
use Rattle.mesh_judge.specs.Parts.{AreLocal}
use Rattle.mesh_judge.specs.Fronts.{KeepsUpTo}
use Rattle.report_judge.specs.declared.fronts.Caller.{Caller}
use Rattle.report_judge.specs.declared.fronts.Caller.TheVariants as caller
use Rattle.report_judge.specs.Places.{AreOf}

-- a front of so many lines keeps it, and one of so many doesn't
pub record Between {A : Type 0} (P : List A → Type 0) (lines : List A) (kept broken : ℕ) : Type 0 where
  pub ordered : kept ≤ broken
  pub in_lines : broken ≤ length lines
  pub front : P (take kept lines)
  pub broken_front : P (take broken lines) → ⊥

pub begins : {A : Type 0} (P : List A → Type 0) (lines : List A) → P [] → (P lines → ⊥) → Between P lines 0 (length lines)
begins P lines p n = record { ordered = omega arith; in_lines = omega arith; front = p; broken_front = λ q. n (subst P (take-length lines) q) }

pub goes_up : {A : Type 0} (P : List A → Type 0) (lines : List A) (kept broken front : ℕ) → Between P lines kept broken → front < broken → P (take front lines) → Between P lines front broken
goes_up P lines kept broken front b l p = record { ordered = omega (arith, l); in_lines = b.in_lines; front = p; broken_front = b.broken_front }

pub goes_down : {A : Type 0} (P : List A → Type 0) (lines : List A) (kept broken front : ℕ) → Between P lines kept broken → kept < front → front < broken → (P (take front lines) → ⊥)
    → Between P lines kept front
goes_down P lines kept broken front b g l n = record { ordered = omega (arith, g); in_lines = let w = b.in_lines in omega (arith, l, w); front = b.front; broken_front = n }

pub ends : {A : Type 0} (P : List A → Type 0) (lines : List A) (kept broken : ℕ) → Between P lines kept broken → broken - kept ≤ 1 → KeepsUpTo P lines kept
ends P lines kept broken b l = by (cases_lt kept broken)
  where
    by : (kept < broken) ⊎ (broken ≤ kept) → KeepsUpTo P lines kept
    by (inl g) =
        let e : broken ≡ kept + 1 = omega (arith, g, l) in
        record { within = let w = b.in_lines in omega (arith, g, w); front = b.front; broken = subst (λ (n : ℕ). P (take n lines) → ⊥) e b.broken_front }
    by (inr g) = let o = b.ordered in let e : kept ≡ broken = omega (arith, g, o) in absurd (b.broken_front (subst (λ (n : ℕ). P (take n lines)) e b.front))

-- no lines are what one node answers
pub no_lines : IsLocalRun fresh_cell []
unfolding IsLocalRun
no_lines = tt

-- of a node behind the last there are none
pub all_local : (m : Mesh) (n : ℕ) → length m.histories ≤ n → ((i : ℕ) → i < n → IsLocalRun fresh_cell (history_at m i)) → AreLocal m
all_local m n l h i low = by (cases_lt i n)
  where
    by : (i < n) ⊎ (n ≤ i) → IsLocalRun fresh_cell (history_at m i)
    by (inl g) = h i g
    by (inr g) = subst (λ (hs : List HistoryLine). IsLocalRun fresh_cell hs) (sym (get_or_past m.histories i [] (omega (arith, l, g)))) no_lines

-- no lines are calls of any caller
pub none_of : (who : Caller) (nodes : ℕ) → AreOf who nodes []
unfolding IsOperators AreWithin HaveBodies IsMade
none_of caller.Operator nodes = tt
none_of caller.Actor nodes = (tt, ([], tt, tt))

-- lines to the nodes that are there are an actor's where some chores make them
pub made_of : {E : Type 0} (who : Caller) (nodes : ℕ) (lines : List Record) (r : Result Bool E) → who ≡ caller.Actor → AreWithin nodes lines → IfOk r (λ b. Decides b (IsOfChores nodes lines))
    → IfOk r (λ b. Decides b (AreOf who nodes lines))
made_of who nodes lines (Ok b) e w d = subst (λ (x : Caller). Decides b (AreOf x nodes lines)) (sym e) (λ t. (w, d.0 t), λ p. d.1 p.1)
made_of who nodes lines (Err x) e w d = d
