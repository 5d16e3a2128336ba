-- A tally goes along a record: what it says of an epoch, with the lines to come, stays the same.
use Rattle.std.proofs.Common.{◌≡◌, ℕ, ◌+◌, ◌*◌, ◌≤◌, ◌==◌, ◌||◌, ◌&&◌, not, nat_lt, List, ◌∷◌, Bool, true, false, cond, refl, sym, ap, ◌∙◌, inl, inr, drop, length}
use Rattle.std.specs.BTreeSet.{contains}
use Rattle.std.specs.Ordering.{nat_cmp}
use Rattle.std.proofs.lemmas.List.{drop_all}
use Rattle.journal_core.specs.declared.request.Request.{Request}
use Rattle.journal_core.specs.declared.request.Request.TheVariants as request
use Rattle.journal_history.specs.declared.record.Record.{Record}
use Rattle.journal_history.specs.declared.record.Record.TheVariants.{Call, Late, Operator, Outcome}
use Rattle.journal_history.specs.declared.record.Told.{Told}
use Rattle.mesh.specs.Owners.{wins, proposes, promised_to}
use Rattle.mesh.proofs.Lists.{Alike, alike}
use Rattle.mesh_judge.specs.declared.won.Tally.{Tally}
use Rattle.mesh_judge.specs.Tallies.{promises_to, wins_on}

or_none : (a b : Bool) → (a || (false && b)) ≡ a
or_none true b = refl
or_none false b = refl

or_assoc : (a b c : Bool) → ((a || b) || c) ≡ (a || (b || c))
or_assoc true b c = refl
or_assoc false true c = refl
or_assoc false false c = refl

-- ## A proposal
-- a run of proposals of this epoch goes on, after the runs of others have ended
pub proposed : (nodes epoch node other : ℕ) (t u v : Tally) (told : Told) (rest : List Record) (p : Bool) → p ≡ promised_to told
    → ((x : ℕ) → contains nat_cmp u.won x ≡ (contains nat_cmp t.won x || (not (epoch == x) && nat_lt nodes (2 * promises_to t x))))
    → u.promises ≡ promises_to t epoch → u.epoch ≡ epoch → v.epoch ≡ u.epoch → v.promises ≡ cond p (u.promises + 1) u.promises → v.won ≡ u.won
    → wins_on nodes v other rest ≡ wins_on nodes t other (Call node (request.NewEpoch epoch) told ∷ rest)
unfolding wins Alike
proposed nodes epoch node other t u v told rest p is won count turned same more kept = by (alike epoch other)
  where
    n : ℕ
    n = promises_to t other

    has : contains nat_cmp v.won other ≡ (contains nat_cmp t.won other || (not (epoch == other) && nat_lt nodes (2 * n)))
    has = ap (λ s. contains nat_cmp s other) kept ∙ won other

    at : promises_to v other ≡ cond (epoch == other) v.promises 0
    at = ap (λ z. cond (z == other) v.promises 0) (same ∙ turned)

    counted : v.promises ≡ cond p (promises_to t epoch + 1) (promises_to t epoch)
    counted = more ∙ ap (λ z. cond p (z + 1) z) count

    goes : Bool → Bool
    goes b = cond b (wins nodes other (cond (promised_to told) (n + 1) n) rest) (nat_lt nodes (2 * n) || wins nodes other 0 rest)

    by : Alike epoch other → wins_on nodes v other rest ≡ wins_on nodes t other (Call node (request.NewEpoch epoch) told ∷ rest)
    by (inl e) =
        ap (λ b. b || wins nodes other (promises_to v other) rest) (has
        ∙ ap (λ b. contains nat_cmp t.won other || (not b && nat_lt nodes (2 * n))) e.0
        ∙ or_none (contains nat_cmp t.won other) (nat_lt nodes (2 * n)))
        ∙ ap (λ z. contains nat_cmp t.won other || wins nodes other z rest)
        (at ∙ ap (λ b. cond b v.promises 0) e.0 ∙ counted ∙ ap (λ z. cond p (promises_to t z + 1) (promises_to t z)) e.1 ∙ ap (λ b. cond b (n + 1) n) is)
        ∙ ap (λ b. contains nat_cmp t.won other || goes b) (sym e.0)
    by (inr e) =
        ap (λ b. b || wins nodes other (promises_to v other) rest) (has ∙ ap (λ b. contains nat_cmp t.won other || (not b && nat_lt nodes (2 * n))) e.0)
        ∙ ap (λ z. (contains nat_cmp t.won other || nat_lt nodes (2 * n)) || wins nodes other z rest) (at ∙ ap (λ b. cond b v.promises 0) e.0)
        ∙ or_assoc (contains nat_cmp t.won other) (nat_lt nodes (2 * n)) (wins nodes other 0 rest)
        ∙ ap (λ b. contains nat_cmp t.won other || goes b) (sym e.0)

-- ## A line that is no call
pub passed : (nodes epoch : ℕ) (t : Tally) (line : Record) (rest : List Record) → ((x : ℕ) (y : Request) (z : Told) → line ≡ Call x y z → ⊥)
    → wins_on nodes t epoch rest ≡ wins_on nodes t epoch (line ∷ rest)
unfolding wins
passed nodes epoch t (Call node r told) rest off = absurd (off node r told refl)
passed nodes epoch t (Late node r) rest off = refl
passed nodes epoch t (Operator node ask done) rest off = refl
passed nodes epoch t (Outcome text) rest off = refl

-- ## A call that proposes nothing
no_proposal : (epoch : ℕ) (r : Request) → ((x : ℕ) → r ≡ request.NewEpoch x → ⊥) → proposes epoch r ≡ false
no_proposal epoch request.State off = refl
no_proposal epoch (request.NewEpoch e) off = absurd (off e refl)
no_proposal epoch (request.Start head start) off = refl
no_proposal epoch (request.Journal head start batch) off = refl
no_proposal epoch (request.Finalize head start end) off = refl
no_proposal epoch (request.Prepare head start) off = refl
no_proposal epoch (request.Fetch head start from) off = refl
no_proposal epoch (request.Accept head batch) off = refl
no_proposal epoch (request.Purge head min) off = refl
no_proposal epoch (request.Read from) off = refl
no_proposal epoch request.Manifest off = refl

none_to : (u : Tally) (epoch : ℕ) → u.promises ≡ 0 → promises_to u epoch ≡ 0
none_to u epoch e = by (u.epoch == epoch)
  where
    by : (b : Bool) → cond b u.promises 0 ≡ 0
    by true = e
    by false = refl

pub broken_off : (nodes epoch node : ℕ) (t u : Tally) (line : Record) (r : Request) (told : Told) (rest : List Record) → line ≡ Call node r told → ((x : ℕ) → r ≡ request.NewEpoch x → ⊥)
    → ((x : ℕ) → contains nat_cmp u.won x ≡ (contains nat_cmp t.won x || nat_lt nodes (2 * promises_to t x))) → u.promises ≡ 0
    → wins_on nodes u epoch rest ≡ wins_on nodes t epoch (line ∷ rest)
unfolding wins
broken_off nodes epoch node t u line r told rest is off won none =
    ap (λ b. b || wins nodes epoch (promises_to u epoch) rest) (won epoch)
    ∙ ap (λ z. (contains nat_cmp t.won epoch || nat_lt nodes (2 * n)) || wins nodes epoch z rest) (none_to u epoch none)
    ∙ or_assoc (contains nat_cmp t.won epoch) (nat_lt nodes (2 * n)) (wins nodes epoch 0 rest)
    ∙ ap (λ b. contains nat_cmp t.won epoch || cond b (wins nodes epoch (cond (promised_to told) (n + 1) n) rest) (nat_lt nodes (2 * n) || wins nodes epoch 0 rest)) (sym (no_proposal epoch r off))
    ∙ ap (λ (l : Record). wins_on nodes t epoch (l ∷ rest)) (sym is)
  where
    n : ℕ
    n = promises_to t epoch

-- ## The end of a record
pub all_counted : (nodes epoch i : ℕ) (t u : Tally) (lines : List Record) → length lines ≤ i → ((x : ℕ) → wins_on nodes t x (drop i lines) ≡ wins nodes x 0 lines)
    → ((x : ℕ) → contains nat_cmp u.won x ≡ (contains nat_cmp t.won x || nat_lt nodes (2 * promises_to t x))) → contains nat_cmp u.won epoch ≡ wins nodes epoch 0 lines
unfolding wins
all_counted nodes epoch i t u lines l counted won = won epoch ∙ ap (λ (rest : List Record). wins_on nodes t epoch rest) (sym (drop_all i lines l)) ∙ counted epoch
