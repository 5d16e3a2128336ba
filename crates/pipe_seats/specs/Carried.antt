-- What the nodes got of a life's calls, where pipes keep order and invent nothing.
use Rattle.std.specs.Prelude.{ℕ, ◌≡◌, ◌⊎◌, Bool, false, List, [], ◌∷◌, map}
use Rattle.journal_core.specs.declared.request.Request.{Request}
use Rattle.journal_history.specs.declared.history_line.HistoryLine.{HistoryLine}
use Rattle.journal_history.specs.declared.node_ask.NodeAsk.TheVariants.{Act}
use Rattle.journal_history.specs.declared.node_ask.NodeAnswer.{NodeAnswer}
use Rattle.journal_history.specs.declared.node_ask.NodeAnswer.TheVariants.{Replied}
use Rattle.journal_history.specs.declared.record.Record.{Record}
use Rattle.journal_history.specs.declared.record.Record.TheVariants.{Call, Late, Operator, Outcome}
use Rattle.journal_history.specs.declared.record.Told.{Told}
use Rattle.journal_history.specs.declared.record.Told.TheVariants as told
use Rattle.mesh.specs.Matches.{reached, AreSame}
use Rattle.pipe_seats.specs.Settled.{settled}

-- a request that a node got, and what it answered, or that it died in it
pub record Got : Type 0 where
  pub request : Request
  pub answer : NodeAnswer

abbrev pub got_line : ℕ → Got → HistoryLine
got_line caller g = record { caller = caller; ask = Act false g.request; answer = g.answer }

-- what was told of a call is what was answered
abbrev pub IsHeardOf : Told → NodeAnswer → Type 0
IsHeardOf (told.Reply reply) answer = answer ≡ Replied reply
IsHeardOf told.Dropped answer = Unit {0}
IsHeardOf told.Muted answer = Unit {0}
IsHeardOf told.Silent answer = Unit {0}

-- nothing was heard of it
abbrev pub IsUnheard : Told → Type 0
IsUnheard (told.Reply reply) = ⊥
IsUnheard told.Dropped = Unit {0}
IsUnheard told.Muted = Unit {0}
IsUnheard told.Silent = Unit {0}

-- the first of these is the call, and of the others this holds
pub record Arrives (r : Request) (t : Told) (gots : List Got) (Rest : List Got → Type 0) : Type 0 where
  pub got : Got
  pub more : List Got
  pub are : gots ≡ got ∷ more
  pub request : got.request ≡ r
  pub heard : IsHeardOf t got.answer
  pub rest : Rest more

-- What a node got of these lines: of the calls to it some, in their order, each once, and none
-- else; what was heard of one is what it answered; and one of which something was heard arrived.
abbrev pub IsCarried : ℕ → List Record → List Got → Type 0
IsCarried node [] gots = gots ≡ []
IsCarried node (Call m r t ∷ rs) gots =
    ((m ≡ node) × Arrives r t gots (λ more. IsCarried node rs more)) ⊎ (((m ≡ node → ⊥) ⊎ IsUnheard t) × IsCarried node rs gots)
IsCarried node (Outcome text ∷ rs) gots = IsCarried node rs gots
IsCarried node (Late m r ∷ rs) gots = ⊥
IsCarried node (Operator m ask done ∷ rs) gots = ⊥

-- then the record, settled by what arrived, tells of each node just what the node got
abbrev pub PipesCarry : Type 0
PipesCarry =
    (caller : ℕ) (rs : List Record) (gots : ℕ → List Got) → ((node : ℕ) → IsCarried node rs (gots node))
    → (arrived : List Bool) × ((node : ℕ) → AreSame (reached node (settled arrived rs)) (map (got_line caller) (gots node)))
