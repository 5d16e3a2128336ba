-- A tail that is led along calls: each is the read that it makes next, and it hears what was heard
-- of it.
use Rattle.std.specs.Prelude.{ℕ, ◌≡◌, ◌+◌, List, [], ◌∷◌, ◌++◌, Option, Some, None}
use Rattle.journal_core.specs.declared.request.Request.{Request}
use Rattle.journal_core.specs.declared.request.Request.TheVariants.{Read}
use Rattle.journal_core.specs.declared.heard.Heard.{Heard}
use Rattle.journal_core.specs.declared.peer_call.PeerCall.{PeerCall}
use Rattle.play_names.specs.Holding.{Holding, Work, Free, Tails, Logs, Broken}
use Rattle.play_names.specs.Tails.{TailStep, GoesOn, Ends, Breaks, tail_hears}

-- the read that comes next: of the edits after the position, at the node that is asked next
abbrev pub read_of : Work → ℕ → Option (ℕ × Request)
read_of (Tails until node told) position = Some (node, Read (position + 1))
read_of Free position = None
read_of (Logs ahead dues) position = None
read_of Broken position = None

abbrev pub next_read : TailStep → Option (ℕ × Request)
next_read (GoesOn h) = read_of h.work h.position
next_read (Ends end h) = None
next_read (Breaks h) = None

-- what its answer leads to, where there are so many nodes
abbrev pub heard_in : ℕ → Work → Heard → Holding → TailStep
heard_in nodes (Tails until node told) heard h = tail_hears nodes until node told heard h
heard_in nodes Free heard h = GoesOn h
heard_in nodes (Logs ahead dues) heard h = GoesOn h
heard_in nodes Broken heard h = GoesOn h

abbrev pub read_heard : ℕ → TailStep → Heard → TailStep
read_heard nodes (GoesOn h) heard = heard_in nodes h.work heard h
read_heard nodes (Ends end h) heard = Ends end h
read_heard nodes (Breaks h) heard = Breaks h

-- each call is the next read, by what was heard before it
unfoldable pub AreReads : ℕ → TailStep → List PeerCall → Type 0
AreReads nodes step [] = Unit {0}
AreReads nodes step (c ∷ cs) = (next_read step ≡ Some (c.node, c.request)) × AreReads nodes (read_heard nodes step c.heard) cs

-- where the tail stands once it heard these calls
unfoldable pub tail_along : ℕ → TailStep → List PeerCall → TailStep
tail_along nodes step [] = step
tail_along nodes step (c ∷ cs) = tail_along nodes (read_heard nodes step c.heard) cs

-- From the list of calls `before` the list `after` was reached: some reads were made more, each the
-- next one of the tail. So it stands here.
pub record LeadsTail (nodes : ℕ) (begun : TailStep) (before after : List PeerCall) (here : TailStep) : Type 0 where
  pub made : List PeerCall
  pub grew : after ≡ before ++ made
  pub led : AreReads nodes begun made
  pub stands : here ≡ tail_along nodes begun made
