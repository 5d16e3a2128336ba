-- The lives of a node over one folder, and the one history that they are.
use Rattle.std.specs.Prelude.{ℕ, ◌≡◌, ◌≤◌, List, [], ◌∷◌, ◌++◌, length, map, Option, Some, None, false}
use Rattle.journal_core.specs.declared.node_state.NodeState.{NodeState}
use Rattle.journal_core.specs.declared.request.Request.{Request}
use Rattle.journal_core.specs.declared.reply.Reply.{Reply}
use Rattle.journal_core.specs.Step.{node_step, effects_of, stopped, crashed, restarted, fresh_state}
use Rattle.journal_history.specs.declared.history_line.HistoryLine.{HistoryLine}
use Rattle.journal_history.specs.declared.node_ask.NodeAsk.{NodeAsk}
use Rattle.journal_history.specs.declared.node_ask.NodeAsk.TheVariants.{Act, Kill, Restart, Arm}
use Rattle.journal_history.specs.declared.node_ask.NodeAnswer.{NodeAnswer}
use Rattle.journal_history.specs.declared.node_ask.NodeAnswer.TheVariants.{Replied, Stopped, Done}
use Rattle.journal_history.specs.declared.stop.Stop.TheVariants.{Effects}
use Rattle.journal_history.specs.Cell.{fresh_cell, IsLocalRun}

-- ## One life
-- a request that a process answered, of this caller
pub record Answered : Type 0 where
  pub caller : ℕ
  pub request : Request
  pub reply : Reply

-- the request inside which it died, of this caller, with so many of its effects done
pub record Cut : Type 0 where
  pub caller : ℕ
  pub request : Request
  pub effects : ℕ

-- what it answered, in order; and inside which request it died, unless it was between two
pub record NodeLife : Type 0 where
  pub answered : List Answered
  pub cut : Option Cut

-- each reply is the node step's, from this state on to that one
abbrev pub AreSteps : NodeState → List Answered → NodeState → Type 0
AreSteps s [] t = t ≡ s
AreSteps s (a ∷ more) t = (a.reply ≡ (node_step s a.request).reply) × AreSteps (node_step s a.request).state more t

-- what its files stand for once it died
abbrev pub IsLeftBy : NodeState → Option Cut → NodeState → Type 0
IsLeftBy s None t = t ≡ crashed s
IsLeftBy s (Some c) t = (t ≡ stopped s c.request c.effects) × (c.effects ≤ length (effects_of s c.request))

pub record IsLife (s : NodeState) (life : NodeLife) (t : NodeState) : Type 0 where
  pub last : NodeState
  pub steps : AreSteps s life.answered last
  pub left : IsLeftBy last life.cut t

-- ## One after the other
-- each begins restarted from what the one before left
abbrev pub AreLives : NodeState → List NodeLife → Type 0
AreLives s [] = Unit {0}
AreLives s (life ∷ lives) = (t : NodeState) × IsLife s life t × AreLives (restarted t) lives

-- ## As a history, whose operator arms a stop before the request that a life died in, or kills, and restarts
abbrev pub line : ℕ → NodeAsk → NodeAnswer → HistoryLine
line caller ask answer = record { caller = caller; ask = ask; answer = answer }

abbrev pub answered_line : Answered → HistoryLine
answered_line a = line a.caller (Act false a.request) (Replied a.reply)

abbrev pub death_lines : ℕ → Option Cut → List HistoryLine
death_lines operator None = line operator Kill Done ∷ []
death_lines operator (Some c) = line operator (Arm 1 (Effects c.effects)) Done ∷ line c.caller (Act false c.request) (Stopped c.effects) ∷ []

abbrev pub life_lines : ℕ → NodeLife → List HistoryLine
life_lines operator life = map answered_line life.answered ++ death_lines operator life.cut ++ line operator Restart Done ∷ []

abbrev pub lives_lines : ℕ → List NodeLife → List HistoryLine
lives_lines operator [] = []
lives_lines operator (life ∷ lives) = life_lines operator life ++ lives_lines operator lives

abbrev pub LivesAreLocal : Type 0
LivesAreLocal = (operator : ℕ) (lives : List NodeLife) → AreLives fresh_state lives → IsLocalRun fresh_cell (lives_lines operator lives)
