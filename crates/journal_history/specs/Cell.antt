-- A node with its arming: what reaches it, and what it answers.
use Rattle.std.specs.Prelude.{ℕ, ◌-◌, ◌≡◌, ◌&&◌, not, min, nat_lt, Bool, true, false, List, [], ◌∷◌, length, Option, Some, None, if◌then◌else◌}
use Rattle.journal_core.specs.declared.node_state.NodeState.{NodeState}
use Rattle.journal_core.specs.declared.request.Request.{Request}
use Rattle.journal_core.specs.declared.heard.Heard.{Heard}
use Rattle.journal_core.specs.declared.heard.Heard.TheVariants.{Answer, Silent}
use Rattle.journal_core.specs.Step.{node_step, effects_of, stopped, crashed, restarted, fresh_state}
use Rattle.journal_core.specs.Cuts.{effects_standing}
pub use Rattle.journal_history.specs.declared.arming.Arming.{Arming}
use Rattle.journal_history.specs.declared.stop.Stop.{Stop}
use Rattle.journal_history.specs.declared.stop.Stop.TheVariants.{Effects, DiskCalls}
use Rattle.journal_history.specs.declared.node_ask.NodeAsk.{NodeAsk}
use Rattle.journal_history.specs.declared.node_ask.NodeAsk.TheVariants.{Act, Kill, Restart, Arm}
use Rattle.journal_history.specs.declared.node_ask.NodeAnswer.{NodeAnswer}
use Rattle.journal_history.specs.declared.node_ask.NodeAnswer.TheVariants.{Replied, Stopped, Done, Idle}
use Rattle.journal_history.specs.declared.history_line.HistoryLine.{HistoryLine}

pub record Cell : Type 0 where
  pub state : NodeState
  pub arming : Option Arming

-- what a cell answers, and the cell that it is afterwards
pub record Taken : Type 0 where
  pub answer : NodeAnswer
  pub cell : Cell

abbrev pub fresh_cell : Cell
fresh_cell = record { state = fresh_state; arming = None }

-- how many effects of a request stand where it is stopped
abbrev pub kept_by : Stop → NodeState → Request → ℕ
kept_by (Effects keep) s r = min keep (length (effects_of s r))
kept_by (DiskCalls calls cut) s r = effects_standing cut s r calls

-- ## A request
abbrev pub replies : NodeState → Request → Option Arming → Taken
replies s r arming = record { answer = Replied (node_step s r).reply; cell = record { state = (node_step s r).state; arming = arming } }

abbrev pub stops : NodeState → Request → ℕ → Taken
stops s r keep = record { answer = Stopped keep; cell = record { state = stopped s r keep; arming = None } }

-- an arming counts the requests that reach the node while it is up, and ends with the stop
abbrev pub count_request : NodeState → Request → Option Arming → Taken
count_request s r None = replies s r None
count_request s r (Some a) = if nat_lt 1 a.calls then replies s r (Some (record a { calls = a.calls - 1 })) else stops s r (kept_by a.stop s r)

abbrev pub take_request : Bool → Cell → Request → Taken
take_request true c r = count_request c.state r c.arming
take_request false c r = replies c.state r c.arming

-- ## A kill, a restart, an arming. They are idle where the node already is as asked; a new arming replaces the old one, and a kill ends it.
abbrev pub answer_done : NodeState → Option Arming → Taken
answer_done s arming = record { answer = Done; cell = record { state = s; arming = arming } }

abbrev pub idle : Cell → Taken
idle c = record { answer = Idle; cell = c }

abbrev pub take_kill : Bool → Cell → Taken
take_kill true c = answer_done (crashed c.state) None
take_kill false c = idle c

abbrev pub started_again : Bool → Cell → Taken
started_again true c = idle c
started_again false c = answer_done (restarted c.state) c.arming

abbrev pub take_arming : Bool → Cell → Arming → Taken
take_arming true c a = answer_done c.state (Some a)
take_arming false c a = idle c

-- ## What reaches a cell
unfoldable pub cell_takes : Cell → NodeAsk → Taken
cell_takes c (Act late r) = take_request c.state.up c r
cell_takes c Kill = take_kill c.state.up c
cell_takes c Restart = started_again c.state.up c
cell_takes c (Arm calls stop) = take_arming c.state.up c (record { calls = calls; stop = stop })

-- a history is what one node answers, line by line, from this cell on
unfoldable pub IsLocalRun : Cell → List HistoryLine → Type 0
IsLocalRun c [] = Unit {0}
IsLocalRun c (h ∷ hs) = (h.answer ≡ (cell_takes c h.ask).answer) × IsLocalRun (cell_takes c h.ask).cell hs

-- the cell after a history
unfoldable pub cell_after : Cell → List HistoryLine → Cell
cell_after c [] = c
cell_after c (h ∷ hs) = cell_after (cell_takes c h.ask).cell hs

-- ## A stop that comes with a request
abbrev pub is_due : Option Arming → Bool
is_due None = false
is_due (Some a) = not (nat_lt 1 a.calls)

-- a stop that comes with a request: it is as an arming for it, unless the node's own arming is due,
-- or the node is down
abbrev pub arm_at_once : Option ℕ → Cell → Cell
arm_at_once None c = c
arm_at_once (Some keep) c = if c.state.up && not (is_due c.arming) then record c { arming = Some (record { calls = 1; stop = Effects keep }) } else c

-- ## What a caller hears
abbrev pub heard_of : NodeAnswer → Heard
heard_of (Replied reply) = Answer reply
heard_of _ = Silent
