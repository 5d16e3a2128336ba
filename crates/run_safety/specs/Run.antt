-- Runs of the journal world: lists of moving entries, each of which may come after the ones before
-- it.
use Rattle.std.specs.Prelude.{ℕ, ◌<◌, ◌≤◌, ◌≡◌, ◌≢◌, ◌⊎◌, Bool, true, false, List, [], ◌∷◌, length, reverse, Some}
use Rattle.std.specs.List.{list_all}
use Rattle.journal_core.specs.declared.node_state.NodeState.{NodeState}
use Rattle.journal_core.specs.declared.request.Request.{Request}
use Rattle.journal_core.specs.declared.reply.Reply.{Reply}
use Rattle.journal_core.specs.Segments.{any_body}
use Rattle.journal_core.specs.Step.{node_step, effects_of}
use Rattle.writer_core.specs.declared.task.Task.{Task}
use Rattle.writer_core.specs.declared.task.Task.TheVariants as task
use Rattle.writer_core.specs.Whole.{Takeover, TaskProgress, writer_at, request_of_round, calls}
use Rattle.journal_history.specs.Entries.{Way, Heard, Muted, Late, Move, Answer, Stop, Kill, Restart, Entry, after_move, node_after, Earlier}

-- What a list of entries doesn't tell: the takeovers, by number, and which takeover and which round
-- of it each call belongs to. A place of the list is named by the number of entries before it.
pub record Story : Type 0 where
  pub takeover : ℕ → Takeover
  pub whose : ℕ → ℕ
  pub round : ℕ → ℕ

-- Lists of entries stand newest first from here on, up to IsRun. `past` is what stands before a
-- place.
abbrev pub takeover_at : Story → List Entry → Takeover
takeover_at story past = story.takeover (story.whose (length past))

-- the entry is the heard answer of this node in this round of this takeover
abbrev pub IsAnswer : Story → List Entry → Entry → ℕ → ℕ → ℕ → Reply → Type 0
IsAnswer story past e takeover round node reply =
    (story.whose (length past) ≡ takeover)
    × (story.round (length past) ≡ round)
    × (e.node ≡ node)
    × ((caller : ℕ) × (request : Request) × (e.move ≡ Answer caller Heard request reply))

-- it stands in the list
abbrev pub WasHeard : Story → List Entry → ℕ → ℕ → ℕ → Reply → Type 0
WasHeard story past takeover round node reply =
    (old : List Entry) × (e : Entry) × Earlier (e ∷ old) past × IsAnswer story old e takeover round node reply

-- what may follow a takeover: no other takeover, and no log without a body
abbrev pub may_follow : Task → Bool
may_follow task.Takeover = false
may_follow (task.Log bodies) = any_body bodies
may_follow task.Roll = true
may_follow task.Close = true
may_follow (task.Purge min) = true

-- The request is one that the takeover makes to this node, in this round, from what it heard
-- before; and all that it heard in earlier rounds stands before this place.
pub record IsMade (n : ℕ) (story : Story) (past : List Entry) (caller node : ℕ) (request : Request) : Type 0 where
  pub by : (takeover_at story past).caller ≡ caller
  pub tasks_follow : list_all may_follow (takeover_at story past).tasks ≡ true
  pub underway : TaskProgress
  pub is_there : writer_at n (takeover_at story past) (story.round (length past)) ≡ Some underway
  pub calls_it : calls underway node ≡ true
  pub is_asked : request ≡ request_of_round underway
  pub heard_before :
      (s i : ℕ) (reply : Reply) → s < story.round (length past) → (takeover_at story past).heard s i ≡ Some reply
      → WasHeard story past (story.whose (length past)) s i reply

-- a call in its turn: no late copy, and not stopped after no effect, which counts as a kill
abbrev pub IsInTurn : Move → Type 0
IsInTurn (Answer caller way request reply) = way ≢ Late
IsInTurn (Stop caller late request keep) = (late ≡ false) × (0 < keep)
IsInTurn Kill = ⊥
IsInTurn Restart = ⊥

-- The calls of one takeover that stand before are of earlier rounds, or of this round at lower
-- nodes.
abbrev pub IsInOrder : Story → List Entry → ℕ → Type 0
IsInOrder story past node =
    (old : List Entry) (e : Entry) → Earlier (e ∷ old) past → story.whose (length old) ≡ story.whose (length past) → IsInTurn e.move
    → (story.round (length old) < story.round (length past)) ⊎ (story.round (length old) ≡ story.round (length past)) × (e.node < node)

-- an answer that was heard is what the takeover heard
abbrev pub IsHeardAs : Story → List Entry → ℕ → Reply → Way → Type 0
IsHeardAs story past node reply Heard = (takeover_at story past).heard (story.round (length past)) node ≡ Some reply
IsHeardAs story past node reply Muted = Unit {0}
IsHeardAs story past node reply Late = Unit {0}

pub record IsCall (n : ℕ) (story : Story) (past : List Entry) (caller node : ℕ) (request : Request) (move : Move) : Type 0 where
  pub made : IsMade n story past caller node request
  pub in_order : IsInTurn move → IsInOrder story past node

-- What may come next at a node in this state. A stop after no effect counts as a kill, whatever was
-- asked.
abbrev pub IsNext : ℕ → Story → List Entry → ℕ → NodeState → Move → Type 0
IsNext n story past node s (Answer caller way request reply) =
    IsCall n story past caller node request (Answer caller way request reply)
    × ((node_step s request).reply ≡ reply)
    × IsHeardAs story past node reply way
IsNext n story past node s (Stop caller late request keep) =
    (s.up ≡ true)
    × (keep ≤ length (effects_of s request))
    × (0 < keep → IsCall n story past caller node request (Stop caller late request keep))
IsNext n story past node s Kill = s.up ≡ true
IsNext n story past node s Restart = s.up ≡ false

pub record IsNextEntry (n : ℕ) (story : Story) (past : List Entry) (e : Entry) : Type 0 where
  pub from_one : 1 ≤ e.node
  pub up_to_n : e.node ≤ n
  pub is_next : IsNext n story past e.node (node_after e.node past) e.move
  pub moves : after_move (node_after e.node past) e.move ≢ node_after e.node past

-- each entry may come after those before it
abbrev pub Follows : ℕ → Story → List Entry → Type 0
Follows n story [] = Unit {0}
Follows n story (e ∷ past) = IsNextEntry n story past e × Follows n story past

-- a run of n nodes, oldest entry first
abbrev pub IsRun : ℕ → List Entry → Type 0
IsRun n entries = (story : Story) × Follows n story (reverse entries)
