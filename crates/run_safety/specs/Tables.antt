-- Runs told by finite tables: for each takeover what it heard, and for each entry whose call it is.
use Rattle.std.specs.Prelude.{ℕ, ◌==◌, ◌&&◌, List, [], ◌∷◌, get_or, Option, None, Some, if◌then◌else◌}
use Rattle.journal_core.specs.declared.reply.Reply.{Reply}
use Rattle.writer_core.specs.declared.task.Task.{Task}
use Rattle.writer_core.specs.Whole.{Takeover}
use Rattle.run_safety.specs.Run.{Story}

-- what was heard from a node in a round
pub record Told : Type 0 where
  pub round : ℕ
  pub node : ℕ
  pub reply : Reply

pub record TakeoverTable : Type 0 where
  pub caller : ℕ
  pub epoch : ℕ
  pub tasks : List Task
  pub answers : List Told

-- whose call an entry is, and of which round
pub record Call : Type 0 where
  pub takeover : ℕ
  pub round : ℕ

pub record Tables : Type 0 where
  pub takeovers : List TakeoverTable
  pub calls : List Call

abbrev pub heard_in : List Told → ℕ → ℕ → Option Reply
heard_in [] round node = None
heard_in (a ∷ answers) round node = if (a.round == round) && (a.node == node) then Some a.reply else heard_in answers round node

abbrev pub takeover_of : TakeoverTable → Takeover
takeover_of t = record { caller = t.caller; epoch = t.epoch; tasks = t.tasks; heard = heard_in t.answers }

abbrev pub no_takeover : TakeoverTable
no_takeover = record { caller = 0; epoch = 0; tasks = []; answers = [] }

abbrev pub no_call : Call
no_call = record { takeover = 0; round = 0 }

abbrev pub story_of : Tables → Story
story_of t =
    record {
      takeover = λ a. takeover_of (get_or t.takeovers a no_takeover);
      whose = λ place. (get_or t.calls place no_call).takeover;
      round = λ place. (get_or t.calls place no_call).round;
    }
