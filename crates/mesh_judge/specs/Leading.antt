-- Where a caller may stand along its record, call by call: where nothing is under way, the next
-- call tells what may begin.
use Rattle.std.specs.Prelude.{◌≡◌, ℕ, ◌+◌, ◌-◌, ◌==◌, ◌<◌, ◌&&◌, ◌⊎◌, nat_lt, Bool, false, is_some, List, [], ◌∷◌, ◌++◌, length, map, slice_get, Option, Some, None, MatchOption, if◌then◌else◌}
use Rattle.journal_core.specs.declared.request.Request.{Request}
use Rattle.journal_core.specs.declared.request.Request.TheVariants as request
use Rattle.journal_core.specs.declared.reply.Reply.TheVariants as reply
use Rattle.writer_core.specs.declared.task.Task.{Task}
use Rattle.writer_core.specs.declared.task.Task.TheVariants as task
use Rattle.writer_core.specs.Views.{WriterView}
use Rattle.writer_core.specs.Writer.{writer_begun, next_call, writer_heard}
use Rattle.writer_core.specs.Left.{IsLive}
use Rattle.writer_core.specs.Alike.{AreStoppedAlike}
use Rattle.journal_history.specs.Same.{same_request}
use Rattle.journal_history.specs.declared.record.Record.{Record}
use Rattle.journal_history.specs.declared.record.Told.{Told}
use Rattle.journal_history.specs.declared.record.Told.TheVariants as told
use Rattle.mesh.specs.Makers.{Chore, Reading, Maker, heard_of, maker_of, HaveBodies, IsMade}
use Rattle.mesh_judge.specs.declared.making.Pass.{Pass}
use Rattle.mesh_judge.specs.declared.making.Candidate.{Candidate}

-- ## Where a caller stands: its writer, and the pass of reads under way
pub record Stand : Type 0 where
  pub writer : WriterView
  pub pass : Option Pass

abbrev pub between : WriterView → Stand
between w = record { writer = w; pass = None }

abbrev pub in_pass : WriterView → Pass → Stand
in_pass w p = record { writer = w; pass = Some p }

abbrev pub stand_of : Candidate → Stand
stand_of c = record { writer = c.writer.view; pass = c.pass }

abbrev pub stands_of : List Candidate → List Stand
stands_of cs = map stand_of cs

-- ## What it can still do
-- a pass as a tail of its own: the next pass may be another's
abbrev pub reading_of : Pass → Reading
reading_of p = record { position = p.position; node = p.node; more = 0 }

abbrev pub maker_in : Option Pass → List Chore → WriterView → Maker
maker_in None cs w = maker_of cs w
maker_in (Some p) cs w = record { chores = cs; writer = w; reading = Some (reading_of p) }

abbrev pub maker_at : List Chore → Stand → Maker
maker_at cs s = maker_in s.pass cs s.writer

-- it goes on with this record, by some chores
abbrev pub CanMake : Stand → List Record → Type 0
CanMake s rs = (chores : List Chore) × HaveBodies chores × IsMade (maker_at chores s) rs

-- one of these does
abbrev pub SomeMake : List Stand → List Record → Type 0
SomeMake [] rs = ⊥
SomeMake (s ∷ ss) rs = CanMake s rs ⊎ SomeMake ss rs

-- while a round is under way, each has a call to make
abbrev pub AllLive : List Stand → Type 0
AllLive [] = Unit {0}
AllLive (s ∷ ss) = IsLive s.writer × AllLive ss

-- ## One call more
-- the tasks that may begin with this request; a log has a body
abbrev pub log_of : List (List ℕ) → List Task
log_of [] = []
log_of (b ∷ bs) = task.Log (b ∷ bs) ∷ []

abbrev pub tasks_for : Request → List Task
tasks_for request.State = task.Takeover ∷ []
tasks_for (request.Journal head start batch) = log_of batch.bodies ++ task.Roll ∷ task.Close ∷ []
tasks_for (request.Purge head min) = task.Purge min ∷ []
tasks_for _ = []

-- the call to make next is this one
abbrev pub is_call : Option (ℕ × Request) → ℕ → Request → Bool
is_call None node r = false
is_call (Some (k, q)) node r = (k == node) && same_request q r

-- the writer after this call, where it is the one that it makes next
abbrev pub hears : WriterView → ℕ → Request → Told → List Stand
hears w node r t = if is_call (next_call w) node r then between (writer_heard w node (heard_of t)).writer ∷ [] else []

-- the writer after this call, for each of these tasks that makes it next once it is begun
abbrev pub hear_begun : WriterView → ℕ → Request → Told → List Task → List Stand
hear_begun w node r t [] = []
hear_begun w node r t (x ∷ xs) = hears (writer_begun w x).writer node r t ++ hear_begun w node r t xs

-- the read that a pass makes next is this one
abbrev pub is_read : Pass → ℕ → Request → Bool
is_read p node (request.Read from) = (p.node == node) && nat_lt 0 from && (from - 1 == p.position)
is_read p node _ = false

-- edits end a pass; else it goes on at the next node, up to the last
abbrev pub next_pass : WriterView → Pass → Stand
next_pass w p = if nat_lt p.node (length w.left) then in_pass w (record p { node = p.node + 1 }) else between w

abbrev pub after_pass : WriterView → Pass → Told → Stand
after_pass w p (told.Reply (reply.Edits batch)) = between w
after_pass w p _ = next_pass w p

abbrev pub reads : WriterView → Pass → ℕ → Request → Told → List Stand
reads w p node r t = if is_read p node r then after_pass w p t ∷ [] else []

-- the pass that may begin with a read from this txid on
abbrev pub pass_from : ℕ → Pass
pass_from from = record { position = from - 1; node = 1 }

abbrev pub begins : WriterView → ℕ → Request → Told → List Stand
begins w node (request.Read from) t = reads w (pass_from from) node (request.Read from) t
begins w node r t = hear_begun w node r t (tasks_for r)

abbrev pub goes_on_in : Option Pass → WriterView → ℕ → Request → Told → List Stand
goes_on_in None w node r t = if is_some (next_call w) then hears w node r t else begins w node r t
goes_on_in (Some p) w node r t = reads w p node r t

abbrev pub goes_on : Stand → ℕ → Request → Told → List Stand
goes_on s node r t = goes_on_in s.pass s.writer node r t

abbrev pub all_go_on : List Stand → ℕ → Request → Told → List Stand
all_go_on [] node r t = []
all_go_on (s ∷ ss) node r t = goes_on s node r t ++ all_go_on ss node r t

-- ## What candidates leave
-- both are stopped between chores, and go on alike
abbrev pub AreAlike : Stand → Stand → Type 0
AreAlike a b = (a.pass ≡ None) × (b.pass ≡ None) × AreStoppedAlike a.writer b.writer

-- the last one does
abbrev pub EndAlike : List Stand → Stand → Type 0
EndAlike ss s = MatchOption (slice_get ss (length ss - 1)) ⊥ (λ last. AreAlike last s)

-- these go on with just the same records as those
pub record MakeAlike (those these : List Stand) : Type 0 where
  pub on : (rs : List Record) → SomeMake those rs → SomeMake these rs
  pub back : (rs : List Record) → SomeMake these rs → SomeMake those rs
  pub live : AllLive those → AllLive these

-- these are what those are after the line
pub record Follows (nodes : ℕ) (those : List Stand) (line : Record) (these : List Stand) : Type 0 where
  pub on : (rs : List Record) → SomeMake those (line ∷ rs) → SomeMake these rs
  pub back : (rs : List Record) → SomeMake these rs → SomeMake those (line ∷ rs)
  pub live : 0 < nodes → AllLive these
