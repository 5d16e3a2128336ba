-- A caller's record with its marks: what contracts see of it, and what it keeps.
use Rattle.std.specs.Prelude.{◌≡◌, ℕ, ◌+◌, ◌-◌, Bool, true, false, List, [], ◌∷◌, ◌++◌, Contains, Option, Some, None, slice_get}
use Rattle.journal_core.specs.declared.request.Request.{Request}
use Rattle.journal_core.specs.declared.heard.Heard.{Heard}
use Rattle.journal_core.specs.declared.peer_call.PeerCall.{PeerCall}
use Rattle.journal_history.specs.declared.record.Record.{Record}
use Rattle.journal_history.specs.declared.record.Record.TheVariants.{Call, Late, Operator, Outcome}
use Rattle.journal_history.specs.declared.record.Told.{Told}
use Rattle.journal_history.specs.declared.mark.Mark.{Mark}
use Rattle.journal_history.specs.declared.mark.MarkKind.{MarkKind}
use Rattle.journal_history.specs.declared.mark.MarkKind.TheVariants as kind
use Rattle.mesh.specs.Marks.{mark, calls_to, next_number, Asked, IsAsMarked, IsMarked, copies_of, marked_late}
use Rattle.mesh.specs.Makers.{heard_of}
use Rattle.mesh.specs.Matches.{AreWithin}

pub record LogView : Type 0 where
  pub nodes : ℕ
  pub past : List Record
  pub marks : List Mark
  -- false once memory was lacking: the nodes may then have taken what isn't listed
  pub whole : Bool

abbrev pub new_log : ℕ → Bool → LogView
new_log nodes whole = record { nodes = nodes; past = []; marks = []; whole = whole }

-- ## What comes after
abbrev pub with_line : LogView → Record → LogView
with_line l r = record l { past = l.past ++ r ∷ [] }

-- one of the next calls to the node is marked, counted from 1
abbrev pub lose_call : LogView → ℕ → ℕ → MarkKind → LogView
lose_call l node next loss = record l { marks = l.marks ++ mark node (next_number node l.past + (next - 1)) loss ∷ [] }

-- a copy of the call with this number
abbrev pub copy_call : LogView → ℕ → ℕ → Request → LogView
copy_call l node number r = record l { past = l.past ++ Late node r ∷ []; marks = l.marks ++ mark node number kind.Late ∷ [] }

-- the request of one of the calls to the node so far, counted from 1
abbrev pub earlier_call : LogView → ℕ → ℕ → Option Request
earlier_call l node number = slice_get (calls_to node l.past) (number - 1)

-- a call was made, told as its marks say, and listed
pub record IsCalled (old : LogView) (node : ℕ) (r : Request) (heard : Heard) (new : LogView) : Type 0 where
  pub told : Told
  pub hears : heard ≡ heard_of told
  pub as_marked : IsAsMarked old.marks node (next_number node old.past) told
  pub listed : new ≡ with_line old (Call node r told)

-- a copy of the call was made, if there was such a call
abbrev pub IsCopied : Option Request → LogView → ℕ → ℕ → Bool → LogView → Type 0
IsCopied None old node number made new = (made ≡ false) × (new ≡ old)
IsCopied (Some r) old node number made new = (made ≡ true) × (new ≡ copy_call old node number r)

abbrev pub mark_kind : Bool → MarkKind
mark_kind true = kind.Muted
mark_kind false = kind.Dropped

-- ## What a log keeps
pub record GoesBy (nodes : ℕ) (marks : List Mark) (past : List Record) : Type 0 where
  pub marked : IsMarked marks [] past
  -- each late mark was of a call, and as many copies were sent
  pub asked : (node number : ℕ) → Contains marks (mark node number kind.Late) → (r : Request) × Asked node number r past
  pub counted : (node : ℕ) (r : Request) → copies_of node r past ≡ marked_late marks node r past
  pub within : AreWithin nodes past

-- ## The calls of a record
unfoldable pub calls_in : List Record → List PeerCall
calls_in [] = []
calls_in (Call node r t ∷ rs) = record { node = node; request = r; heard = heard_of t } ∷ calls_in rs
calls_in (Late node r ∷ rs) = calls_in rs
calls_in (Operator node ask done ∷ rs) = calls_in rs
calls_in (Outcome text ∷ rs) = calls_in rs
