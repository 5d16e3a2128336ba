-- A caller's index of its calls and marks, by node.
use Rattle.std.specs.Prelude.{◌≡◌, ℕ, ◌+◌, ◌<◌, List, Option, Some, None, length, map, slice_get, slice_index_or}
use Rattle.std.specs.BTreeSet.{contains}
use Rattle.std.specs.Ordering.{nat_cmp}
use Rattle.journal_core.specs.declared.request.Request.{Request}
use Rattle.journal_history.specs.declared.record.Record.{Record}
use Rattle.journal_history.specs.declared.record.Record.TheVariants.{Call, Late, Operator, Outcome}
use Rattle.journal_history.specs.declared.mark.Mark.{Mark}
use Rattle.journal_history.specs.declared.mark.MarkKind.TheVariants as kind
use Rattle.mesh.specs.Marks.{calls_to, is_marked}
use Rattle.play_calls.specs.declared.calls_to.CallsTo.{CallsTo}

-- what a call in the record asked
abbrev pub asked_in : Record → Option Request
asked_in (Call k r told) = Some r
asked_in (Late k r) = None
asked_in (Operator k ask done) = None
asked_in (Outcome text) = None

abbrev pub asked_of : Option Record → Option Request
asked_of (Some line) = asked_in line
asked_of None = None

-- what the call at this place of the record asked
abbrev pub asked_at : List Record → ℕ → Option Request
asked_at past place = asked_of (slice_get past place)

-- the places of the calls to this node are those of the record, and those that are lost are marked
-- so
pub record IsIndex (node : ℕ) (past : List Record) (marks : List Mark) (calls : CallsTo) : Type 0 where
  pub requests : map (asked_at past) calls.places.items ≡ map (λ r. Some r) (calls_to node past)
  pub dropped : (number : ℕ) → contains nat_cmp calls.dropped number ≡ is_marked marks node number kind.Dropped
  pub muted : (number : ℕ) → contains nat_cmp calls.muted number ≡ is_marked marks node number kind.Muted

-- there is an index for each node
abbrev pub AreIndexes : List Record → List Mark → List CallsTo → Type 0
AreIndexes past marks calls = (i : ℕ) (d : CallsTo) → i < length calls → IsIndex (i + 1) past marks (slice_index_or calls i d)
