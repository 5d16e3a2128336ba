-- What a call left in the list, and what its caller heard.
use Rattle.std.proofs.Common.{◌≡◌, ℕ, ◌<◌, List, ◌∷◌, Bool, true, length, ap, ◌∙◌, Some, is_some}
use Rattle.journal_core.specs.declared.request.Request.{Request}
use Rattle.journal_core.specs.declared.reply.Reply.{Reply}
use Rattle.journal_core.specs.declared.heard.Heard.{Heard as HeardOf}
use Rattle.journal_core.specs.declared.heard.Heard.TheVariants as told
use Rattle.writer_core.proofs.Plain.{plain_heard}
use Rattle.journal_history.specs.Entries.{Heard, Muted, Late, Move, Answer, Stop, Entry}
use Rattle.run_safety.specs.Run.{Story, IsInTurn, IsInOrder}
use Rattle.journal_history.specs.Moving.{epoch_of}
use Rattle.run_safety.proofs.Tales.{Tale, IsMadeAt, made_here}
use Rattle.run_safety.proofs.Fair.{IsFairEntry}

abbrev pub entry : ℕ → Move → Entry
entry node move = record { node = node; move = move }

abbrev pub HasEpoch : Request → Type 0
HasEpoch r = is_some (epoch_of r) ≡ true

-- The entry may stand next, once its place is labelled: where the request was made, in its order.
abbrev pub Enters : ℕ → List Entry → ℕ → ℕ → Request → Move → Type 0
Enters n past caller node r move =
    (b : Tale) (k s : ℕ) → b.story.whose (length past) ≡ k → b.story.round (length past) ≡ s → (HasEpoch r → IsMadeAt n b past k s caller node r)
    → (IsInTurn move → IsInOrder b.story past node) → IsFairEntry n b.story past (entry node move)

-- and where the table has its answer
abbrev pub EntersHeard : ℕ → List Entry → ℕ → ℕ → Request → Reply → Type 0
EntersHeard n past caller node r reply =
    (b : Tale) (k s : ℕ) → b.story.whose (length past) ≡ k → b.story.round (length past) ≡ s → IsMadeAt n b past k s caller node r
    → IsInOrder b.story past node → (b.story.takeover k).heard s node ≡ Some reply → IsFairEntry n b.story past (entry node (Answer caller Heard r reply))

-- A call that left nothing: it was refused at once, or not delivered. Else it left an entry, and
-- its caller heard nothing, or its answer.
pub data CallLeft (n : ℕ) (past : List Entry) (caller node : ℕ) (r : Request) (d : HeardOf) (next : List Entry) : Type 0 where
  nothing : next ≡ past → (HasEpoch r → plain_heard d ≡ told.Silent) → CallLeft n past caller node r d next
  unheard : (move : Move) → next ≡ entry node move ∷ past → plain_heard d ≡ told.Silent → (IsInTurn move → HasEpoch r) → Enters n past caller node r move → CallLeft n past caller node r d next
  answered : (reply : Reply) → next ≡ entry node (Answer caller Heard r reply) ∷ past → d ≡ told.Answer reply → HasEpoch r
      → EntersHeard n past caller node r reply → CallLeft n past caller node r d next

-- ## The entries of an answer and of a stop
pub enters_answer : (n : ℕ) (past : List Entry) (caller node : ℕ) (r : Request) (reply : Reply) → HasEpoch r → EntersHeard n past caller node r reply
enters_answer n past caller node r reply some b k s w x made order table = (
  record { made = made_here n b past k s caller node r w x made; in_order = λ turn. order },
  ap (λ (j : ℕ). (b.story.takeover j).heard (b.story.round (length past)) node) w ∙ ap (λ (j : ℕ). (b.story.takeover k).heard j node) x ∙ table,
)

pub enters_muted : (n : ℕ) (past : List Entry) (caller node : ℕ) (r : Request) (reply : Reply) → HasEpoch r → Enters n past caller node r (Answer caller Muted r reply)
enters_muted n past caller node r reply some b k s w x made order = (record { made = made_here n b past k s caller node r w x (made some); in_order = order }, tt)

pub enters_late : (n : ℕ) (past : List Entry) (caller node : ℕ) (r : Request) (reply : Reply) → HasEpoch r → Enters n past caller node r (Answer caller Late r reply)
enters_late n past caller node r reply some b k s w x made order = (record { made = made_here n b past k s caller node r w x (made some); in_order = order }, tt)

pub enters_stop : (n : ℕ) (past : List Entry) (caller node : ℕ) (r : Request) (late : Bool) (kept : ℕ) → (0 < kept → HasEpoch r) → Enters n past caller node r (Stop caller late r kept)
enters_stop n past caller node r late kept some b k s w x made order = λ lt. record { made = made_here n b past k s caller node r w x (made (some lt)); in_order = order }

-- what a late copy left
pub data CopyLeft (n : ℕ) (past : List Entry) (caller node : ℕ) (r : Request) (next : List Entry) : Type 0 where
  no_entry : next ≡ past → CopyLeft n past caller node r next
  an_entry : (move : Move) → next ≡ entry node move ∷ past → (IsInTurn move → ⊥) → Enters n past caller node r move → CopyLeft n past caller node r next

-- what an operation left
pub data OperationLeft (n : ℕ) (past : List Entry) (node : ℕ) (next : List Entry) : Type 0 where
  no_change : next ≡ past → OperationLeft n past node next
  a_change : (move : Move) → next ≡ entry node move ∷ past → (IsInTurn move → ⊥) → ((story : Story) → IsFairEntry n story past (entry node move)) → OperationLeft n past node next
