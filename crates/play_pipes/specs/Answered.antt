-- What contracts see of an answer in a pipe.
use Rattle.std.specs.Prelude.{◌≡◌, ℕ, suc, List, [], ◌∷◌, ◌++◌, length, map, IfOk}
use Rattle.journal_core.specs.declared.request.Request.{Request}
use Rattle.journal_core.specs.Peers.{FitsHeard}
use Rattle.crossbeam_queue.specs.Passes.{Pass, view}
use Rattle.play_pipes.specs.declared.queue.Source.{Source}
use Rattle.play_pipes.specs.declared.queue.Log.{Log}
use Rattle.play_pipes.specs.declared.ask.Ask.{Ask}
use Rattle.play_pipes.specs.declared.ask.Ask.TheVariants.{Call}
use Rattle.play_pipes.specs.Calls.{Answer}
use Rattle.play_pipes.specs.Relay.{id_of}

pub record AnsweredView : Type 0 where
  pub answer : Answer
  pub request : Request
  pub receipt : Pass Ask (Log Ask)

-- the receipt shows that the request was the last of those asked, and the answer fits it
pub record IsAnswered (answer : Answer) (request : Request) (receipt : Pass Ask (Log Ask)) : Type 0 where
  pub free : receipt.me.1 ≡ []
  pub asked : (earlier : List Ask) × ((view receipt).known ≡ earlier ++ Call request ∷ [])
  pub fits : IfOk answer (λ heard. FitsHeard request heard)

abbrev pub answers_of : List AnsweredView → List Answer
answers_of xs = map (λ a. a.answer) xs

-- the receipt is of this queue, and shows one more than there are answers before
abbrev pub IsReceipted : Source → ℕ → AnsweredView → Type 0
IsReceipted source k a = (a.receipt.table_id ≡ id_of source) × (length (view a.receipt).known ≡ suc k)
