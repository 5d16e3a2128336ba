-- The replay of a log: each body decoded, admitted and applied in order.
use Rattle.std.specs.Prelude.{◌≡◌, ℕ, ◌+◌, ◌-◌, ◌<◌, List, [], ◌∷◌, length, take, Option, Some, None}
use Rattle.edit_ops.specs.Records.{EditView}
use Rattle.journal_core.specs.Views.{BatchView, last_txid}
use Rattle.ns_tree.specs.declared.inode.Row.{Row}
use Rattle.ns_tree.specs.Space.{Space, empty_space}
use Rattle.ns_edits.specs.declared.replayed.Replayed.{Replayed}
use Rattle.ns_edits.specs.declared.replayed.Replayed.TheVariants as told
use Rattle.ns_edits.specs.Decoded.{decoded}
use Rattle.ns_edits.specs.Admit.{Refusal, admit_of}
use Rattle.ns_edits.specs.Apply.{apply_of}

-- what an edit leaves, or nothing where it is refused
abbrev pub unless_refused : Refusal → Space → Option Space
unless_refused None s = Some s
unless_refused (Some refusal) s = None

abbrev pub edit_entered : Option EditView → ℕ → Space → Option Space
edit_entered None txid s = None
edit_entered (Some e) txid s = unless_refused (admit_of s e) (apply_of s e txid)

-- what the entry of this txid leaves, or nothing where its body doesn't decode or isn't admitted
unfoldable pub entered : ℕ → List ℕ → Space → Option Space
entered txid body s = edit_entered (decoded body) txid s

abbrev pub goes_on : Option Space → (Space → Option Space) → Option Space
goes_on None next = None
goes_on (Some s) next = next s

-- the bodies after so many entries, in order
unfoldable pub replay_from : ℕ → List (List ℕ) → Space → Option Space
replay_from t [] s = Some s
replay_from t (body ∷ bodies) s = goes_on (entered (t + 1) body s) (replay_from (t + 1) bodies)

-- a log from txid 1 on
unfoldable pub replay : List (List ℕ) → Option Space
replay log = replay_from 0 log empty_space

-- ## As far as it goes
-- what bodies leave: up to the last one, or up to the first bad one, whose txid is told
pub data Applied : Type 0 where
  All : (s : Space) (position : ℕ) → Applied
  BadEntry : (s : Space) (txid : ℕ) → Applied

abbrev pub applied_next : Option Space → ℕ → Space → (Space → Applied) → Applied
applied_next None t s next = BadEntry s (t + 1)
applied_next (Some new) t s next = next new

unfoldable pub applied : ℕ → List (List ℕ) → Space → Applied
applied t [] s = All s t
applied t (body ∷ bodies) s = applied_next (entered (t + 1) body s) t s (applied (t + 1) bodies)

-- what a replay of a batch answers and leaves; for lack of memory it may end after any number of
-- bodies
abbrev pub IsReplayed : Space → BatchView → Replayed → Space → Type 0
IsReplayed s b told.Done z = applied (b.first - 1) b.bodies s ≡ All z (last_txid b)
IsReplayed s b (told.BadEntry txid) z = applied (b.first - 1) b.bodies s ≡ BadEntry z txid
IsReplayed s b (told.OutOfMemory count) z = (count < length b.bodies) × (replay_from (b.first - 1) (take count b.bodies) s ≡ Some z)

-- the rows of the namespace that a log replays to
abbrev pub IsReplay : List (List ℕ) → List Row → Type 0
IsReplay log rows = (s : Space) × (replay log ≡ Some s) × (s.pairs ≡ rows)

-- the image of a log's first entries: the rows, the retry list, and how many entries
pub record Image : Type 0 where
  pub space : Space
  pub txid : ℕ

abbrev pub IsImage : List (List ℕ) → Image → Type 0
IsImage log i = (replay log ≡ Some i.space) × (length log ≡ i.txid)
