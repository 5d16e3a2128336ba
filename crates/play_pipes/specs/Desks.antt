-- The ends of all lines: a request is put into several, and answered.
use Rattle.std.specs.Prelude.{◌≡◌, ◌⊎◌, ℕ, ◌+◌, ◌-◌, ◌<◌, ◌≤◌, List, [], ◌∷◌, length, map, slice_index, slice_index_or}
use Rattle.journal_core.specs.declared.request.Request.{Request}
use Rattle.play_pipes.specs.Calls.{Calls, Start, Answer, gained}
use Rattle.play_pipes.specs.Ends.{EndView}

-- what contracts see of a desk: for each node what its line had listed at first, and what it listed
-- since
pub record DeskView : Type 0 where
  pub starts : List Start
  pub lists : List Calls

-- nodes from 1 to this count, by rising numbers
pub record AreNodes (count : ℕ) (nodes : List ℕ) : Type 0 where
  pub low : (k : ℕ) → k < length nodes → 1 ≤ slice_index nodes k
  pub high : (k : ℕ) → k < length nodes → slice_index nodes k ≤ count
  pub rising : (j k : ℕ) → j < k → k < length nodes → slice_index nodes j < slice_index nodes k

abbrev pub no_end : EndView
no_end = record { start = ((record { words = 0; slots = 0; views_name = 0; atom = 0; block = 0; offset = 0; slot_names = [] }, 0), []); told = []; waiting = [] }

-- nothing is asked at an end, or it is that of one of the nodes from the place j to the place k
abbrev pub RestsOr : List ℕ → ℕ → ℕ → ℕ → EndView → Type 0
RestsOr nodes j k i e = (e.waiting ≡ []) ⊎ ((m : ℕ) × (j ≤ m) × (m < k) × (slice_index nodes m ≡ i + 1))

-- the request is asked at the first k of these nodes, and nothing is at the others
pub record HasPut (nodes : List ℕ) (r : Request) (k : ℕ) (old new : List EndView) : Type 0 where
  pub starts : map (λ e. e.start) new ≡ map (λ e. e.start) old
  pub lists : map (λ e. e.told) new ≡ map (λ e. e.told) old
  pub long : length new ≡ length old
  pub ready : (m : ℕ) → m < k → (slice_index_or new (slice_index nodes m - 1) no_end).waiting ≡ r ∷ []
  pub rest : (i : ℕ) → i < length new → RestsOr nodes 0 k i (slice_index_or new i no_end)

-- of the first nodes, so many as this count, those were answered for which there are answers, and
-- the others still are to answer
pub record HasHeard (nodes : List ℕ) (r : Request) (count : ℕ) (answers : List Answer) (old new : List EndView) : Type 0 where
  pub starts : map (λ e. e.start) new ≡ map (λ e. e.start) old
  pub lists : map (λ e. e.told) new ≡ gained nodes r answers (map (λ e. e.told) old)
  pub long : length new ≡ length old
  pub ready : (m : ℕ) → length answers ≤ m → m < count → (slice_index_or new (slice_index nodes m - 1) no_end).waiting ≡ r ∷ []
  pub rest : (i : ℕ) → i < length new → RestsOr nodes (length answers) count i (slice_index_or new i no_end)
