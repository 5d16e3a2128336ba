-- The greatest numbers and sizes that a node takes.
use Rattle.std.specs.Prelude.{ℕ, ◌+◌, List, [], ◌∷◌, Option, Some, None, Bool, false, nat_lt, nat_le, if◌then◌else◌, length}
use Rattle.std.specs.List.{list_any}
use Rattle.journal_core.specs.Views.{HeadView, last_txid}
use Rattle.journal_core.specs.declared.request.Request.{Request}
use Rattle.journal_core.specs.declared.request.Request.TheVariants.{State, NewEpoch, Start, Journal, Finalize, Prepare, Fetch, Accept, Purge, Read, Manifest}

-- 2 ^ 62
abbrev pub max_number : ℕ
max_number = 4611686018427387904

abbrev pub max_body : ℕ
max_body = 4096

abbrev pub max_batch : ℕ
max_batch = 256

abbrev pub max_segment : ℕ
max_segment = 16384

-- who asks, in a request with a head
abbrev pub head_of : Request → Option HeadView
head_of State = None
head_of (NewEpoch epoch) = None
head_of (Start head start) = Some head
head_of (Journal head start batch) = Some head
head_of (Finalize head start end) = Some head
head_of (Prepare head start) = Some head
head_of (Fetch head start from) = Some head
head_of (Accept head batch) = Some head
head_of (Purge head min) = Some head
head_of (Read from) = None
head_of Manifest = None

abbrev pub head_numbers : HeadView → List ℕ
head_numbers h = h.epoch ∷ h.serial ∷ h.committed ∷ []

-- the numbers of a request, with the last txid of its batch
abbrev pub numbers_of : Request → List ℕ
numbers_of State = []
numbers_of (NewEpoch epoch) = epoch ∷ []
numbers_of (Start head start) = start ∷ head_numbers head
numbers_of (Journal head start batch) = start ∷ batch.first ∷ last_txid batch ∷ head_numbers head
numbers_of (Finalize head start end) = start ∷ end ∷ head_numbers head
numbers_of (Prepare head start) = start ∷ head_numbers head
numbers_of (Fetch head start from) = start ∷ from ∷ head_numbers head
numbers_of (Accept head batch) = batch.first ∷ last_txid batch ∷ head_numbers head
numbers_of (Purge head min) = min ∷ head_numbers head
numbers_of (Read from) = from ∷ []
numbers_of Manifest = []

abbrev pub bodies_of : Request → List (List ℕ)
bodies_of (Journal head start batch) = batch.bodies
bodies_of (Accept head batch) = batch.bodies
bodies_of _ = []

-- a batch of too many bodies for one request
abbrev pub is_large : Request → Bool
is_large (Journal head start batch) = nat_lt max_batch (length batch.bodies)
is_large _ = false

-- a segment of too many edits
abbrev pub overfills : Request → Bool
overfills (Journal head start batch) = nat_le (start + max_segment) (last_txid batch)
overfills (Accept head batch) = nat_lt max_segment (length batch.bodies)
overfills _ = false

-- the first limit that a request passes
unfoldable pub limit_of : Request → Option ℕ
limit_of r =
    if list_any (λ n. nat_lt max_number n) (numbers_of r) then Some max_number
    else if list_any (λ body. nat_lt max_body (length body)) (bodies_of r) then Some max_body
    else if is_large r then Some max_batch
    else if overfills r then Some max_segment
    else None
