-- A request to a node as a list of numbers, from which both can be read back; and how often such
-- lists were counted.
use Rattle.std.specs.Prelude.{ℕ, suc, ◌==◌, ◌&&◌, Bool, List, [], ◌∷◌, ◌++◌, map, flat_map, unwrap_or}
use Rattle.std.specs.Cmp.Lexicographic.{slice_cmp}
use Rattle.std.specs.Ordering.{nat_cmp}
use Rattle.std.specs.BTreeMap.{get_by}
use Rattle.journal_core.specs.Views.{HeadView}
use Rattle.journal_core.specs.declared.request.Request.{Request}
use Rattle.journal_core.specs.declared.request.Request.TheVariants as request
use Rattle.journal_history.specs.Same.{same_request}
use Rattle.mesh_judge.specs.declared.counts.Counts.{Counts}

-- each byte as one more than it is, so that 0 ends a body
abbrev pub body_key : List ℕ → List ℕ
body_key bytes = map suc bytes ++ 0 ∷ []

abbrev pub bodies_key : List (List ℕ) → List ℕ
bodies_key bodies = flat_map body_key bodies

abbrev pub head_key : ℕ → HeadView → List ℕ → List ℕ
head_key kind head numbers = kind ∷ head.epoch ∷ head.serial ∷ head.committed ∷ numbers

-- each kind of request has a number
abbrev pub request_key : Request → List ℕ
request_key request.State = 0 ∷ []
request_key (request.NewEpoch epoch) = 1 ∷ epoch ∷ []
request_key (request.Start head start) = head_key 2 head (start ∷ [])
request_key (request.Journal head start batch) = head_key 3 head (start ∷ batch.first ∷ bodies_key batch.bodies)
request_key (request.Finalize head start end) = head_key 4 head (start ∷ end ∷ [])
request_key (request.Prepare head start) = head_key 5 head (start ∷ [])
request_key (request.Fetch head start from) = head_key 6 head (start ∷ from ∷ [])
request_key (request.Accept head batch) = head_key 7 head (batch.first ∷ bodies_key batch.bodies)
request_key (request.Purge head min) = head_key 8 head (min ∷ [])
request_key (request.Read from) = 9 ∷ from ∷ []
request_key request.Manifest = 10 ∷ []

abbrev pub ask_key : ℕ → Request → List ℕ
ask_key node r = node ∷ request_key r

-- both ask one request of one node
abbrev pub is_ask : ℕ → Request → ℕ → Request → Bool
is_ask node r k q = (node == k) && same_request r q

-- a call to a node by its number
abbrev pub call_key : ℕ → ℕ → List ℕ
call_key node number = node ∷ number ∷ []

-- how often this list was counted
abbrev pub count_of : Counts → List ℕ → ℕ
count_of counts key = unwrap_or (get_by (λ k. slice_cmp nat_cmp key k.items) counts.counts) 0
