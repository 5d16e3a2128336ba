-- A journaled batch that isn't refused keeps its segment's txids at most 2 ^ 62.
use Rattle.std.proofs.Common.{ℕ, ◌≡◌, ◌≤◌, ◌+◌, List, [], ◌∷◌, ◌++◌, Option, Some, None, arith, length-append, IfSome, inl, inr}
use Rattle.std.proofs.lemmas.Bool.Decides.{eqb_tells, nat_tests}
use Rattle.journal_core.specs.declared.segment.Segment.{Segment}
use Rattle.journal_core.specs.declared.node_state.NodeState.{NodeState}
use Rattle.journal_core.specs.Views.{HeadView, BatchView, last_txid}
use Rattle.journal_core.specs.Limits.{max_number}
use Rattle.journal_core.specs.Segments.{find_segment, IsWithin}
use Rattle.journal_core.specs.Step.{journal_refused, open_refused, bodies_in}

pub find_start : (start : ℕ) (gs : List Segment) → IfSome (find_segment start gs) (λ g. g.start ≡ start)
unfolding find_segment
find_start start [] = tt
find_start start (g ∷ gs) =
    elim (eqb_tells g.start start) [ inl p ↦ rw p.0 p.1 | inr p ↦ rw p.0 (find_start start gs) ]

first_there : (opened start first expected : ℕ) → open_refused (Some opened) start first expected ≡ None → first ≡ expected
first_there opened start first expected h = grind (arith, nat_tests)

pub first_is : (o : Option ℕ) (start first expected : ℕ) → open_refused o start first expected ≡ None → first ≡ expected
first_is None start first expected h = cc
first_is (Some opened) start first expected h = first_there opened start first expected h

pub grown_within : (found : Option Segment) (start : ℕ) (batch : BatchView) → IfSome found (λ g. g.start ≡ start)
    → batch.first ≡ start + bodies_in found → last_txid batch ≤ max_number → IfSome found (λ g. IsWithin (record g { bodies = g.bodies ++ batch.bodies }))
grown_within None start batch h e l = tt
grown_within (Some g) start batch h e l = omega (arith, length-append g.bodies batch.bodies)
