use Rattle.std.proofs.Common.{[], ◌∷◌, false, refl, arith}
use Rattle.journal_core.specs.declared.segment.Segment.{Segment}
use Rattle.cli_commands.proofs.OneState.{stands_beside, empty_is_fresh}
use Rattle.cli_commands.proofs.folder_examples.no_segment_is_invented.Goals as goal

pub returns-clause-lookups : goal.returns-clause-lookups
returns-clause-lookups c =
    let g : Segment = record { start = 0; epoch = 1; bodies = (10 ∷ []) ∷ []; is_final = false; accepted = false } in
    λ files none. stands_beside files g refl none

pub returns-clause-starts : goal.returns-clause-starts
returns-clause-starts c = λ starts. omega (arith, starts.0.0)

pub returns-clause-fresh : goal.returns-clause-fresh
returns-clause-fresh c = λ files s none stands sound starts. empty_is_fresh files s none stands sound starts
