-- Callers by their names.
use Rattle.std.specs.Prelude.{ℕ, ◌+◌, List, [], ◌∷◌, Option, Some, None, map, if◌then◌else◌}
use Rattle.std.specs.Str.{bytes_eq}
use Rattle.ns_tree.specs.declared.end.End.{End}
use Rattle.play_report.specs.Text.{operator}

-- an actor of which nothing more is told
abbrev pub bare : List ℕ → End
bare name = record { name = name; last = None }

-- the actors of these names
abbrev pub bares : List (List ℕ) → List End
bares names = map bare names

-- the first of these, counted on from this number, that has the name; after the last the operator
unfoldable pub caller_from : ℕ → List End → List ℕ → Option ℕ
caller_from number [] name = if bytes_eq name operator then Some number else None
caller_from number (e ∷ ends) name = if bytes_eq e.name name then Some number else caller_from (number + 1) ends name

abbrev pub caller_in : List End → List ℕ → Option ℕ
caller_in ends name = caller_from 0 ends name
