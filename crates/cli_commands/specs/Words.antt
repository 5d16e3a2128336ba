-- Where words stop being a command.
use Rattle.std.specs.Prelude.{ℕ, ◌+◌, ◌<◌, ◌≤◌, List, ◌++◌, MatchOption, length, take}
use Rattle.cli_commands.specs.Commands.{IsCommand}
use Rattle.cli_commands.specs.Usage.{usage_of}

-- a command begins with these words
abbrev pub BeginCommand : List (List ℕ) → Type 0
BeginCommand words = (others : List (List ℕ)) × IsCommand (words ++ others)

-- The words aren't a command: one begins with those before the place, and none with one word more.
pub record StopAt (words : List (List ℕ)) (place : ℕ) : Type 0 where
  pub none : IsCommand words → ⊥
  pub within : place ≤ length words
  pub before : BeginCommand (take place words)
  pub further : place < length words → BeginCommand (take (place + 1) words) → ⊥

-- what is told as the first word that is missing or wrong is that
abbrev pub UsageIsOfFirstWrongWord : Type 0
UsageIsOfFirstWrongWord = (words : List (List ℕ)) → MatchOption (usage_of words) (IsCommand words) (StopAt words)
