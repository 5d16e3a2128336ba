-- The words of `oiv ls`.
use Rattle.std.proofs.Common.{◌≡◌, ℕ, true, List, [], ◌∷◌, ap}
use Rattle.std.specs.Prelude.{codes}
use Rattle.cli_commands.specs.Tools as tool
use Rattle.cli_commands.specs.Commands.{is_from_root, list, AskFor}

pub asks_ls : (words : List (List ℕ)) (name path : List ℕ) → words ≡ name ∷ path ∷ [] → is_from_root path ≡ true → AskFor (codes "oiv" ∷ codes "ls" ∷ words) (list (tool.Ls path) name)
asks_ls words name path is begins = record { words_are = ap (λ (ws : List (List ℕ)). codes "oiv" ∷ codes "ls" ∷ ws) is; allowed = begins }

pub ruleset asks = (asks_ls)
