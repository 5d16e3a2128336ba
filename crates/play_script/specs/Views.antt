-- What contracts see of what a script's lines so far said.
use Rattle.std.specs.Prelude.{ℕ, List, Option, Bool, map}
use Rattle.std.specs.Borrow.{Bor}
use Rattle.play_script.specs.declared.script_line.ScriptLine.{ScriptLine}

-- names that are lent
abbrev pub lent_names : List (Bor (List ℕ)) → List (List ℕ)
lent_names names = map (λ n. n.now) names

pub record SaidView : Type 0 where
  pub named : Bool
  pub nodes : ℕ
  -- the names of the actors, in order of declaration
  pub names : List (List ℕ)

-- what the reader has so far; before the first line that says something, nothing is said
pub record ReadingView : Type 0 where
  pub said : Option SaidView
  pub lines : List ScriptLine
