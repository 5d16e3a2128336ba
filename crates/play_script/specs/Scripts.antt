-- What contracts see of a script.
use Rattle.std.specs.Prelude.{ℕ, List, Bool}
use Rattle.play_script.specs.declared.script_line.ScriptLine.{ScriptLine}

pub record ScriptView : Type 0 where
  -- its actors have namespaces: it begins with `names N`, and else with `raw N`
  pub named : Bool
  pub nodes : ℕ
  -- the lines after the first that say something
  pub lines : List ScriptLine
