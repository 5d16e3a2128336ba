-- Calls that a caller made one after the other, with nothing else between them.
use Rattle.std.specs.Prelude.{◌≡◌, List, [], ◌∷◌, ◌++◌}
use Rattle.journal_history.specs.declared.record.Record.{Record}
use Rattle.journal_history.specs.declared.record.Record.TheVariants.{Call, Late, Operator, Outcome}
use Rattle.play_calls.specs.Logs.{LogView}

-- calls alone
unfoldable pub AreCalls : List Record → Type 0
AreCalls [] = Unit {0}
AreCalls (Call node r t ∷ rs) = AreCalls rs
AreCalls (Late node r ∷ rs) = ⊥
AreCalls (Operator node ask done ∷ rs) = ⊥
AreCalls (Outcome text ∷ rs) = ⊥

-- some calls were listed, each with what was told of it, and no mark was set
pub record MakesCalls (old new : LogView) : Type 0 where
  pub nodes : new.nodes ≡ old.nodes
  pub marks : new.marks ≡ old.marks
  pub lines : List Record
  pub are : AreCalls lines
  pub past : new.past ≡ old.past ++ lines
