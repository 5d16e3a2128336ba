use Rattle.std.proofs.Common.{◌≡◌, ◌++◌, take, map}
use Rattle.std.specs.List.{flat_map}
use Rattle.list_text.specs.Texts.{tabbed, column_text}
use Rattle.list_text.proofs.row_text.put_columns.Given as goal

-- the columns so far are appended
abbrev pub invariant-loop-column : goal.invariant-loop-column
invariant-loop-column l = l.out.items ≡ l.fn.out.items ++ flat_map tabbed (map column_text (take l.column-index l.columns))
