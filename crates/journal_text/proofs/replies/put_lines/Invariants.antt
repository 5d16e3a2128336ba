use Rattle.std.proofs.Common.{◌≡◌, ◌++◌, take}
use Rattle.journal_text.specs.Texts.{lines_text}
use Rattle.journal_text.proofs.replies.put_lines.Given as goal

-- the text of those so far is added
abbrev pub invariant-loop-line : goal.invariant-loop-line
invariant-loop-line l = l.out.items ≡ l.fn.out.items ++ lines_text (take l.line-index l.lines)
