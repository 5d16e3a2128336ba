use Rattle.std.proofs.Common.{◌≡◌, ◌++◌, length}
use Rattle.base_words.specs.Appends.{Keeps}
use Rattle.base_words.specs.Hex.{hex_text}
use Rattle.base_words.proofs.hex.put_hex.Given as goal

-- what was added, and the text of the rest after it
abbrev pub invariant-loop-rest : goal.invariant-loop-rest
invariant-loop-rest l = (l.out.items ++ hex_text l.rest ≡ l.fn.out.items ++ hex_text l.fn.bytes) × Keeps l.fn.out.items l.out.items

abbrev pub decreases-loop-rest : goal.decreases-loop-rest
decreases-loop-rest l = length l.rest
