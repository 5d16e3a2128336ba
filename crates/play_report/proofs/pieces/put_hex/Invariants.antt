use Rattle.std.proofs.Common.{◌≡◌, ◌++◌, ℕ, List, length}
use Rattle.base_words.specs.Hex.{hex_text}
use Rattle.play_report.proofs.pieces.put_hex.Given as goal

-- the digits of those before the rest were given
abbrev pub invariant-loop-rest : goal.invariant-loop-rest
invariant-loop-rest g l = (before : List ℕ) × (before ++ l.rest ≡ l.fn.bytes) × g.T.Taker.adds l.fn.out l.out (hex_text before)

abbrev pub decreases-loop-rest : goal.decreases-loop-rest
decreases-loop-rest g l = length l.rest
