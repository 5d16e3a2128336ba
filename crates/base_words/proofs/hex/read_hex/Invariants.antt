use Rattle.std.proofs.Common.{◌≡◌, ◌+◌, ◌*◌, length, take}
use Rattle.base_words.specs.Hex.{bytes_in}
use Rattle.base_words.proofs.HexLaws.{prepend}
use Rattle.base_words.proofs.hex.read_hex.Given as goal

-- the bytes so far, and those of the rest
abbrev pub invariant-loop-rest : goal.invariant-loop-rest
invariant-loop-rest l = (prepend (take l.at l.bytes) (bytes_in l.rest) ≡ bytes_in l.word) × (2 * l.at + length l.rest ≡ length l.word)

abbrev pub decreases-loop-rest : goal.decreases-loop-rest
decreases-loop-rest l = length l.rest
