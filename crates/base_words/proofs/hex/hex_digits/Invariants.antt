use Rattle.std.proofs.Common.{◌≡◌, ◌*◌, take, length}
use Rattle.base_words.specs.Hex.{hex_text}
use Rattle.base_words.proofs.hex.hex_digits.Given as goal

-- the digits of the bytes so far stand at the front
abbrev pub invariant-loop-place : goal.invariant-loop-place
invariant-loop-place l = (length l.digits ≡ 64) × (take (2 * l.place) l.digits ≡ hex_text (take l.place l.bytes))
