use Rattle.std.proofs.Common.{◌≡◌, ◌+◌, ◌*◌, ◌∷◌, take, length}
use Rattle.base_words.specs.Hex.{hex_text}
use Rattle.play_report.proofs.pieces.hex_digits.Given as goal

-- a space and the digits of the bytes so far stand at the front
abbrev pub invariant-loop-place : goal.invariant-loop-place
invariant-loop-place l = (length l.digits ≡ 129) × (take (1 + 2 * l.place) l.digits ≡ 32 ∷ hex_text (take l.place l.bytes))
