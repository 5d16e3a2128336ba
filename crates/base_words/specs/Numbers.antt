-- Numbers as digits without a leading zero.
use Rattle.std.specs.Prelude.{◌≡◌, ℕ, ◌^◌, ◌<◌, List, false}
use Rattle.std.specs.Fmt.{digits}

-- the text is that of the number in this base: no sign, no leading zero
abbrev pub IsNumber : ℕ → List ℕ → ℕ → Type 0
IsNumber base text n = (n < 2 ^ 64) × (text ≡ digits base false n)
