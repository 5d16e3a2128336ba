-- What came of reading a whole source.
use Rattle.std.specs.Prelude.{ℕ, List, ⊤}
use Rattle.base_outside.specs.declared.reading.Input.{Input}
use Rattle.base_outside.specs.declared.reading.Input.TheVariants.{All, TooLong, ReadFault, OutOfMemory}

-- a fact of the bytes, where all were read
abbrev pub IfAll : Input → (List ℕ → Type 0) → Type 0
IfAll (All bytes) P = P bytes.items
IfAll TooLong P = ⊤
IfAll ReadFault P = ⊤
IfAll OutOfMemory P = ⊤
