-- What a source lost and what a sink took, over several calls.
use Rattle.std.proofs.Common.{ℕ, ◌<◌, ◌+◌, List, ◌++◌, length, take, drop, Option, Some, None, IfSome, ap, sym, ◌∙◌, arith, append-nil, length-append}
use Rattle.std.specs.Io.KnownBytes.{Appends, Consumes, IsAtEnd}
use Rattle.std.proofs.Math.Seq.{take-add}
use Rattle.std.proofs.KnownBytes.{Appends-trans}
use Rattle.base_outside.specs.Whole.{GivesAll}

-- a source that is at its end gave all that it had
pub GivesAll-at_end : (old new : Option (List ℕ)) (bytes : List ℕ) → Consumes old new bytes → IsAtEnd new → GivesAll old new bytes
GivesAll-at_end None new bytes h e = tt
GivesAll-at_end (Some told) None bytes h e = absurd h
GivesAll-at_end (Some told) (Some left) bytes h e = (sym (append-nil bytes) ∙ ap (λ xs. bytes ++ xs) (sym e) ∙ sym h, ap Some e)

-- a source that lost so many bytes had them
pub long-from_Consumes : (old new : Option (List ℕ)) (bytes : List ℕ) (limit : ℕ) → Consumes old new bytes → limit < length bytes → IfSome old (λ told. limit < length told)
long-from_Consumes None new bytes limit h l = tt
long-from_Consumes (Some told) None bytes limit h l = absurd h
long-from_Consumes (Some told) (Some left) bytes limit h l = rw h (omega (arith, length-append bytes left))

-- the next part of a text was taken
pub Appends-next : (old mid new : Option (List ℕ)) (bytes : List ℕ) (at n : ℕ) → Appends old mid (take at bytes) → Appends mid new (take n (drop at bytes))
    → Appends old new (take (at + n) bytes)
Appends-next old mid new bytes at n h k = rw (take-add at n bytes) (Appends-trans old mid new _ _ h k)

pub ruleset read_whole = (GivesAll-at_end, long-from_Consumes)
