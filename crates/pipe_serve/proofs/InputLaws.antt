-- An input that is read to its end.
use Rattle.std.proofs.Common.{ℕ, ◌≡◌, List, [], ◌++◌, Option, ◌∙◌, inl, inr, refl, subst}
use Rattle.std.specs.Io.KnownBytes.{Consumes, Keeps, IsAtEnd}
use Rattle.std.proofs.KnownBytes.{Consumes-nil, Consumes-trans, Consumes-kept}
use Rattle.base_outside.specs.Faults.{Rose}
use Rattle.pipe_serve.specs.Sessions.{SourceUse, read_from}
use Rattle.pipe_serve.specs.Serving.{IsReadOut}

-- so far these bytes were read, and nothing failed
pub record IsReading (source : SourceUse) : Type 0 where
  pub bytes : List ℕ
  pub read : Consumes source.given source.left bytes
  pub same : source.now ≡ source.before

pub read_none : (given : Option (List ℕ)) (f : ℕ) → IsReading (record { given = given; left = given; before = f; now = f })
read_none given f = record { bytes = []; read = Consumes-nil given; same = refl }

pub read_more : (given x y : Option (List ℕ)) (f f1 f2 : ℕ) (bytes : List ℕ) → IsReading (record { given = given; left = x; before = f; now = f1 }) → Consumes x y bytes → f2 ≡ f1
    → IsReading (record { given = given; left = y; before = f; now = f2 })
read_more given x y f f1 f2 bytes h more still = record { bytes = h.bytes ++ bytes; read = Consumes-trans given x y h.bytes bytes h.read more; same = still ∙ h.same }

pub read_end : (given x y : Option (List ℕ)) (f f1 f2 : ℕ) (bytes : List ℕ) → IsReading (record { given = given; left = x; before = f; now = f1 }) → Consumes x y bytes → IsAtEnd y
    → IsReadOut (record { given = given; left = y; before = f; now = f2 })
read_end given x y f f1 f2 bytes h more end = record { bytes = h.bytes ++ bytes; read = Consumes-trans given x y h.bytes bytes h.read more; cause = inl end }

pub read_fault : (given x y : Option (List ℕ)) (f f1 f2 : ℕ) → IsReading (record { given = given; left = x; before = f; now = f1 }) → Keeps x y → Rose f1 f2
    → IsReadOut (record { given = given; left = y; before = f; now = f2 })
read_fault given x y f f1 f2 h kept rose = record { bytes = h.bytes; read = Consumes-kept given x y h.bytes h.read kept; cause = inr (subst (λ (n : ℕ). Rose n f2) h.same rose) }

pub ruleset inputs = (read_none, read_more, read_end, read_fault)

-- the source as it was left then
pub read_later : {I : Type 0} (left : I → Option (List ℕ)) (faults : I → ℕ) (input after : I) → IsReadOut (read_from left faults input after)
    → (later : I) × IsReadOut (read_from left faults input later)
read_later left faults input after h = (after, h)

pub ruleset later = (read_later)
