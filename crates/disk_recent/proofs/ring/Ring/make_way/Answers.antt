use Rattle.std.proofs.Common.{◌≡◌, ℕ, ◌+◌, ◌≤◌, ◌<◌, List, [], ◌++◌, length, refl, ap, sym, subst, ◌∙◌, arith}
use Rattle.std.proofs.lemmas.List.{append-nil}
use Rattle.disk_recent.specs.Edits.{stored_bytes}
use Rattle.disk_recent.specs.Ring.{Laid, old_bodies, new_bodies, held_bodies}
use Rattle.disk_recent.specs.declared.ring.Ring.{Ring}
use Rattle.disk_recent.proofs.Rings.{no_older, laid_turn, way_at_end, is_ring, held_is, sized}
use Rattle.disk_recent.proofs.ring.Ring.make_way.Goals as goal

-- the ring when the newer run has become the older one
abbrev turned : Ring → Ring
turned r = record { block = r.block; marks = r.marks; first = r.first; older = r.newer; newer = record { begin = 0; size = 0; count = 0 } }

module _ (r : Ring) (l : Laid r (old_bodies r) (new_bodies r)) (size : ℕ) (small : size ≤ 4098)
    (fits : length (stored_bytes (held_bodies r)) + size + 4098 ≤ length r.block) (full : length r.block < r.newer.begin + r.newer.size + size) where
  none : old_bodies r ≡ []
  none = no_older r (old_bodies r) (new_bodies r) size l fits full

  laid : Laid (turned r) (new_bodies r) []
  laid = laid_turn r (new_bodies r) size (subst (λ (os : List (List ℕ)). Laid r os (new_bodies r)) none l) small full (turned r) refl refl refl refl refl

  same : held_bodies (turned r) ≡ held_bodies r
  same = held_is (turned r) (new_bodies r) [] laid ∙ (append-nil (new_bodies r) ∙ ap (λ (os : List (List ℕ)). os ++ new_bodies r) (sym none))

  before : size ≤ r.newer.begin
  before = omega (arith, sized r.block r.newer (new_bodies r) l.newer, ap (λ (os : List (List ℕ)). length (stored_bytes (os ++ new_bodies r))) none)

pub returns-then-size-len-clause-ring : goal.returns-then-size-len-clause-ring
returns-then-size-len-clause-ring c =
    let r = c.args.self.now in is_ring (turned r) (new_bodies r) [] (laid r c.requires.ring c.args.size c.requires.size c.requires.fits (omega arith))

pub returns-then-size-len-clause-held : goal.returns-then-size-len-clause-held
returns-then-size-len-clause-held c = same c.args.self.now c.requires.ring c.args.size c.requires.size c.requires.fits (omega arith)

pub returns-then-size-len-clause-way : goal.returns-then-size-len-clause-way
returns-then-size-len-clause-way c = (omega arith, λ some. omega (arith, before c.args.self.now c.requires.ring c.args.size c.requires.size c.requires.fits (omega arith)))

pub returns-else-size-len-clause-way : goal.returns-else-size-len-clause-way
returns-else-size-len-clause-way c = let r = c.args.self.now in way_at_end r (old_bodies r) (new_bodies r) c.args.size c.requires.ring c.requires.fits (omega arith)
