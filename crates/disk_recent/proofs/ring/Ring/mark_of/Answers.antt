use Rattle.std.proofs.Common.{◌≡◌, ℕ, ◌+◌, ◌-◌, ◌/◌, ◌%◌, ◌<◌, ◌≤◌, List, length, get_or, ap, sym, subst, ◌∙◌, arith, length-append}
use Rattle.std.specs.Prelude.{Some, None}
use Rattle.std.specs.List.{slice_get}
use Rattle.std.proofs.lemmas.Option.{slice_get-get_or, get_or_from_slice_get}
use Rattle.disk_recent.specs.Places.{begins}
use Rattle.disk_recent.specs.Ring.{IsRing, old_bodies, new_bodies, places_of, held_bodies}
use Rattle.disk_recent.specs.declared.ring.Ring.{Ring}
use Rattle.disk_recent.proofs.Rings.{length-begins}
use Rattle.disk_recent.proofs.Heads.{mark_at, mark_within}
use Rattle.disk_recent.proofs.ring.Ring.mark_of.Goals as goal

length-places : (r : Ring) → length (places_of r) ≡ length (held_bodies r)
length-places r = omega (
  arith,
  length-append (begins r.older.begin (old_bodies r)) (begins r.newer.begin (new_bodies r)),
  length-begins r.older.begin (old_bodies r),
  length-begins r.newer.begin (new_bodies r),
  length-append (old_bodies r) (new_bodies r),
)

module _ (r : Ring) (l : IsRing r) (txid : ℕ) (sixteenth : txid % 16 ≡ 0) (low : r.first ≤ txid) (high : txid < r.first + length (held_bodies r)) where
  abbrev j : ℕ
  j = txid - r.first

  inside : j < length (places_of r)
  inside = omega (arith, length-places r)

  even : (r.first + j) % 16 ≡ 0
  even = let e : r.first + j ≡ txid = omega arith in rw e sixteenth

  there : slice_get r.marks.items (j / 16) ≡ Some (get_or r.marks.items (j / 16) 0)
  there = slice_get-get_or r.marks.items (j / 16) 0 (subst (λ (ms : List ℕ). j / 16 < length ms) (sym l.marks) (mark_within r.first (places_of r) j inside even))

  is : get_or r.marks.items (j / 16) 0 ≡ get_or (places_of r) j 0
  is = ap (λ (ms : List ℕ). get_or ms (j / 16) 0) l.marks ∙ mark_at r.first (places_of r) j inside even

pub unreachable-requires : goal.unreachable-requires
unreachable-requires c =
    let r = c.args.self.now in
    let e : None ≡ slice_get r.marks.items ((c.args.txid - r.first) / 16) = c.in-None.ensures in
    let f = there c.args.self.now c.requires.ring c.args.txid c.requires.marked c.requires.first c.requires.last in
    cc (e, f)

pub returns : goal.returns
returns c =
    let r = c.args.self.now in let k : ℕ = (c.args.txid - r.first) / 16 in
    sym (get_or_from_slice_get r.marks.items k c.in-Some.place.now 0 (sym c.in-Some.ensures)) ∙ is r c.requires.ring c.args.txid c.requires.marked c.requires.first c.requires.last
