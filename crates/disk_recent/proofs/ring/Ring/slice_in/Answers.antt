use Rattle.std.proofs.Common.{◌≡◌, ℕ, ◌+◌, ◌-◌, ◌<◌, ◌≤◌, List, length, take, drop, ap, sym, ◌∙◌, arith}
use Rattle.std.specs.Prelude.{map, Option, Some}
use Rattle.disk_recent.specs.Edits.{stored_bytes}
use Rattle.disk_recent.specs.Owned.{IsWritten}
use Rattle.disk_recent.specs.Ring.{Holds, bodies_in}
use Rattle.disk_recent.specs.declared.run.Run.{Run}
use Rattle.disk_recent.proofs.Heads.{tail_at, Tail, map_some}
use Rattle.disk_recent.proofs.ring.Ring.slice_in.Goals as goal

module _ (cs : List (Option ℕ)) (r : Run) (h : Holds cs r (bodies_in cs r)) (i : ℕ) (inside : i < r.count) (place end : ℕ)
    (at : place ≡ r.begin + length (stored_bytes (take i (bodies_in cs r)))) (stop : end ≡ r.begin + r.size) where
  tail : Tail cs r (bodies_in cs r) i
  tail = tail_at cs r (bodies_in cs r) i (omega (arith, h.counted)) h

  before : place ≤ end
  before = omega (arith, tail.before)

  lies : take (end - place) (drop place cs) ≡ map Some (stored_bytes (drop i (bodies_in cs r)))
  lies = ap (λ (p : ℕ × ℕ). take (p.0 - p.1) (drop p.1 cs)) (λ j. (stop j, at j)) ∙ tail.lies

  written : IsWritten cs place (end - place)
  written = (omega (arith, before, h.within), (stored_bytes (drop i (bodies_in cs r)), lies))

pub overflow_sub-end : goal.overflow_sub-end
overflow_sub-end c =
    before c.args.self.now.block c.args.run c.requires.holds (c.args.txid - c.args.first) (omega (arith, c.requires.from, c.requires.to))
    c.place_of-place.result c.end.result c.place_of-place.ensures c.end.ensures

pub slice-requires : goal.slice-requires
slice-requires c =
    written c.args.self.now.block c.args.run c.requires.holds (c.args.txid - c.args.first) (omega (arith, c.requires.from, c.requires.to))
    c.place_of-place.result c.end.result c.place_of-place.ensures c.end.ensures

pub returns : goal.returns
returns c =
    map_some _ _ (sym c.slice.ensures ∙ lies c.args.self.now.block c.args.run c.requires.holds (c.args.txid - c.args.first)
    (omega (arith, c.requires.from, c.requires.to)) c.place_of-place.result c.end.result c.place_of-place.ensures c.end.ensures)
