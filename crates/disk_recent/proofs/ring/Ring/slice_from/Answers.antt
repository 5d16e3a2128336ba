use Rattle.std.proofs.Common.{◌≡◌, ℕ, ◌+◌, ◌-◌, length, drop, ap, ◌∙◌, arith, length-append}
use Rattle.disk_recent.specs.Edits.{stored_bytes}
use Rattle.disk_recent.specs.Ring.{old_bodies, new_bodies}
use Rattle.disk_recent.proofs.Heads.{older_places, newer_places, stored_older, stored_newer}
use Rattle.disk_recent.proofs.ring.Ring.slice_from.Goals as goal

pub slice_in-requires-clause-places : goal.slice_in-requires-clause-places
slice_in-requires-clause-places c = let r = c.args.self.now in older_places r (old_bodies r) (new_bodies r) c.requires

pub slice_in-requires-2-clause-places : goal.slice_in-requires-2-clause-places
slice_in-requires-2-clause-places c = let r = c.args.self.now in newer_places r (old_bodies r) (new_bodies r) c.requires

pub returns-then-index-old-clause-run : goal.returns-then-index-old-clause-run
returns-then-index-old-clause-run c =
    let r = c.args.self.now in stored_older (old_bodies r) (new_bodies r) (c.args.txid - r.first) _ (omega (arith, c.requires.older.counted)) c.slice_in.ensures

pub returns-clause-run : goal.returns-clause-run
returns-clause-run c =
    let r = c.args.self.now in let os = old_bodies r in let ns = new_bodies r in
    let back : c.args.txid - (r.first + r.older.count) ≡ c.args.txid - r.first - length os = omega (arith, c.requires.older.counted) in
    stored_newer os ns (c.args.txid - r.first) _ (omega (arith, c.requires.older.counted)) (omega (arith, length-append os ns)) (c.slice_in-2.ensures ∙ ap (λ (k : ℕ). stored_bytes (drop k ns)) back)
