use Rattle.std.proofs.Common.{ℕ, ◌+◌, drop, refl, ap, ◌∙◌}
use Rattle.circular_buffer.specs.Buffer.{Buffer}
use Rattle.disk_recent.specs.Ring.{old_bodies, new_bodies}
use Rattle.disk_recent.specs.declared.ring.Ring.{Ring}
use Rattle.disk_recent.proofs.Rings.{is_ring, held_is}
use Rattle.disk_recent.proofs.Heads.{some_written, some_sized, older_dropped}
use Rattle.disk_recent.proofs.ring.Ring.drop_older.Goals as goal

pub entry_size-size-requires : goal.entry_size-size-requires
entry_size-size-requires c = let r = c.args.self.now in some_written r.block r.older (old_bodies r) c.requires.ring.older c.requires.some

pub without_first-self-requires-clause-size : goal.without_first-self-requires-clause-size
without_first-self-requires-clause-size c = let r = c.args.self.now in some_sized r.block r.older (old_bodies r) c.entry_size-size.result
    c.requires.ring.older c.requires.some c.entry_size-size.ensures

pub returns-clause-ring : goal.returns-clause-ring
returns-clause-ring c =
    let r = c.args.self.now in
    let s : Ring = record { block = r.block; marks = c.unmark.new.marks; first = r.first + 1; older = c.without_first-self.result; newer = c.args.self.now.newer } in
    let laid = older_dropped r (old_bodies r) (new_bodies r) c.requires.ring c.requires.some c.entry_size-size.result c.entry_size-size.ensures s refl refl refl
    c.without_first-self.ensures.begin c.without_first-self.ensures.size c.without_first-self.ensures.count
    (ap (λ (m : Buffer ℕ). m.capacity) c.unmark.ensures) (ap (λ (m : Buffer ℕ). m.items) c.unmark.ensures) in
    is_ring s (drop 1 (old_bodies r)) (new_bodies r) laid.0

pub returns-clause-held : goal.returns-clause-held
returns-clause-held c =
    let r = c.args.self.now in
    let s : Ring = record { block = r.block; marks = c.unmark.new.marks; first = r.first + 1; older = c.without_first-self.result; newer = c.args.self.now.newer } in
    let laid = older_dropped r (old_bodies r) (new_bodies r) c.requires.ring c.requires.some c.entry_size-size.result c.entry_size-size.ensures s refl refl refl
    c.without_first-self.ensures.begin c.without_first-self.ensures.size c.without_first-self.ensures.count
    (ap (λ (m : Buffer ℕ). m.capacity) c.unmark.ensures) (ap (λ (m : Buffer ℕ). m.items) c.unmark.ensures) in
    held_is s (drop 1 (old_bodies r)) (new_bodies r) laid.0 ∙ laid.1
