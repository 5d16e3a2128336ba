use Rattle.std.proofs.Common.{◌≡◌, ℕ, ◌+◌, ◌/◌, ◌%◌, ◌^◌, ◌≤◌, ◌<◌, List, [], ◌∷◌, ◌++◌, length, refl, ap, sym, ◌∙◌, append_assoc, arith, length-append}
use Rattle.std.specs.Prelude.{Option}
use Rattle.disk_recent.specs.Edits.{with_length}
use Rattle.circular_buffer.specs.Buffer.{Buffer, buffer}
use Rattle.disk_recent.specs.Places.{put_at, every_sixteenth}
use Rattle.disk_recent.specs.Ring.{Laid, HasWay, old_bodies, new_bodies, held_bodies}
use Rattle.disk_recent.specs.declared.ring.Ring.{Ring}
use Rattle.disk_recent.proofs.Windows.{put_put}
use Rattle.disk_recent.proofs.Rings.{all_counts, mark_count, laid_put, is_ring, held_is}
use Rattle.disk_recent.proofs.ring.Ring.put.Goals as goal

pub mark-requires-clause-room : goal.mark-requires-clause-room
mark-requires-clause-room c =
    let r = c.args.self.now in let os = old_bodies r in let ns = new_bodies r in
    omega (arith, mark_count r os ns c.requires.ring, all_counts r os ns c.requires.ring, c.requires.ring.room)

pub overflow_add-self-3 : goal.overflow_add-self-3
overflow_add-self-3 c =
    let r = c.args.self.now in
    omega (arith, c.requires.ring.high, c.requires.ring.newer.counted, all_counts r (old_bodies r) (new_bodies r) c.requires.ring)

-- the ring with one more entry
abbrev with_one : Ring → List (Option ℕ) → Buffer ℕ → List ℕ → Ring
with_one r block marks b = record {
  block = block;
  marks = marks;
  first = r.first;
  older = r.older;
  newer = record { begin = r.newer.begin; size = r.newer.size + (length b + 2); count = r.newer.count + 1 };
}

module _ (r : Ring) (l : Laid r (old_bodies r) (new_bodies r)) (b : List ℕ) (short : length b ≤ 4096) (way : HasWay r (length b + 2)) (number : r.first + length (held_bodies r) < 2 ^ 64)
    (place : ℕ) (at : place ≡ r.newer.begin + r.newer.size) (block once : List (Option ℕ)) (marks : Buffer ℕ)
    (head : once ≡ put_at r.block place (length b / 256 ∷ length b % 256 ∷ [])) (body : block ≡ put_at once (place + 2) b)
    (noted : marks ≡ buffer (r.marks.items ++ every_sixteenth (r.first + (r.older.count + r.newer.count)) (place ∷ [])) r.marks.capacity) where
  abbrev s : Ring
  s = with_one r block marks b

  counts : r.older.count + r.newer.count ≡ length (old_bodies r) + length (new_bodies r)
  counts = omega (arith, l.older.counted, l.newer.counted)

  laid : Laid s (old_bodies r) (new_bodies r ++ b ∷ [])
  laid =
      let written : block ≡ put_at r.block (r.newer.begin + r.newer.size) (with_length b) =
      body ∙ (ap (λ (cs : List (Option ℕ)). put_at cs (place + 2) b) head
      ∙ (put_put r.block place (length b / 256 ∷ length b % 256 ∷ []) b (omega (arith, way.0))
      ∙ ap (λ (k : ℕ). put_at r.block k (with_length b)) at)) in
      let items : marks.items ≡ r.marks.items ++ every_sixteenth (r.first + (length (old_bodies r) + length (new_bodies r))) ((r.newer.begin + r.newer.size) ∷ []) =
      ap (λ (m : Buffer ℕ). m.items) noted ∙ ap (λ (p : ℕ × ℕ). r.marks.items ++ every_sixteenth (r.first + p.0) (p.1 ∷ [])) (λ i. (counts i, at i)) in
      laid_put r (old_bodies r) (new_bodies r) l b short way s written refl refl refl (ap (λ (m : Buffer ℕ). m.capacity) noted) items (omega (arith, length-append (old_bodies r) (new_bodies r)))

  ring : Laid s (old_bodies s) (new_bodies s)
  ring = is_ring s (old_bodies r) (new_bodies r ++ b ∷ []) laid

  longer : held_bodies s ≡ held_bodies r ++ b ∷ []
  longer = held_is s (old_bodies r) (new_bodies r ++ b ∷ []) laid ∙ sym (append_assoc (old_bodies r) (new_bodies r) (b ∷ []))

pub returns-clause-ring : goal.returns-clause-ring
returns-clause-ring c =
    ring c.args.self.now c.requires.ring c.args.body.now c.requires.short c.requires.way c.requires.number c.end-place.result c.end-place.ensures
    c.write-2.new.self c.write.new.self c.mark.new.marks c.write.ensures c.write-2.ensures c.mark.ensures

pub returns-clause-held : goal.returns-clause-held
returns-clause-held c =
    longer c.args.self.now c.requires.ring c.args.body.now c.requires.short c.requires.way c.requires.number c.end-place.result c.end-place.ensures
    c.write-2.new.self c.write.new.self c.mark.new.marks c.write.ensures c.write-2.ensures c.mark.ensures
