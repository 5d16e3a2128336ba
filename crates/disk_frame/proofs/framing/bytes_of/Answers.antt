use Rattle.std.proofs.Common.{List, ℕ, ◌+◌, ◌++◌, ◌∙◌, ap, arith}
use Rattle.disk_frame.proofs.ReadLaws.{short_sized, frame_joined}
use Rattle.disk_frame.proofs.framing.bytes_of.Goals as goal

pub entries_length-inner-requires : goal.entries_length-inner-requires
entries_length-inner-requires c = omega (arith, short_sized c.args.bodies.now c.requires.short, c.requires.most)

pub overflow_add-inner : goal.overflow_add-inner
overflow_add-inner c = omega (arith, short_sized c.args.bodies.now c.requires.short, c.requires.most, c.entries_length-inner.ensures.total)

pub overflow_add-inner-2 : goal.overflow_add-inner-2
overflow_add-inner-2 c = omega (arith, short_sized c.args.bodies.now c.requires.short, c.requires.most, c.entries_length-inner.ensures.total)

pub overflow_cast-inner : goal.overflow_cast-inner
overflow_cast-inner c = omega (arith, short_sized c.args.bodies.now c.requires.short, c.requires.most, c.entries_length-inner.ensures.total)

pub returns-clause-spelled : goal.returns-clause-spelled
returns-clause-spelled c =
    frame_joined c.args.front.now c.args.first (12 + c.entries_length-inner.result) c.args.bodies.now c.extend_from_slice.new.self.items c.head_of.result
    c.extend_from_slice-2.new.self.items c.put_entries.new.out.items (omega (arith, c.entries_length-inner.ensures.total))
    (c.in_ok-extend_from_slice.ensures.items ∙ ap (λ (x : List ℕ). x ++ c.args.front.now) c.in_ok-out.ensures.items) c.head_of.ensures
    c.in_ok-extend_from_slice-2.ensures.items c.in_ok-put_entries.ensures
