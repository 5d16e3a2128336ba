use Rattle.std.proofs.Common.{arith}
use Rattle.disk_frame.proofs.ReadLaws.{step}
use Rattle.disk_frame.proofs.entries.Entries.next_entry.Goals as goal

pub overflow_add-entry : goal.overflow_add-entry
overflow_add-entry c = let s = step c.self.inside.left c.self.inside.rest.now c.in_ok-body.body.now c.in_ok-body.rest.now c.self.inside.txid
    c.self.inside.place c.self.invariant c.if-self-eq0.false c.in_ok-body.ensures in omega (arith, s.room)

pub overflow_add-self : goal.overflow_add-self
overflow_add-self c = let s = step c.self.inside.left c.self.inside.rest.now c.in_ok-body.body.now c.in_ok-body.rest.now c.self.inside.txid
    c.self.inside.place c.self.invariant c.if-self-eq0.false c.in_ok-body.ensures in omega (arith, s.room)

pub invariant_of-self : goal.invariant_of-self
invariant_of-self c = (step c.self.inside.left c.self.inside.rest.now c.in_ok-body.body.now c.in_ok-body.rest.now c.self.inside.txid
    c.self.inside.place c.self.invariant c.if-self-eq0.false c.in_ok-body.ensures).after
