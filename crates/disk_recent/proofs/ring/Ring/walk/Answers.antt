use Rattle.std.proofs.Common.{ℕ, ◌+◌, length, take, ap, sym, subst, ◌∙◌, arith}
use Rattle.disk_recent.specs.Edits.{stored_bytes}
use Rattle.disk_recent.specs.Owned.{IsWritten}
use Rattle.disk_recent.specs.Ring.{bodies_in}
use Rattle.disk_recent.proofs.Heads.{entry_at, At, IsRead}
use Rattle.disk_recent.proofs.ring.Ring.walk.Goals as goal

pub entry_size-place-requires : goal.entry_size-place-requires
entry_size-place-requires c =
    let cs = c.args.self.now.block in let bs = bodies_in cs c.args.run in
    let at : At cs c.args.run bs c.loop.counter = entry_at cs c.args.run bs c.loop.counter (omega (arith, c.requires.holds.counted)) c.requires.holds in
    subst (λ (k : ℕ). IsWritten cs k 2) (sym c.loop.invariant) at.written

pub overflow_add-place : goal.overflow_add-place
overflow_add-place c =
    let cs = c.args.self.now.block in let bs = bodies_in cs c.args.run in
    let at : At cs c.args.run bs c.loop.counter = entry_at cs c.args.run bs c.loop.counter (omega (arith, c.requires.holds.counted)) c.requires.holds in
    let is = at.read c.entry_size-place.result (subst (λ (k : ℕ). IsRead cs k c.entry_size-place.result) c.loop.invariant c.entry_size-place.ensures) in
    omega (arith, is, at.step, at.within, c.requires.small, c.requires.holds.within)

pub loop-preserved : goal.loop-preserved
loop-preserved c =
    let cs = c.args.self.now.block in let bs = bodies_in cs c.args.run in
    let at : At cs c.args.run bs c.loop.counter = entry_at cs c.args.run bs c.loop.counter (omega (arith, c.requires.holds.counted)) c.requires.holds in
    let is = at.read c.entry_size-place.result (subst (λ (k : ℕ). IsRead cs k c.entry_size-place.result) c.loop.invariant c.entry_size-place.ensures) in
    ap (λ (k : ℕ). k + c.entry_size-place.result) c.loop.invariant ∙ (ap (λ (k : ℕ). c.args.run.begin + length (stored_bytes (take c.loop.counter bs)) + k) is ∙ at.step)
