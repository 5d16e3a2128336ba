use Rattle.std.proofs.Common.{sym, subst, refl}
use Rattle.std.specs.Prelude.{Err}
use Rattle.base_disk.specs.Calls.{Atomic}
use Rattle.base_disk.specs.Files.{Moves}
use Rattle.base_disk.specs.Timeline.{Past, view_of}
use Rattle.base_disk.proofs.Timeline.{kept, time, kept_files, atomic_stopped, rename_done}
use Rattle.base_disk.proofs.mem_disk.MemDiskDisk.rename.Goals as goal

pub returns-in_err-admit-clause-disk : goal.returns-in_err-admit-clause-disk
returns-in_err-admit-clause-disk c = λ t.
    let v = view_of c.args.self.now.past.items c.args.self.now.files in
    atomic_stopped _ c.from_residual.result v v (kept v) c.from_residual.ensures.0

pub returns-in_err-remember-clause-disk : goal.returns-in_err-remember-clause-disk
returns-in_err-remember-clause-disk c = λ t.
    let v = view_of c.args.self.now.past.items c.args.self.now.files in
    subst (λ (past : Past). Atomic (Moves c.args.from.now c.args.to.now) c.from_residual-in_err-remember.result v (view_of past c.args.self.now.files))
    (sym c.in_err-remember.ensures.err) (atomic_stopped _ c.from_residual-in_err-remember.result v v (kept v) c.from_residual-in_err-remember.ensures.0)

pub returns-in-Err-clause-disk : goal.returns-in-Err-clause-disk
returns-in-Err-clause-disk c = λ t.
    let past = c.args.self.now.past.items in let past' = c.remember.new.past.items in let m = c.args.self.now.files in let m' = c.rename.new.files in
    atomic_stopped _ (Err c.tell_short.result) (view_of past m) (view_of past' m') (kept_files past past' m m' (time past past' m m' c.in_ok-remember.ensures.ok) c.in-Err.ensures.err) refl

pub returns-in-Ok-clause-disk : goal.returns-in-Ok-clause-disk
returns-in-Ok-clause-disk c = λ t.
    let past = c.args.self.now.past.items in let past' = c.remember.new.past.items in let m = c.args.self.now.files in let m' = c.rename.new.files in
    rename_done past past' m m' (time past past' m m' c.in_ok-remember.ensures.ok) c.args.from.now c.args.to.now c.in-Ok.ensures.ok
