use Rattle.std.proofs.Common.{sym, subst, refl}
use Rattle.std.specs.Prelude.{Err}
use Rattle.base_disk.specs.Calls.{Writes}
use Rattle.base_disk.specs.Timeline.{Past, view_of}
use Rattle.base_disk.proofs.Timeline.{kept, time, kept_files, synced_files, write_stopped, wrote}
use Rattle.base_disk.proofs.mem_disk.MemDiskDisk.write_at.Goals as goal

pub returns-in_err-admit-clause-disk : goal.returns-in_err-admit-clause-disk
returns-in_err-admit-clause-disk c = λ t.
    let v = view_of c.args.self.now.past.items c.args.self.now.files in
    write_stopped _ _ _ c.from_residual.result v v (kept v) refl c.from_residual.ensures.0

pub returns-in_err-remember-clause-disk : goal.returns-in_err-remember-clause-disk
returns-in_err-remember-clause-disk c = λ t.
    let v = view_of c.args.self.now.past.items c.args.self.now.files in
    subst (λ (past : Past). Writes c.args.name.now c.args.at c.args.bytes.now c.from_residual-in_err-remember.result v (view_of past c.args.self.now.files))
    (sym c.in_err-remember.ensures.err) (write_stopped _ _ _ c.from_residual-in_err-remember.result v v (kept v) refl c.from_residual-in_err-remember.ensures.0)

pub returns-in-Err-clause-disk : goal.returns-in-Err-clause-disk
returns-in-Err-clause-disk c = λ t.
    let past = c.args.self.now.past.items in let past' = c.remember.new.past.items in let m = c.args.self.now.files in let m' = c.write.new.files in
    write_stopped _ _ _ (Err c.tell_short.result) (view_of past m) (view_of past' m') (kept_files past past' m m' (time past past' m m' c.in_ok-remember.ensures.ok) c.in-Err.ensures.err)
    (synced_files past past' m m' c.in-Err.ensures.err) refl

pub returns-in-Ok-clause-disk : goal.returns-in-Ok-clause-disk
returns-in-Ok-clause-disk c = λ t.
    let past = c.args.self.now.past.items in let past' = c.remember.new.past.items in let m = c.args.self.now.files in let m' = c.write.new.files in
    wrote past past' m m' (time past past' m m' c.in_ok-remember.ensures.ok) c.args.name.now c.args.at c.args.bytes.now (c.requires tt) c.in-Ok.ensures.ok
