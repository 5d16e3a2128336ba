use Rattle.std.proofs.Common.{◌≡◌, ℕ, List, Option, sym, subst}
use Rattle.std.specs.Prelude.{Result, IfOk}
use Rattle.std.specs.declared.alloc.AllocError.{AllocError}
use Rattle.ns_edits.specs.Replay.{Image}
use Rattle.ns_store.specs.Answers.{IsKeptFrom}
use Rattle.ns_store.specs.declared.kept_answer.MinToKeep.{MinToKeep}
use Rattle.ns_store.specs.declared.kept_answer.MinToKeep.TheVariants as kept
use Rattle.base_disk.specs.MemDisk.{disk_view}
use Rattle.play_names.specs.Holding.{min_to_keep}
use Rattle.play_standby.specs.Disks.{IsMinOf}
use Rattle.play_standby.specs.Saves.{kept_of_saves}
use Rattle.play_standby.proofs.SaveLaws.{least_kept}
use Rattle.play_standby.proofs.saved_images.SavedImages.min_to_keep.Goals.{in-Min, in-NoImage, in-OutOfMemory}
use Rattle.play_standby.proofs.saved_images.SavedImages.min_to_keep.Goals as goal

pub returns-clause-least : goal.returns-clause-least
returns-clause-least c =
    let least : (answer : MinToKeep) → IsKeptFrom (disk_view c.self.inside.disk).seen c.args.extra answer → IsMinOf (min_to_keep c.args.extra c.args.self.now) answer = λ answer kept.
    subst (λ (images : List Image). IsMinOf (min_to_keep c.args.extra images) answer) c.self.view_is
    (least_kept c.self.inside.disk (kept_of_saves c.self.inside.saves.items) c.args.extra answer c.self.invariant kept) in
    let P : Result (Option ℕ) AllocError → Type 0 = λ r. IfOk r (λ l. l ≡ min_to_keep c.args.extra c.args.self.now) in
    elim c.match-min_to_keep.branch [
      | in-Min w ↦ subst P (sym w.result-is) (sym (least (kept.Min w.in-Min.txid) (w.in-Min.ensures.kept tt)))
      | in-NoImage w ↦ subst P (sym w.result-is) (sym (least kept.NoImage (w.in-NoImage.ensures.kept tt)))
      | in-OutOfMemory w ↦ subst P (sym w.result-is) tt
    ]
