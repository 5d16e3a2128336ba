use Rattle.std.proofs.Common.{◌≡◌, List, [], sym, ap, ◌∙◌, subst}
use Rattle.std.proofs.lemmas.List.Sums.{fold_push}
use Rattle.base_disk.specs.MemDisk.{disk_view}
use Rattle.ns_edits.specs.Replay.{Image}
use Rattle.play_standby.specs.Disks.{HoldsImages}
use Rattle.play_standby.specs.Saves.{one_saved, kept_of_saves}
use Rattle.play_standby.proofs.saved_images.SavedImages.save.Goals as goal

pub invariant_of-self-in-Ok : goal.invariant_of-self-in-Ok
invariant_of-self-in-Ok c =
    let before : List Image = kept_of_saves c.self.inside.saves.items in
    let kept : kept_of_saves c.push.new.self.items ≡ one_saved before c.args.standby.now =
    ap kept_of_saves c.in_ok-push.ensures.items ∙ fold_push (λ images s. one_saved images s.value) [] c.self.inside.saves.items c.of.result ∙ ap (one_saved before) c.of.ensures in
    record {
      steady = c.in-Ok.ensures.call.cause.steady c.self.invariant.steady;
      holds = subst (HoldsImages (disk_view c.checkpoint.new.images).seen) (sym kept) (c.in-Ok.ensures.saved tt before c.self.invariant.holds);
    }
