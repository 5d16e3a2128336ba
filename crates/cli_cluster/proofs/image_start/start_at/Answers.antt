use Rattle.std.proofs.Common.{rules, ◌∙◌, List, ap, sym, subst, arith}
use Rattle.base_disk.specs.Files.{Files}
use Rattle.ns_edits.specs.Replay.{Image}
use Rattle.play_standby.specs.Saves.{one_saved}
use Rattle.cli_cluster.proofs.ImageLaws.{at_image, starts_one, starts_two}
use Rattle.cli_cluster.proofs.CauseLaws.{older_bad}
use Rattle.cli_cluster.proofs.image_start.start_at.Goals as goal
use Rattle.cli_cluster.proofs.image_start.start_at.Goals.{then-before-last+in_ok-older+in_ok-save, else-before-last}

-- the image before it was read first, or there is none
pub returns-clause-starts : goal.returns-clause-starts
returns-clause-starts g c = λ t n.
    let files : Files = (g.D.DiskModel.view c.args.disk.now).seen in
    let s1 = c.in_ok-before.ensures.stays t in
    elim c.if-before-last.branch [
      | then-before-last+in_ok-older+in_ok-save w ↦
          let s2 = w.in_ok-older.ensures.stays s1.0 in
          let told = subst (λ d. g.D.DiskModel.tells d) (sym w.disk-is) s2.0 in
          let same = ap (λ d. (g.D.DiskModel.view d).seen) w.disk-is ∙ s2.1 ∙ s1.1 in
          starts_two files c.args.last c.in_ok-before.before w.in_ok-older.older c.in_ok-standby.standby c.save-2.new.self n (c.in_ok-before.ensures.second t)
          (at_image files (g.D.DiskModel.view c.older_than.new.disk).seen c.in_ok-before.before w.in_ok-older.older s1.1 (w.in_ok-older.ensures.at s1.0))
          (at_image files (g.D.DiskModel.view c.if-before-last.disk).seen c.args.last c.in_ok-standby.standby same (c.in_ok-standby.ensures.at told))
          (c.in_ok-save-2.ensures ∙ ap (λ (is : List Image). one_saved is c.in_ok-standby.standby)
          (w.images-is ∙ w.in_ok-save.ensures ∙ ap (λ (is : List Image). one_saved is w.in_ok-older.older) c.new-images.ensures))
      | else-before-last w ↦
          let told = subst (λ d. g.D.DiskModel.tells d) (sym w.disk-is) s1.0 in
          let same = ap (λ d. (g.D.DiskModel.view d).seen) w.disk-is ∙ s1.1 in
          starts_one files c.args.last c.in_ok-before.before c.in_ok-standby.standby c.save-2.new.self n (c.in_ok-before.ensures.second t) (omega (arith, w.if-before-last))
          (at_image files (g.D.DiskModel.view c.if-before-last.disk).seen c.args.last c.in_ok-standby.standby same (c.in_ok-standby.ensures.at told))
          (c.in_ok-save-2.ensures ∙ ap (λ (is : List Image). one_saved is c.in_ok-standby.standby) (w.images-is ∙ c.new-images.ensures))
    ]

-- the older one is bad
pub returns-in_err-older-clause-fails : goal.returns-in_err-older-clause-fails
returns-in_err-older-clause-fails g c =
    older_bad g.D.DiskModel c.args.disk.now c.older_than.new.disk c.in_ok-before.before c.args.last c.from_residual-in_err-older.result c.in_err-older.field-0.0 (search rules)
    c.in_ok-before.ensures.stays c.in_ok-before.ensures.second c.in_err-older.ensures.fails
