use Rattle.std.proofs.Common.{◌∙◌, ap}
use Rattle.std.proofs.lemmas.Result.{on_ok_weaker}
use Rattle.base_disk.specs.Files.{Files}
use Rattle.base_files.proofs.PutsLemmas.{put_whole}
use Rattle.ns_store.proofs.storing.write_whole.Goals as goal

pub returns-clause-stored : goal.returns-clause-stored
returns-clause-stored g c = λ t.
    let syncs = c.sync.ensures.disk (c.write_at.ensures.call.tells.0 t) in
    let whole = put_whole _ _ _ (c.requires t) (c.in_ok-write_at.ensures.disk t).done.here in
    on_ok_weaker c.sync.result (λ stable. λ f left. stable f left ∙ ap (λ (files : Files). files c.args.name.now) syncs.keeps.seen ∙ whole) syncs.done
