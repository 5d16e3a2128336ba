use Rattle.play_standby.proofs.OpenLaws.{taken_at}
use Rattle.play_standby.proofs.images.load_image.Goals as goal

pub returns-in-Ok-clause-loaded : goal.returns-in-Ok-clause-loaded
returns-in-Ok-clause-loaded g c =
    λ told. taken_at (g.D.DiskModel.view c.args.images.now).seen c.args.txid c.in-Ok.loaded c.become_loaded.new.standby c.become_loaded.result
    (c.in-Ok.ensures.loaded told) c.become_loaded.ensures.loaded
