use Rattle.std.proofs.Common.{refl}
use Rattle.play_standby.proofs.StepLaws.{passes_begin}
use Rattle.play_standby.proofs.standby.Standby.pass_on.Goals as goal

pub loop-alloc-init : goal.loop-alloc-init
loop-alloc-init g c = (
  passes_begin (g.P.Peers.nodes c.args.peers.now) c.args.until (g.P.Peers.calls c.args.peers.now) c.new-told.result.items c.args.self.now c.begin_pass-step.result c.requires.some
      c.new-told.ensures.items c.begin_pass-step.ensures.going c.begin_pass-step.ensures.step,
  refl,
  g.met.P.Peers.called_none c.args.peers.now,
)
