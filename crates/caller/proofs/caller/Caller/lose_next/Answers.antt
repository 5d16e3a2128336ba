use Rattle.journal_history.specs.declared.mark.MarkKind.TheVariants as kind
use Rattle.caller.proofs.CallLaws.{marked_later}
use Rattle.caller.proofs.caller.Caller.lose_next.Goals as goal

pub returns-then-mute-clause-later : goal.returns-then-mute-clause-later
returns-then-mute-clause-later g c =
    marked_later g.W.WireModel g.met.W.Wire.readies_none c.mute_next.result c.args.self.now c.self.inside.log c.self.inside.wire c.mute_next.new.self c.args.node c.args.next kind.Muted c.self.view_is c.mute_next.ensures.ok

pub returns-else-mute-clause-later : goal.returns-else-mute-clause-later
returns-else-mute-clause-later g c =
    marked_later g.W.WireModel g.met.W.Wire.readies_none c.drop_next.result c.args.self.now c.self.inside.log c.self.inside.wire c.drop_next.new.self c.args.node c.args.next kind.Dropped c.self.view_is c.drop_next.ensures.ok
