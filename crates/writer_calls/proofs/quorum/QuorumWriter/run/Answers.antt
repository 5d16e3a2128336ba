use Rattle.writer_calls.proofs.Comes.{going_as, going_round, going_own, inactive_as, inactive_own_as, too_long_as, too_long_own_as}
use Rattle.writer_calls.proofs.quorum.QuorumWriter.run.Goals as goal

pub returns-in-NotActive-clause-came : goal.returns-in-NotActive-clause-came
returns-in-NotActive-clause-came g c = inactive_as c.args.task c.args.self.now c.begin.new.self _ c.begin.result c.begin.ensures.begun c.in-NotActive.is

pub returns-in-NotActive-clause-own : goal.returns-in-NotActive-clause-own
returns-in-NotActive-clause-own g c = inactive_own_as c.args.task c.args.self.now c.begin.new.self c.begin.result c.begin.ensures.begun c.in-NotActive.is

pub returns-in-TooLong-clause-came : goal.returns-in-TooLong-clause-came
returns-in-TooLong-clause-came g c = too_long_as c.args.task c.args.self.now c.begin.new.self _ c.begin.result c.in-TooLong.number c.begin.ensures.begun c.in-TooLong.is

pub returns-in-TooLong-clause-own : goal.returns-in-TooLong-clause-own
returns-in-TooLong-clause-own g c = too_long_own_as c.args.task c.args.self.now c.begin.new.self c.begin.result c.in-TooLong.number c.begin.ensures.begun c.in-TooLong.is

pub go_on-requires-clause-under_way : goal.go_on-requires-clause-under_way
go_on-requires-clause-under_way g c = going_round c.args.task c.args.self.now c.begin.new.self c.begin.result c.begin.ensures.begun c.in-Going.is

pub returns-in-Going-clause-came : goal.returns-in-Going-clause-came
returns-in-Going-clause-came g c = c.go_on.ensures.came c.args.task c.args.self.now (going_as c.args.task c.args.self.now c.begin.new.self c.begin.result c.begin.ensures.begun c.in-Going.is)

pub returns-in-Going-clause-own : goal.returns-in-Going-clause-own
returns-in-Going-clause-own g c = going_own c.args.task c.args.self.now c.begin.new.self c.begin.result c.go_on.result c.begin.ensures.begun c.in-Going.is c.go_on.ensures.own
