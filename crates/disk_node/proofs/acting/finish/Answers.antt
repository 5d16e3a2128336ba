use Rattle.std.proofs.Common.{refl}
use Rattle.disk_node.specs.Node.{state_behind}
use Rattle.journal_core.specs.declared.reply.Reply.TheVariants.{Refused}
use Rattle.journal_core.specs.declared.refusal.Refusal.TheVariants.{DiskFault, OutOfMemory}
use Rattle.disk_node.proofs.ActingDone.{has_up, once_of}
use Rattle.disk_node.proofs.ActingAnswer.{answer_done, answer_fault, answer_memory, stopped_answer, stable_behind, caused}
use Rattle.disk_node.proofs.acting.finish.Goals as goal

pub returns-in-Ok-clause-answer : goal.returns-in-Ok-clause-answer
returns-in-Ok-clause-answer g c = λ t s up is. (
  state_behind s c.args.request.now,
  has_up (g.D.DiskModel.view c.carry_out.new.disk) c.carry_out.new.memory.numbers c.carry_out.new.memory.table (state_behind s c.args.request.now) c.in-Ok.ensures.up (c.in-Ok.ensures.done t s up),
  answer_done s c.args.request.now c.args.reply (once_of c.requires.planned refl up) c.requires.own is,
)

pub returns-in-Ok-clause-stable : goal.returns-in-Ok-clause-stable
returns-in-Ok-clause-stable g c = λ t s up own.
    stable_behind (g.D.DiskModel.view c.carry_out.new.disk) c.carry_out.new.memory.numbers c.carry_out.new.memory.table s c.args.request.now (c.in-Ok.ensures.done t s up)

pub returns-in-Ok-clause-cause : goal.returns-in-Ok-clause-cause
returns-in-Ok-clause-cause g c =
    caused (g.D.DiskModel.faults c.args.disk.now) (g.D.DiskModel.faults c.carry_out.new.disk) (g.D.DiskModel.steady c.args.disk.now)
    (g.D.DiskModel.steady c.carry_out.new.disk) c.carry_out.result c.args.reply (λ e. absurd (c.requires.own.disk e))
    c.carry_out.ensures.call.cause

pub returns-in-Err-Failed-clause-answer : goal.returns-in-Err-Failed-clause-answer
returns-in-Err-Failed-clause-answer g c = λ t s up is.
    stopped_answer (g.D.DiskModel.view c.carry_out.new.disk) c.carry_out.new.memory.numbers c.carry_out.new.memory.table s c.args.request.now (Refused DiskFault)
    c.in-Err-Failed.ensures.down (answer_fault s c.args.request.now) (c.in-Err-Failed.ensures.stopped t s up)

pub returns-clause-answer : goal.returns-clause-answer
returns-clause-answer g c = λ t s up is.
    stopped_answer (g.D.DiskModel.view c.carry_out.new.disk) c.carry_out.new.memory.numbers c.carry_out.new.memory.table s c.args.request.now (Refused OutOfMemory)
    c.in-Err-OutOfMemory.ensures.down (answer_memory s c.args.request.now) (c.in-Err-OutOfMemory.ensures.stopped t s up)
