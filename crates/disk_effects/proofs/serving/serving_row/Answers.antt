use Rattle.disk_effects.proofs.ServingTold.{serving_told, serving_none}
use Rattle.disk_effects.proofs.serving.serving_row.Goals as goal

pub returns-in-Some : goal.returns-in-Some
returns-in-Some c = λ gs t.
    rw (c.row_line.ensures, c.row_count.ensures.count)
    (serving_told c.args.memory.now c.args.from gs c.args.table.now c.in-Some.row t c.find_serving.ensures.sound c.in-Some.ensures.row)

pub returns-in-None : goal.returns-in-None
returns-in-None c = λ gs t. serving_none c.args.memory.now c.args.from gs c.args.table.now t c.find_serving.ensures.sound c.in-None.ensures.row
