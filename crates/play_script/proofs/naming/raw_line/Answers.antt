use Rattle.std.proofs.Common.{sym, ◌∙◌}
use Rattle.play_script.proofs.NamingLaws.{raw_told_here, raw_untold_here}
use Rattle.play_script.proofs.naming.raw_line.Goals as goal

pub returns-in-Some-nodes_of : goal.returns-in-Some-nodes_of
returns-in-Some-nodes_of c =
    sym (raw_told_here c.loop-line.number c.loop-line.rest.now c.in-Some.line.now c.in-Some.others.now c.in-Some.ensures.spelled c.in-Some.ensures.first c.nodes_of.result c.in-Some-nodes_of.field-0
    (sym c.is_line.ensures ∙ c.if-not-is_line.false) (sym c.is_silent.ensures ∙ c.if-not-is_silent.true) c.nodes_of.ensures c.in-Some-nodes_of.is)
    ∙ c.loop-line.invariant.found

pub returns-in-None : goal.returns-in-None
returns-in-None c =
    sym (raw_untold_here c.loop-line.number c.loop-line.rest.now c.in-Some.line.now c.in-Some.others.now c.in-Some.ensures.spelled c.in-Some.ensures.first c.nodes_of.result
    (sym c.is_line.ensures ∙ c.if-not-is_line.false) (sym c.is_silent.ensures ∙ c.if-not-is_silent.true) c.nodes_of.ensures c.in-None.is)
    ∙ c.loop-line.invariant.found
