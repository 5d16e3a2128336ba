use Rattle.std.proofs.Common.{sym, ◌∙◌}
use Rattle.play_script.proofs.ReadLaws.{takes_silent, first_taken, later_taken, later_broken, later_takes, said_some}
use Rattle.play_script.proofs.reading.Reading.take_line.Goals as goal

pub returns-then-is_silent-clause-taken : goal.returns-then-is_silent-clause-taken
returns-then-is_silent-clause-taken c =
    takes_silent c.args.self.now c.args.line.now c.requires (sym c.is_line.ensures ∙ c.if-not-is_line.false) (sym c.is_silent.ensures ∙ c.if-is_silent.true)

pub returns-in-Some-clause-broken : goal.returns-in-Some-clause-broken
returns-in-Some-clause-broken c =
    later_broken c.args.self.now c.self.inside.said c.self.inside.lines.items c.in-Some.said c.args.line.now c.add_line.result c.self.view_is c.in-Some.is
    (sym c.is_line.ensures ∙ c.if-not-is_line.false) (sym c.is_silent.ensures ∙ c.if-is_silent.false) c.add_line.ensures.broken

pub returns-in-Some-clause-taken : goal.returns-in-Some-clause-taken
returns-in-Some-clause-taken c =
    later_taken c.args.self.now c.self.inside.said c.self.inside.lines.items c.add_line.new.lines.items c.in-Some.said c.add_line.new.said
    c.args.line.now c.add_line.result c.self.view_is c.in-Some.is c.requires
    (sym c.is_line.ensures ∙ c.if-not-is_line.false) (sym c.is_silent.ensures ∙ c.if-is_silent.false) c.add_line.ensures.taken

pub returns-in-Some-said_first-clause-taken : goal.returns-in-Some-said_first-clause-taken
returns-in-Some-said_first-clause-taken c =
    first_taken c.args.self.now c.self.inside.said c.self.inside.lines.items c.in-Some-said_first.said c.args.line.now c.self.view_is c.in-None.is c.requires
    (sym c.is_line.ensures ∙ c.if-not-is_line.false) (sym c.is_silent.ensures ∙ c.if-is_silent.false) (sym c.in-Some-said_first.ensures)

pub returns-in-Some-clause-memory : goal.returns-in-Some-clause-memory
returns-in-Some-clause-memory c =
    later_takes c.args.self.now c.self.inside.said c.self.inside.lines.items c.in-Some.said c.args.line.now c.add_line.result c.self.view_is c.in-Some.is
    (sym c.is_line.ensures ∙ c.if-not-is_line.false) (sym c.is_silent.ensures ∙ c.if-is_silent.false) c.add_line.ensures.memory

pub returns-in-Some-clause-first : goal.returns-in-Some-clause-first
returns-in-Some-clause-first c =
    λ e. absurd (said_some c.args.self.now c.self.inside.said c.self.inside.lines.items c.in-Some.said c.self.view_is c.in-Some.is e)
