use Rattle.std.proofs.Common.{ℕ, Result, Ok, ap, ◌∙◌}
use Rattle.disk_frame.specs.declared.frame_cause.FrameCause.{FrameCause}
use Rattle.disk_frame.proofs.ReadLaws.{entries_err, entries_ok}
use Rattle.disk_frame.proofs.checking.check_entries.Goals as goal

pub returns-in-Some-first_rule : goal.returns-in-Some-first_rule
returns-in-Some-first_rule c = entries_err c.args.next c.args.first c.args.count c.in-Some.has_bad_body c.in-Some-first_rule.cause c.args.entries.now c.in-Some.ensures c.in-Some-first_rule.ensures

pub returns-in-None-first_rule : goal.returns-in-None-first_rule
returns-in-None-first_rule c =
    let made : ℕ → Result ℕ FrameCause = λ n. Ok n in
    ap made c.from.ensures ∙ entries_ok c.args.next c.args.first c.args.count c.in-Some.has_bad_body c.args.entries.now c.in-Some.ensures c.in-None-first_rule.ensures
