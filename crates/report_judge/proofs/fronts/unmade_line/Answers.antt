use Rattle.std.proofs.Common.{ℕ, List, [], Decides, length, ap, ◌∙◌, subst, arith}
use Rattle.std.specs.Prelude.{slice_index_or}
use Rattle.journal_history.specs.declared.record.Record.{Record}
use Rattle.mesh.specs.Agree.{record_of}
use Rattle.mesh_judge.proofs.Deciding.{holds, below_more}
use Rattle.report_judge.specs.declared.fronts.Caller.TheVariants as caller
use Rattle.report_judge.specs.Places.{AreOf}
use Rattle.report_judge.proofs.fronts.unmade_line.Goals as goal

pub loop-caller-preserved : goal.loop-caller-preserved
loop-caller-preserved c =
    let lines = c.lines_of-lines.ensures ∙ ap (λ (t : List (List Record)). slice_index_or t c.loop-caller.caller []) c.as_slice-records.ensures in
    let made = subst (λ (rs : List Record). Decides c.in_ok-is_made.is_made (AreOf caller.Actor c.args.mesh.now.nodes rs)) lines c.in_ok-is_made.ensures in
    below_more (λ (d : ℕ). AreOf caller.Actor c.args.mesh.now.nodes (record_of c.args.mesh.now d)) c.loop-caller.caller
    (holds (AreOf caller.Actor c.args.mesh.now.nodes (record_of c.args.mesh.now c.loop-caller.caller)) c.in_ok-is_made.is_made c.if-not-is_made.false made) c.loop-caller.invariant

pub returns : goal.returns
returns c = λ d low. (c.loop-caller.invariant d (omega (arith, low, c.loop-caller-test.false, ap length c.as_slice-caller-end.ensures))).1
