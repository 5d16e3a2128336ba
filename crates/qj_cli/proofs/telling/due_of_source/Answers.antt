use Rattle.std.proofs.Common.{ℕ, List, refl, subst}
use Rattle.std.proofs.lemmas.Result.{IfOk-weaker, IfErr-weaker}
use Rattle.qj_cli.specs.Due.{IsFaultOf}
use Rattle.qj_cli.specs.States.{AreDueOf}
use Rattle.qj_cli.proofs.JudgeLaws.{read_report, too_long, fault_is}
use Rattle.qj_cli.proofs.StateLaws.{states_due}
use Rattle.qj_cli.proofs.telling.due_of_source.Goals as goal

pub returns-in-TooLong-clause-fault : goal.returns-in-TooLong-clause-fault
returns-in-TooLong-clause-fault g c = too_long _ (c.in-TooLong.ensures.too_long refl) (c.in-TooLong.ensures.no_fault (λ e. cc e))

pub returns-in-All-clause-due : goal.returns-in-All-clause-due
returns-in-All-clause-due g c =
    IfOk-weaker c.due_of_report.result _ _
    (λ due is.
    states_due _ c.in-All.bytes.items due.status due.text.items (read_report _ c.in-All.bytes.items c.in-All.ensures.all (c.in-All.ensures.no_fault (λ e. cc e)) c.in-All.ensures.within)
    (subst (λ (bytes : List ℕ). AreDueOf bytes due.status due.text.items) c.deref.ensures.value is))
    c.due_of_report.ensures.due

pub returns-in-All-clause-fault : goal.returns-in-All-clause-fault
returns-in-All-clause-fault g c =
    IfErr-weaker c.due_of_report.result _ _
    (λ of is.
    fault_is _ c.in-All.bytes.items of (read_report _ c.in-All.bytes.items c.in-All.ensures.all (c.in-All.ensures.no_fault (λ e. cc e)) c.in-All.ensures.within)
    (subst (λ (bytes : List ℕ). IsFaultOf bytes of) c.deref.ensures.value is))
    c.due_of_report.ensures.fault

pub returns-in-OutOfMemory-clause-fault : goal.returns-in-OutOfMemory-clause-fault
returns-in-OutOfMemory-clause-fault g c = c.in-OutOfMemory.ensures.no_fault (λ e. cc e)
