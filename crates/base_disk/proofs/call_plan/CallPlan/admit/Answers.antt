use Rattle.std.proofs.Common.{arith, refl, sym, rules}
use Rattle.base_disk.specs.declared.call_plan.CallPlan.{CallPlan}
use Rattle.base_disk.proofs.CallPlanLemmas.{Advances, cause_ok, cause_err, budget_ok, budget_err}
use Rattle.base_disk.proofs.call_plan.CallPlan.admit.Goals as goal

pub returns-then-is_due-clause-cause : goal.returns-then-is_due-clause-cause
returns-then-is_due-clause-cause c =
    let p : CallPlan = c.args.self.now in
    let q : CallPlan = record { made = c.saturating_add-self.result; failing = p.failing; left = c.map-self.result; faults = c.saturating_add-self-then-is_due.result } in
    let on : Advances p q = record { made = omega (arith, c.saturating_add-self.ensures); failing = refl; left = search rules } in
    cause_err p q on (sym c.if-is_due.ensures) c.saturating_add-self-then-is_due.ensures (omega arith)

pub returns-then-is_due-clause-budget : goal.returns-then-is_due-clause-budget
returns-then-is_due-clause-budget c =
    let p : CallPlan = c.args.self.now in
    let q : CallPlan = record { made = c.saturating_add-self.result; failing = p.failing; left = c.map-self.result; faults = c.saturating_add-self-then-is_due.result } in
    let on : Advances p q = record { made = omega (arith, c.saturating_add-self.ensures); failing = refl; left = search rules } in
    budget_err p q on (sym c.if-is_due.ensures)

pub returns-clause-cause : goal.returns-clause-cause
returns-clause-cause c =
    let p : CallPlan = c.args.self.now in
    let q : CallPlan = record { made = c.saturating_add-self.result; failing = p.failing; left = c.map-self.result; faults = p.faults } in
    let on : Advances p q = record { made = omega (arith, c.saturating_add-self.ensures); failing = refl; left = search rules } in
    cause_ok p q on refl

pub returns-clause-budget : goal.returns-clause-budget
returns-clause-budget c =
    let p : CallPlan = c.args.self.now in
    let q : CallPlan = record { made = c.saturating_add-self.result; failing = p.failing; left = c.map-self.result; faults = p.faults } in
    let on : Advances p q = record { made = omega (arith, c.saturating_add-self.ensures); failing = refl; left = search rules } in
    budget_ok p q on (sym c.if-is_due.ensures)
