-- What the judgement of lists says of the bytes that they were read from.
use Rattle.std.proofs.Common.{ℕ, ◌≡◌, ◌≤◌, ◌<◌, ◌+◌, ◌-◌, List, length, ap, ◌∙◌, subst, arith, Result, Ok, Err}
use Rattle.std.specs.Prelude.{IfOk}
use Rattle.journal_history.specs.declared.mark.Mark.{Mark}
use Rattle.mesh.specs.declared.whole.Mesh.{Mesh}
use Rattle.mesh.specs.Agree.{Agrees, operator_of, history_at, record_of, plan_of}
use Rattle.mesh.specs.Laws.{OrderIsRun, OrderIsSafe}
use Rattle.mesh.specs.Makers.{IsOperators, IsOfChores}
use Rattle.mesh.specs.Matches.{reached, lines_of, AreSame, AreWithin, CallersWithin}
use Rattle.mesh_judge.specs.declared.part.Part.{Part}
use Rattle.mesh_judge.specs.declared.part.Part.TheVariants as part
use Rattle.mesh_judge.specs.Broken.{Keeps}
use Rattle.mesh_judge.proofs.Broken.{kept}
use Rattle.mesh_judge.proofs.PartLaws.{same_of}
use Rattle.mesh_judge.proofs.PlanLaws.{called}
use Rattle.report_judge.specs.declared.answer.Lists.{Lists}
use Rattle.report_judge.specs.Reads.{IsMarkedIfAny, IsReadAs}
use Rattle.report_judge.specs.declared.judgement.Judgement.{Judgement}
use Rattle.report_judge.specs.declared.judgement.Judgement.TheVariants as judgement
use Rattle.report_judge.specs.Judged.{marked_by, JudgesLists, Judges, Places}
use Rattle.report_judge.specs.Complete.{Completes}

-- lists with some marks are of as many actors as with others
as_many : (m : Mesh) (plan : List (List Mark)) → length m.plan ≡ length m.records - 1 → Agrees (marked_by m plan) → length plan ≡ length m.plan
as_many m plan sized a = omega (arith, sized, a.records)

-- what is kept with some marks is kept with those that are told
any_marks : (p : Part) (m : Mesh) (plan : List (List Mark)) → length plan ≡ length m.plan → ((c : ℕ) → c < operator_of m → IsMarkedIfAny m c) → Agrees (marked_by m plan) → Keeps p m
any_marks part.Sizes m plan e marked a = record { histories = a.histories; records = a.records ∙ ap (λ (n : ℕ). n + 1) e }
any_marks part.Nodes m plan e marked a = subst (λ (n : ℕ). (c : ℕ) → c ≤ n → AreWithin m.nodes (record_of m c)) e a.lists.within
any_marks part.Callers m plan e marked a = subst (λ (n : ℕ). (i : ℕ) → i < m.nodes → CallersWithin n (history_at m i)) e a.lists.callers
any_marks part.Operator m plan e marked a = subst (λ (n : ℕ). IsOperators (record_of m n)) e a.lists.operated
any_marks part.Histories m plan e marked a = a.lists.local
any_marks part.Calls m plan e marked a =
    subst (λ (n : ℕ). (i : ℕ) → i < m.nodes → (c : ℕ) → c ≤ n → AreSame (reached (i + 1) (record_of m c)) (lines_of c (history_at m i))) e (same_of (marked_by m plan) a)
any_marks part.Marks m plan e marked a = λ c low.
    (let there : c < length plan = omega (arith, low, e) in marked c low (a.lists.within c (omega (arith, there)))
    (called (plan_of (marked_by m plan) c) (record_of m c) (a.lists.marked c there, a.lists.copied c there)))
any_marks part.Rounds m plan e marked a = subst (λ (n : ℕ). (c : ℕ) → c < n → IsOfChores m.nodes (record_of m c)) e a.made

judged_by : OrderIsRun → OrderIsSafe → (bytes : List ℕ) (lists : Lists) (j : Judgement) → IsReadAs bytes lists → JudgesLists lists j → Judges bytes j
judged_by run safe bytes lists judgement.Agrees of a = record { lists = lists; is_read = of; agrees = a; run = run lists.mesh a; safe = safe lists.mesh a }
judged_by run safe bytes lists (judgement.Disagrees found) of b = record {
  lists = lists;
  is_read = of;
  breaks = b.0;
  apart = λ a. b.0.1 (kept found.part lists.mesh a);
  others = λ plan a. b.0.1 (any_marks found.part lists.mesh plan (as_many lists.mesh plan of.sized a) of.marked a);
}
judged_by run safe bytes lists (judgement.Bad line rule) of n = absurd n

-- where the judgement of the lists came
pub judged : {E : Type 0} → OrderIsRun → OrderIsSafe → (bytes : List ℕ) (lists : Lists) (r : Result Judgement E) → IsReadAs bytes lists
    → IfOk r (λ j. JudgesLists lists j) → IfOk r (λ j. Judges bytes j)
judged run safe bytes lists (Ok j) of d = judged_by run safe bytes lists j of d
judged run safe bytes lists (Err e) of d = d

pub placed : {E : Type 0} (bytes : List ℕ) (lists : Lists) (r : Result Judgement E) → IsReadAs bytes lists → IfOk r (λ j. JudgesLists lists j) → IfOk r (λ j. Places bytes j)
placed bytes lists (Ok judgement.Agrees) of d = tt
placed bytes lists (Ok (judgement.Disagrees found)) of d = record { lists = lists; is_read = of; breaks = d.0; place = d.1 }
placed bytes lists (Ok (judgement.Bad line rule)) of d = tt
placed bytes lists (Err e) of d = d

-- lists are never judged bad
pub completed : {E : Type 0} (bytes : List ℕ) (lists : Lists) (r : Result Judgement E) → IfOk r (λ j. JudgesLists lists j) → IfOk r (λ j. Completes bytes j)
completed bytes lists (Ok judgement.Agrees) d = tt
completed bytes lists (Ok (judgement.Disagrees found)) d = tt
completed bytes lists (Ok (judgement.Bad line rule)) d = absurd d
completed bytes lists (Err e) d = d
