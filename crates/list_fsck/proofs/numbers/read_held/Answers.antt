use Rattle.std.proofs.Common.{ℕ, List, sym, subst, rules}
use Rattle.std.specs.Prelude.{Option, Result, IfOk}
use Rattle.base_disk.specs.Calls.{HasCause}
use Rattle.base_disk.specs.declared.disk.DiskFail.{DiskFail}
use Rattle.base_files.specs.Answers.{GotOf}
use Rattle.disk_files.specs.Durable.{number_name}
use Rattle.list_fsck.specs.Steps.{HeldIn}
use Rattle.list_fsck.proofs.NumberLaws.{held_right, held_cause}
use Rattle.list_fsck.proofs.numbers.read_held.Goals as goal

pub returns-clause-held : goal.returns-clause-held
returns-clause-held g c = λ t.
    let seen = (g.D.DiskModel.view c.args.disk.now).seen in
    let is = subst (λ (n : List ℕ). GotOf n (seen n) c.get.result) c.name.ensures (c.get.ensures.value t) in
    subst (λ (r : Result (Option ℕ) DiskFail). IfOk r (HeldIn (seen (number_name c.args.number)))) (sym c.held_of.ensures)
    (held_right (number_name c.args.number) (seen (number_name c.args.number)) c.get.result is)

pub returns-clause-call : goal.returns-clause-call
returns-clause-call g c = record {
  tells = search rules;
  cause =
      subst (λ (r : Result (Option ℕ) DiskFail). HasCause (g.D.DiskModel.faults c.args.disk.now) (g.D.DiskModel.faults c.get.new.disk)
      (g.D.DiskModel.steady c.args.disk.now) (g.D.DiskModel.steady c.get.new.disk) r) (sym c.held_of.ensures)
      (held_cause _ _ _ _ c.get.result c.get.ensures.call.cause);
}
