use Rattle.std.proofs.Common.{rules, arith}
use Rattle.base_files.proofs.RecordLaws.{none_always, parts_of_record, from_parts}
use Rattle.base_files.proofs.grammar.read_record.Goals as goal
use Rattle.base_files.proofs.grammar.read_record.Goals.{then-bytes-ne32-via-then-bytes-ne32, then-bytes-ne32-via-else-bytes-ne32+then-bytes-ne10}

pub returns-then-bytes-ne32-clause-none : goal.returns-then-bytes-ne32-clause-none
returns-then-bytes-ne32-clause-none c = λ r is.
    let parts = parts_of_record c.args.bytes.now r is.spelled in
    elim c.then-bytes-ne32.branch [ then-bytes-ne32-via-then-bytes-ne32 w ↦ omega (arith, parts.space) | then-bytes-ne32-via-else-bytes-ne32+then-bytes-ne10 w ↦ omega (arith, parts.end) ]

pub returns-in_err-epoch-clause-none : goal.returns-in_err-epoch-clause-none
returns-in_err-epoch-clause-none c = none_always c.from_residual.result _ (λ r is. c.in_err-epoch.ensures.none r.epoch is.epoch (parts_of_record c.args.bytes.now r is.spelled).first)

pub returns-in_err-end-clause-none : goal.returns-in_err-end-clause-none
returns-in_err-end-clause-none c = none_always c.from_residual-in_err-end.result _ (λ r is. c.in_err-end.ensures.none r.end is.end (parts_of_record c.args.bytes.now r is.spelled).second)

pub returns-clause-found : goal.returns-clause-found
returns-clause-found c = record {
  epoch = c.in_ok-epoch.ensures.found.0;
  end = c.in_ok-end.ensures.found.0;
  spelled = from_parts c.args.bytes.now _ _ (search rules) (record { first = c.in_ok-epoch.ensures.found.1; space = search rules; second = c.in_ok-end.ensures.found.1; end = search rules });
}
