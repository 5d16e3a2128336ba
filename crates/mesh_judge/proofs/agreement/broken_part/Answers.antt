use Rattle.mesh.specs.Agree.{operator_of, record_of}
use Rattle.mesh.specs.Makers.{IsOperators}
use Rattle.mesh_judge.specs.Parts.{IsSized, RecordsWithin, HistoriesWithin, AreLocal, AllSame, AllGoByPlan, AllMade}
use Rattle.mesh_judge.proofs.Deciding.{holds, fails}
use Rattle.mesh_judge.proofs.Broken.{all_kept}
use Rattle.mesh_judge.proofs.agreement.broken_part.Goals as goal

pub returns-then-not-is_sized : goal.returns-then-not-is_sized
returns-then-not-is_sized c = (tt, fails (IsSized c.args.mesh.now) c.is_sized.result c.if-not-is_sized.true c.is_sized.ensures)

pub returns-then-not-are_records_within : goal.returns-then-not-are_records_within
returns-then-not-are_records_within c = (
  holds (IsSized c.args.mesh.now) c.is_sized.result c.if-not-is_sized.false c.is_sized.ensures,
  fails (RecordsWithin c.args.mesh.now) c.are_records_within.result c.if-not-are_records_within.true c.are_records_within.ensures,
)

pub returns-then-not-are_histories_within : goal.returns-then-not-are_histories_within
returns-then-not-are_histories_within c = (
  (
    holds (IsSized c.args.mesh.now) c.is_sized.result c.if-not-is_sized.false c.is_sized.ensures,
    holds (RecordsWithin c.args.mesh.now) c.are_records_within.result c.if-not-are_records_within.false c.are_records_within.ensures,
  ),
  fails (HistoriesWithin c.args.mesh.now) c.are_histories_within.result c.if-not-are_histories_within.true c.are_histories_within.ensures,
)

pub returns-then-not-does_operate : goal.returns-then-not-does_operate
returns-then-not-does_operate c = (
  (
    holds (IsSized c.args.mesh.now) c.is_sized.result c.if-not-is_sized.false c.is_sized.ensures,
    holds (RecordsWithin c.args.mesh.now) c.are_records_within.result c.if-not-are_records_within.false c.are_records_within.ensures,
    holds (HistoriesWithin c.args.mesh.now) c.are_histories_within.result c.if-not-are_histories_within.false c.are_histories_within.ensures,
  ),
  fails (IsOperators (record_of c.args.mesh.now (operator_of c.args.mesh.now))) c.does_operate.result c.if-not-does_operate.true c.does_operate.ensures,
)

pub returns-then-not-is_local : goal.returns-then-not-is_local
returns-then-not-is_local c = (
  (
    holds (IsSized c.args.mesh.now) c.is_sized.result c.if-not-is_sized.false c.is_sized.ensures,
    holds (RecordsWithin c.args.mesh.now) c.are_records_within.result c.if-not-are_records_within.false c.are_records_within.ensures,
    holds (HistoriesWithin c.args.mesh.now) c.are_histories_within.result c.if-not-are_histories_within.false c.are_histories_within.ensures,
    holds (IsOperators (record_of c.args.mesh.now (operator_of c.args.mesh.now))) c.does_operate.result c.if-not-does_operate.false c.does_operate.ensures,
  ),
  fails (AreLocal c.args.mesh.now) c.in_ok-is_local.is_local c.if-not-is_local.true c.in_ok-is_local.ensures,
)

pub returns-then-not-is_same : goal.returns-then-not-is_same
returns-then-not-is_same c = (
  (
    holds (IsSized c.args.mesh.now) c.is_sized.result c.if-not-is_sized.false c.is_sized.ensures,
    holds (RecordsWithin c.args.mesh.now) c.are_records_within.result c.if-not-are_records_within.false c.are_records_within.ensures,
    holds (HistoriesWithin c.args.mesh.now) c.are_histories_within.result c.if-not-are_histories_within.false c.are_histories_within.ensures,
    holds (IsOperators (record_of c.args.mesh.now (operator_of c.args.mesh.now))) c.does_operate.result c.if-not-does_operate.false c.does_operate.ensures,
    holds (AreLocal c.args.mesh.now) c.in_ok-is_local.is_local c.if-not-is_local.false c.in_ok-is_local.ensures,
  ),
  fails (AllSame c.args.mesh.now) c.in_ok-is_same.is_same c.if-not-is_same.true c.in_ok-is_same.ensures,
)

pub returns-then-not-is_planned : goal.returns-then-not-is_planned
returns-then-not-is_planned c = (
  (
    holds (IsSized c.args.mesh.now) c.is_sized.result c.if-not-is_sized.false c.is_sized.ensures,
    holds (RecordsWithin c.args.mesh.now) c.are_records_within.result c.if-not-are_records_within.false c.are_records_within.ensures,
    holds (HistoriesWithin c.args.mesh.now) c.are_histories_within.result c.if-not-are_histories_within.false c.are_histories_within.ensures,
    holds (IsOperators (record_of c.args.mesh.now (operator_of c.args.mesh.now))) c.does_operate.result c.if-not-does_operate.false c.does_operate.ensures,
    holds (AreLocal c.args.mesh.now) c.in_ok-is_local.is_local c.if-not-is_local.false c.in_ok-is_local.ensures,
    holds (AllSame c.args.mesh.now) c.in_ok-is_same.is_same c.if-not-is_same.false c.in_ok-is_same.ensures,
  ),
  fails (AllGoByPlan c.args.mesh.now) c.in_ok-is_planned.is_planned c.if-not-is_planned.true c.in_ok-is_planned.ensures,
)

pub returns-then-not-is_made : goal.returns-then-not-is_made
returns-then-not-is_made c = (
  (
    holds (IsSized c.args.mesh.now) c.is_sized.result c.if-not-is_sized.false c.is_sized.ensures,
    holds (RecordsWithin c.args.mesh.now) c.are_records_within.result c.if-not-are_records_within.false c.are_records_within.ensures,
    holds (HistoriesWithin c.args.mesh.now) c.are_histories_within.result c.if-not-are_histories_within.false c.are_histories_within.ensures,
    holds (IsOperators (record_of c.args.mesh.now (operator_of c.args.mesh.now))) c.does_operate.result c.if-not-does_operate.false c.does_operate.ensures,
    holds (AreLocal c.args.mesh.now) c.in_ok-is_local.is_local c.if-not-is_local.false c.in_ok-is_local.ensures,
    holds (AllSame c.args.mesh.now) c.in_ok-is_same.is_same c.if-not-is_same.false c.in_ok-is_same.ensures,
    holds (AllGoByPlan c.args.mesh.now) c.in_ok-is_planned.is_planned c.if-not-is_planned.false c.in_ok-is_planned.ensures,
  ),
  fails (AllMade c.args.mesh.now) c.in_ok-is_made.is_made c.if-not-is_made.true c.in_ok-is_made.ensures,
)

pub returns : goal.returns
returns c =
    all_kept c.args.mesh.now (holds (IsSized c.args.mesh.now) c.is_sized.result c.if-not-is_sized.false c.is_sized.ensures)
    (holds (RecordsWithin c.args.mesh.now) c.are_records_within.result c.if-not-are_records_within.false c.are_records_within.ensures)
    (holds (HistoriesWithin c.args.mesh.now) c.are_histories_within.result c.if-not-are_histories_within.false c.are_histories_within.ensures)
    (holds (IsOperators (record_of c.args.mesh.now (operator_of c.args.mesh.now))) c.does_operate.result c.if-not-does_operate.false c.does_operate.ensures)
    (holds (AreLocal c.args.mesh.now) c.in_ok-is_local.is_local c.if-not-is_local.false c.in_ok-is_local.ensures)
    (holds (AllSame c.args.mesh.now) c.in_ok-is_same.is_same c.if-not-is_same.false c.in_ok-is_same.ensures)
    (holds (AllGoByPlan c.args.mesh.now) c.in_ok-is_planned.is_planned c.if-not-is_planned.false c.in_ok-is_planned.ensures)
    (holds (AllMade c.args.mesh.now) c.in_ok-is_made.is_made c.if-not-is_made.false c.in_ok-is_made.ensures)
