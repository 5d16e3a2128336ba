-- The parts of agreement, one by one and together.
use Rattle.std.proofs.Common.{◌≡◌, ℕ, ◌<◌, List, [], Bool, false, Decides, length, get_or, ap, ◌∙◌, arith, Result, Ok, Err}
use Rattle.std.specs.Prelude.{IfOk}
use Rattle.std.proofs.lemmas.List.{get_or_default}
use Rattle.journal_history.specs.declared.history_line.HistoryLine.{HistoryLine}
use Rattle.journal_history.specs.declared.record.Record.{Record}
use Rattle.journal_history.specs.declared.mark.Mark.{Mark}
use Rattle.mesh.specs.declared.whole.Mesh.{Mesh}
use Rattle.mesh.specs.Agree.{Agrees, operator_of, history_at, record_of, plan_of}
use Rattle.mesh.specs.Makers.{IsOperators}
use Rattle.mesh_judge.specs.Parts.{IsSized, RecordsWithin, HistoriesWithin, AreLocal, AllSame, AllGoByPlan, AllMade}
use Rattle.mesh_judge.proofs.Deciding.{no, fails}

-- ## The lists of a mesh by number
pub history_is : (m : Mesh) (i : ℕ) (table : List (List HistoryLine)) (d lines : List HistoryLine) → table ≡ m.histories → i < length table → d ≡ get_or table i d → lines ≡ d → lines ≡ history_at m i
history_is m i table d lines whole low at is = is ∙ at ∙ ap (λ (t : List (List HistoryLine)). get_or t i d) whole ∙ get_or_default m.histories i d [] (let e = ap length whole in omega (arith, low, e))

pub line_list_is : (m : Mesh) (c : ℕ) (table : List (List Record)) (d lines : List Record) → table ≡ m.records → c < length table → d ≡ get_or table c d → lines ≡ d → lines ≡ record_of m c
line_list_is m c table d lines whole low at is = is ∙ at ∙ ap (λ (t : List (List Record)). get_or t c d) whole ∙ get_or_default m.records c d [] (let e = ap length whole in omega (arith, low, e))

pub plan_is : (m : Mesh) (c : ℕ) (table : List (List Mark)) (d marks : List Mark) → table ≡ m.plan → c < length table → d ≡ get_or table c d → marks ≡ d → marks ≡ plan_of m c
plan_is m c table d marks whole low at is = is ∙ at ∙ ap (λ (t : List (List Mark)). get_or t c d) whole ∙ get_or_default m.plan c d [] (let e = ap length whole in omega (arith, low, e))

-- ## What a mesh that agrees keeps

pub local_of : (m : Mesh) → Agrees m → AreLocal m
local_of m a = a.lists.local

pub same_of : (m : Mesh) → Agrees m → AllSame m
same_of m a i node c low = a.lists.same i c node low

pub plans_of : (m : Mesh) → Agrees m → AllGoByPlan m
plans_of m a c low = (a.lists.marked c low, a.lists.copied c low)

-- a part that fails
pub part_fails : (P : Type 0) (m : Mesh) (b : Bool) → (Agrees m → P) → b ≡ false → Decides b P → Decides false (Agrees m)
part_fails P m b part e d = no (Agrees m) (λ a. fails P b e d (part a))

-- all parts but the last hold
pub agreed : (m : Mesh) (b : Bool) → IsSized m → RecordsWithin m → HistoriesWithin m → IsOperators (record_of m (operator_of m)) → AreLocal m
    → AllSame m → AllGoByPlan m → Decides b (AllMade m) → Decides b (Agrees m)
agreed m b sized records histories operated local same plan d = (
  λ e. record {
    lists = record {
      local = local;
      operated = operated;
      same = λ i c node low. same i node c low;
      marked = λ c low. (plan c low).0;
      copied = λ c low. (plan c low).1;
      callers = histories;
      within = records;
    };
    made = d.0 e;
    histories = sized.histories;
    records = sized.records;
  },
  λ a. d.1 a.made,
)

pub agreed_ok : {E : Type 0} (m : Mesh) (r : Result Bool E) → IsSized m → RecordsWithin m → HistoriesWithin m → IsOperators (record_of m (operator_of m)) → AreLocal m → AllSame m → AllGoByPlan m
    → IfOk r (λ b. Decides b (AllMade m)) → IfOk r (λ b. Decides b (Agrees m))
agreed_ok m (Ok b) sized records histories operated local same plan d = agreed m b sized records histories operated local same plan d
agreed_ok m (Err e) sized records histories operated local same plan d = d
