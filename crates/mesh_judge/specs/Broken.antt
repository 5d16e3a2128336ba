-- A part of agreement that doesn't hold, and the first.
use Rattle.mesh.specs.declared.whole.Mesh.{Mesh}
use Rattle.mesh.specs.Agree.{operator_of, record_of}
use Rattle.mesh.specs.Makers.{IsOperators}
use Rattle.mesh_judge.specs.declared.part.Part.{Part}
use Rattle.mesh_judge.specs.declared.part.Part.TheVariants as part
use Rattle.mesh_judge.specs.Parts.{IsSized, RecordsWithin, HistoriesWithin, AreLocal, AllSame, AllGoByPlan, AllMade}

abbrev pub Keeps : Part → Mesh → Type 0
Keeps part.Sizes m = IsSized m
Keeps part.Nodes m = RecordsWithin m
Keeps part.Callers m = HistoriesWithin m
Keeps part.Operator m = IsOperators (record_of m (operator_of m))
Keeps part.Histories m = AreLocal m
Keeps part.Calls m = AllSame m
Keeps part.Marks m = AllGoByPlan m
Keeps part.Rounds m = AllMade m

abbrev pub Breaks : Part → Mesh → Type 0
Breaks p m = Keeps p m → ⊥

-- the parts that are judged before this one hold
abbrev pub KeepsBefore : Part → Mesh → Type 0
KeepsBefore part.Sizes m = Unit {0}
KeepsBefore part.Nodes m = IsSized m
KeepsBefore part.Callers m = IsSized m × RecordsWithin m
KeepsBefore part.Operator m = IsSized m × RecordsWithin m × HistoriesWithin m
KeepsBefore part.Histories m = IsSized m × RecordsWithin m × HistoriesWithin m × IsOperators (record_of m (operator_of m))
KeepsBefore part.Calls m = IsSized m × RecordsWithin m × HistoriesWithin m × IsOperators (record_of m (operator_of m)) × AreLocal m
KeepsBefore part.Marks m = IsSized m × RecordsWithin m × HistoriesWithin m × IsOperators (record_of m (operator_of m)) × AreLocal m × AllSame m
KeepsBefore part.Rounds m = IsSized m × RecordsWithin m × HistoriesWithin m × IsOperators (record_of m (operator_of m)) × AreLocal m × AllSame m × AllGoByPlan m

-- the first part that doesn't hold
abbrev pub BreaksFirst : Part → Mesh → Type 0
BreaksFirst p m = KeepsBefore p m × Breaks p m
