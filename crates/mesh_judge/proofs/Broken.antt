-- Lists of which a part doesn't hold don't agree.
use Rattle.std.proofs.Common.{true, Decides, refl, Option, Some, None}
use Rattle.std.specs.Prelude.{MatchOption, is_none}
use Rattle.mesh.specs.declared.whole.Mesh.{Mesh}
use Rattle.mesh.specs.Agree.{Agrees, operator_of, record_of}
use Rattle.mesh.specs.Makers.{IsOperators}
use Rattle.mesh_judge.specs.declared.part.Part.{Part}
use Rattle.mesh_judge.specs.declared.part.Part.TheVariants as part
use Rattle.mesh_judge.specs.Parts.{IsSized, RecordsWithin, HistoriesWithin, AreLocal, AllSame, AllGoByPlan, AllMade}
use Rattle.mesh_judge.specs.Broken.{Keeps, BreaksFirst}
use Rattle.mesh_judge.proofs.Deciding.{yes, no}
use Rattle.mesh_judge.proofs.PartLaws.{local_of, same_of, plans_of, agreed}

pub kept : (p : Part) (m : Mesh) → Agrees m → Keeps p m
kept part.Sizes m a = record { histories = a.histories; records = a.records }
kept part.Nodes m a = a.lists.within
kept part.Callers m a = a.lists.callers
kept part.Operator m a = a.lists.operated
kept part.Histories m a = local_of m a
kept part.Calls m a = same_of m a
kept part.Marks m a = plans_of m a
kept part.Rounds m a = a.made

pub decided : (m : Mesh) (broken : Option Part) → MatchOption broken (Agrees m) (λ p. BreaksFirst p m) → Decides (is_none broken) (Agrees m)
decided m None a = yes (Agrees m) a
decided m (Some p) b = no (Agrees m) (λ a. b.1 (kept p m a))

pub all_kept : (m : Mesh) → IsSized m → RecordsWithin m → HistoriesWithin m → IsOperators (record_of m (operator_of m)) → AreLocal m → AllSame m → AllGoByPlan m → AllMade m → Agrees m
all_kept m sized records histories operated local same plan made = (agreed m true sized records histories operated local same plan (yes (AllMade m) made)).0 refl
