use Rattle.std.proofs.Common.{◌≡◌, List, ℕ, subst}
use Rattle.base_files.specs.Records.{IsNumber}
use Rattle.disk_files.proofs.opening.read_number.Goals as goal

pub returns-in-Value-clause-told : goal.returns-in-Value-clause-told
returns-in-Value-clause-told g c = λ t.
    subst (λ (l : List ℕ). IsNumber ((g.D.DiskModel.view c.args.disk.now).seen l) c.in-Value.value) c.name.ensures (c.in-Value.ensures.value t)

pub returns-in-BadFile-clause-told : goal.returns-in-BadFile-clause-told
returns-in-BadFile-clause-told g c = λ t.
    subst (λ (l : List ℕ). (c.in-BadFile.name ≡ l) × ((k : ℕ) → IsNumber ((g.D.DiskModel.view c.args.disk.now).seen l) k → ⊥)) c.name.ensures (c.in-BadFile.ensures.value t)
