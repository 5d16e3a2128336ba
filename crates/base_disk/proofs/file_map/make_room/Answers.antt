use Rattle.std.proofs.Common.{◌≡◌, ℕ, List, sym, subst, rules}
use Rattle.std.specs.Prelude.{Some, Option, IsSome, string_bytes}
use Rattle.base_disk.specs.FileView.{FileView}
use Rattle.base_disk.specs.FileMap.{SetsFile}
use Rattle.base_disk.proofs.Maps.{sets_file}
use Rattle.base_disk.proofs.file_map.make_room.Goals as goal

pub returns-clause-ok : goal.returns-clause-ok
returns-clause-ok c =
    let name : string_bytes c.in_ok-from_str.field-0 ≡ c.args.name.now = c.in_ok-from_str.ensures.ok in
    let sets : SetsFile c.args.name.now (Some c.in_ok-file.file) c.args.files.now.entries c.insert.new.self.entries =
    subst (λ (n : List ℕ). SetsFile n (Some c.in_ok-file.file) c.args.files.now.entries c.insert.new.self.entries) name
    (sets_file (string_bytes c.in_ok-from_str.field-0) c.args.files.now c.insert.new.self (Some c.in_ok-file.file) c.in_ok-insert.ensures.updates) in
    (subst (λ (o : Option FileView). IsSome o) (sym sets.here) (search rules), sets.others)
