use Rattle.std.proofs.Common.{◌∙◌, ap, rules}
use Rattle.std.specs.Prelude.{Some, Option, option_map}
use Rattle.base_disk.specs.FileView.{FileView, at_rest}
use Rattle.base_disk.specs.FileMap.{file_in}
use Rattle.base_disk.proofs.Maps.{sets_file, sets_to}
use Rattle.base_disk.proofs.file_map.sync.Goals as goal

pub returns-in-Some : goal.returns-in-Some
returns-in-Some c =
    sets_to c.args.name.now (Some c.sync.new.self) (option_map (λ f. at_rest f.now) (file_in c.args.files.now.entries c.args.name.now)) _ _
    (sets_file c.args.name.now c.args.files.now (c.get_mut.follows.lender c.sync.new.self) (Some c.sync.new.self) ((c.get_mut.follows.holds c.sync.new.self).3 (search rules)))
    (ap (λ (f : FileView). Some f) c.sync.ensures ∙ ap (λ (o : Option FileView). option_map (λ f. at_rest f.now) o) c.in-Some.ensures.value)
