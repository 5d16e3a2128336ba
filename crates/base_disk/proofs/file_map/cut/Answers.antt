use Rattle.std.proofs.Common.{◌∙◌, ap, sym, rules}
use Rattle.std.specs.Prelude.{Some, Option, option_map}
use Rattle.base_disk.specs.FileView.{FileView, shortened}
use Rattle.base_disk.specs.FileMap.{file_in}
use Rattle.base_disk.proofs.Maps.{sets_file, sets_to, sets_same, on_err}
use Rattle.base_disk.proofs.file_map.cut.Goals as goal

pub returns-in_err-cut-clause-err : goal.returns-in_err-cut-clause-err
returns-in_err-cut-clause-err c =
    on_err _ _ (sets_same c.args.name.now (Some c.cut.new.self) _ _
    (sets_file c.args.name.now c.args.files.now (c.get_mut.follows.lender c.cut.new.self) (Some c.cut.new.self) ((c.get_mut.follows.holds c.cut.new.self).3 (search rules)))
    (sym c.in-Some.ensures.value ∙ ap (λ (f : FileView). Some f) (sym c.in_err-cut.ensures.err)))

pub returns-in_ok-cut-clause-ok : goal.returns-in_ok-cut-clause-ok
returns-in_ok-cut-clause-ok c =
    sets_to c.args.name.now (Some c.cut.new.self) (option_map (shortened c.args.to) (file_in c.args.files.now.entries c.args.name.now)) _ _
    (sets_file c.args.name.now c.args.files.now (c.get_mut.follows.lender c.cut.new.self) (Some c.cut.new.self) ((c.get_mut.follows.holds c.cut.new.self).3 (search rules)))
    (ap (λ (f : FileView). Some f) c.in_ok-cut.ensures.ok ∙ ap (λ (o : Option FileView). option_map (shortened c.args.to) o) c.in-Some.ensures.value)
