use Rattle.std.proofs.Common.{◌≡◌, ◌≢◌, ◌∙◌, ℕ, List, sym, subst}
use Rattle.std.specs.Prelude.{Some, None, Option, IsSome}
use Rattle.base_disk.specs.FileView.{FileView}
use Rattle.base_disk.specs.FileMap.{Map, file_in, SetsFile, MovesFile}
use Rattle.base_disk.proofs.Maps.{sets_file, apart}
use Rattle.base_disk.proofs.file_map.rename.Goals as goal

moves : (from to : List ℕ) (file : FileView) (m made gone new : Map) → from ≢ to → ((q : List ℕ) → q ≢ to → file_in made q ≡ file_in m q) → Some file ≡ file_in made from
    → SetsFile from None made gone → SetsFile to (Some file) gone new → MovesFile from to m new
moves from to file m made gone new ne others was removed set = record {
  moved = set.here ∙ was ∙ others from ne;
  gone = λ _. set.others from ne ∙ removed.here;
  others = λ q ne_from ne_to. set.others q ne_to ∙ removed.others q ne_from ∙ others q ne_to;
}

pub replace-requires : goal.replace-requires
replace-requires c =
    let ne : c.args.from.now ≢ c.args.to.now = apart c.args.from.now c.args.to.now (sym c.if-eq.ensures) in
    let removed : SetsFile c.args.from.now None c.make_room.new.files.entries c.remove.new.self.entries =
    sets_file c.args.from.now c.make_room.new.files c.remove.new.self None c.in-Some.ensures.updates in
    subst (λ (o : Option FileView). IsSome o) (sym (removed.others c.args.to.now (λ same. ne (sym same)))) c.in_ok-make_room.ensures.ok.0

pub returns-in-Some-clause-ok : goal.returns-in-Some-clause-ok
returns-in-Some-clause-ok c =
    let ne : c.args.from.now ≢ c.args.to.now = apart c.args.from.now c.args.to.now (sym c.if-eq.ensures) in
    let removed : SetsFile c.args.from.now None c.make_room.new.files.entries c.remove.new.self.entries =
    sets_file c.args.from.now c.make_room.new.files c.remove.new.self None c.in-Some.ensures.updates in
    moves c.args.from.now c.args.to.now c.in-Some.file c.args.files.now.entries c.make_room.new.files.entries c.remove.new.self.entries c.replace.new.files.entries ne
    c.in_ok-make_room.ensures.ok.1 c.in-Some.ensures.value removed c.replace.ensures
