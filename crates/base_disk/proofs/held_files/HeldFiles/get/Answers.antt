use Rattle.std.proofs.Common.{◌≡◌, ◌≢◌, ◌∙◌, sym}
use Rattle.std.specs.Prelude.{Some, string_bytes}
use Rattle.std.proofs.lemmas.Slice.Eq.{bytes_eq-Decides}
use Rattle.base_disk.proofs.Maps.{apart}
use Rattle.base_disk.proofs.LastFiles.{got_last, got_other}
use Rattle.base_disk.proofs.held_files.HeldFiles.get.Goals as goal

pub returns-then-eq : goal.returns-then-eq
returns-then-eq c =
    let is : Some c.in-Some.last ≡ c.self.inside.last = cc c.in-Some.is in
    let same : string_bytes c.in-Some.last.name ≡ c.args.name.now = sym c.as_str.ensures.value ∙ (bytes_eq-Decides c.as_str.result.now c.args.name.now).0 (sym c.if-eq.ensures) in
    got_last c.args.self.now c.self.inside.placed.entries c.self.inside.last c.in-Some.last c.args.name.now c.self.view_is is same c.self.invariant

pub returns : goal.returns
returns c =
    let is : Some c.in-Some.last ≡ c.self.inside.last = cc c.in-Some.is in
    let ne : c.args.name.now ≢ string_bytes c.in-Some.last.name = λ same. apart c.as_str.result.now c.args.name.now (sym c.if-eq.ensures) (c.as_str.ensures.value ∙ sym same) in
    got_other c.args.self.now c.self.inside.placed.entries c.self.inside.last c.in-Some.last c.args.name.now _ c.self.view_is is ne c.get-2.ensures.value
