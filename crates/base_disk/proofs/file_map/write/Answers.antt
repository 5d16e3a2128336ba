use Rattle.std.proofs.Common.{◌≡◌, ◌∙◌, ℕ, List, ap, sym, subst, rules}
use Rattle.std.specs.Prelude.{Some, None, Option, string_bytes}
use Rattle.std.specs.BTreeMap.{BTreeMap, UpdatesBy}
use Rattle.std.specs.declared.string.String.{String}
use Rattle.std.specs.declared.alloc.Global.{Global}
use Rattle.std.specs.Cmp.Lexicographic.{slice_cmp}
use Rattle.std.specs.Ordering.{nat_cmp}
use Rattle.std.specs.String.{string_cmp}
use Rattle.base_disk.specs.FileView.{FileView}
use Rattle.base_disk.specs.FileMap.{file_in, written_in, SetsFile}
use Rattle.base_disk.proofs.Maps.{sets_file, sets_to, sets_same, on_err}
use Rattle.base_disk.proofs.file_map.write.Goals as goal

pub returns-in_err-write-in-Some-clause-err : goal.returns-in_err-write-in-Some-clause-err
returns-in_err-write-in-Some-clause-err c =
    on_err _ _ (sets_same c.args.name.now (Some c.write.new.self) _ _
    (sets_file c.args.name.now c.args.files.now (c.get_mut.follows.lender c.write.new.self) (Some c.write.new.self) ((c.get_mut.follows.holds c.write.new.self).3 (search rules)))
    (sym c.in-Some.ensures.value ∙ ap (λ (f : FileView). Some f) (sym c.in_err-write-in-Some.ensures.err)))

pub returns-in_ok-write-in-Some-clause-ok : goal.returns-in_ok-write-in-Some-clause-ok
returns-in_ok-write-in-Some-clause-ok c =
    sets_to c.args.name.now (Some c.write.new.self) (Some (written_in c.args.at c.args.bytes.now (file_in c.args.files.now.entries c.args.name.now)))
    _ _
    (sets_file c.args.name.now c.args.files.now (c.get_mut.follows.lender c.write.new.self) (Some c.write.new.self) ((c.get_mut.follows.holds c.write.new.self).3 (search rules)))
    (ap (λ (f : FileView). Some f) (c.in_ok-write-in-Some.ensures.ok ∙ ap (λ (o : Option FileView). written_in c.args.at c.args.bytes.now o) c.in-Some.ensures.value))

pub returns-in_ok-insert-in-None-clause-ok : goal.returns-in_ok-insert-in-None-clause-ok
returns-in_ok-insert-in-None-clause-ok c =
    let name : string_bytes c.in_ok-from_str-in-None.field-0 ≡ c.args.name.now = c.in_ok-from_str-in-None.ensures.ok in
    let none : file_in c.args.files.now.entries c.args.name.now ≡ None = sym c.in-None.ensures.value in
    subst (λ (n : List ℕ). SetsFile n (Some (written_in c.args.at c.args.bytes.now (file_in c.args.files.now.entries c.args.name.now))) c.args.files.now.entries c.insert.new.self.entries) name
    (sets_to (string_bytes c.in_ok-from_str-in-None.field-0) (Some c.in_ok-file-in-None.file)
    (Some (written_in c.args.at c.args.bytes.now (file_in c.args.files.now.entries c.args.name.now))) _ _
    (sets_file (string_bytes c.in_ok-from_str-in-None.field-0) c.args.files.now c.insert.new.self (Some c.in_ok-file-in-None.file)
    (subst (λ (m : BTreeMap (String Global) FileView). UpdatesBy string_cmp (λ k. slice_cmp nat_cmp (string_bytes c.in_ok-from_str-in-None.field-0) (string_bytes k)) m
    c.insert.new.self (Some c.in_ok-file-in-None.file)) c.get_mut.follows.holds-at-none c.in_ok-insert-in-None.ensures.updates))
    (ap (λ (f : FileView). Some f) (c.in_ok-file-in-None.ensures ∙ ap (λ (o : Option FileView). written_in c.args.at c.args.bytes.now o) (sym none))))
