use Rattle.std.proofs.Common.{◌≡◌, ◌∙◌, ◌+◌, ◌-◌, ◌≤◌, refl, ap, arith, rules, take, drop, length}
use Rattle.std.specs.Prelude.{min, max}
use Rattle.base_disk.specs.FileView.{FileView, overwritten, written}
use Rattle.base_disk.specs.Change.{content}
use Rattle.base_disk.specs.MemFile.{stage_of}
use Rattle.base_disk.specs.declared.mem_file.MemFile.TheInside.{Inside}
use Rattle.base_disk.proofs.MemFileLemmas.{written_kept, written_view}
use Rattle.base_disk.proofs.mem_file.MemFile.write.Goals as goal

pub invariant_of-self-2 : goal.invariant_of-self-2
invariant_of-self-2 c =
    let f : Inside = c.self.inside in
    let g : Inside = record { bytes = c.overwrite.new.buffer; end = c.max-self-inside.result; changes = c.push.new.self; is_new = c.self.inside.is_new } in
    let le : c.args.at ≤ length (content (stage_of f)) = omega (arith, ap (λ (v : FileView). length v.now) c.self.view_is, c.requires) in
    let over : c.min-over.result ≡ min (length c.args.bytes.now) (length f.bytes.items - c.args.at) = search rules in
    let before : c.in_ok-to_vec.field-0.items ≡ take c.min-over.result (drop c.args.at f.bytes.items) = search rules in
    let buffer : g.bytes.items ≡ overwritten c.args.at c.args.bytes.now f.bytes.items = search rules in
    let end : g.end ≡ max f.end (c.args.at + length c.args.bytes.now) = search rules in
    written_kept f g c.args.at (length c.args.bytes.now) c.min-over.result c.args.bytes.now c.in_ok-to_vec.field-0 c.self.invariant le refl over before (search rules) refl buffer end

pub returns-clause-ok : goal.returns-clause-ok
returns-clause-ok c =
    let f : Inside = c.self.inside in
    let g : Inside = record { bytes = c.overwrite.new.buffer; end = c.max-self-inside.result; changes = c.push.new.self; is_new = c.self.inside.is_new } in
    let le : c.args.at ≤ length (content (stage_of f)) = omega (arith, ap (λ (v : FileView). length v.now) c.self.view_is, c.requires) in
    let over : c.min-over.result ≡ min (length c.args.bytes.now) (length f.bytes.items - c.args.at) = search rules in
    let before : c.in_ok-to_vec.field-0.items ≡ take c.min-over.result (drop c.args.at f.bytes.items) = search rules in
    let buffer : g.bytes.items ≡ overwritten c.args.at c.args.bytes.now f.bytes.items = search rules in
    let end : g.end ≡ max f.end (c.args.at + length c.args.bytes.now) = search rules in
    written_view f g c.args.at (length c.args.bytes.now) c.min-over.result c.args.bytes.now c.in_ok-to_vec.field-0 c.self.invariant le refl over before (search rules) refl buffer end
    ∙ ap (λ (v : FileView). written c.args.at c.args.bytes.now v) c.self.view_is
