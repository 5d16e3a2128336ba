use Rattle.std.proofs.Common.{◌≡◌, ℕ, List, ◌++◌, length, ap, ◌∙◌, arith}
use Rattle.std.specs.List.{flat_map}
use Rattle.list_oiv.specs.Directory.{found_line, path_in, line_at}
use Rattle.list_oiv.proofs.Directories.{counted_and_told}
use Rattle.list_oiv.proofs.directory.directory_text.Goals as goal

pub returns : goal.returns
returns c =
    let size : c.len.result ≡ length c.in_ok-names.names.items = omega (arith, c.len.ensures, c.deref.ensures.len, ap length c.deref.ensures.value) in
    counted_and_told c.args.path.now c.args.namespace.now.pairs c.in_ok-names.names.items c.new-out.result.items c.put_count.new.out.items c.put_names.new.out.items
    c.show_invariant.ensures.ordered c.requires c.in_ok-names.ensures.names c.new-out.ensures.items
    (c.in_ok-put_count.ensures ∙ ap (λ (k : ℕ). c.new-out.result.items ++ found_line k) size)
    (c.in_ok-put_names.ensures
    ∙ ap (λ (ns : List (List ℕ)). c.put_count.new.out.items ++ flat_map (λ name. line_at c.args.namespace.now.pairs (path_in c.args.path.now name)) ns) c.deref.ensures.value)
