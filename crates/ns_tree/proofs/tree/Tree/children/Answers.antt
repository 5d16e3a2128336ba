use Rattle.std.proofs.Common.{◌≡◌, ◌∙◌, sym, refl, Some, false, true}
use Rattle.ns_tree.specs.Space.{find}
use Rattle.ns_tree.specs.Branches.{IsBranch}
use Rattle.std.proofs.lemmas.Result.{IfOk-weaker}
use Rattle.ns_tree.specs.Space.{is_dir_there}
use Rattle.ns_tree.specs.Branches.{grown}
use Rattle.ns_tree.proofs.BelowParts.{all_below}
use Rattle.ns_tree.proofs.Stands.{stands_found, stands_names, children_dir, children_file}
use Rattle.ns_tree.proofs.tree.Tree.children.Goals as goal

pub returns-in-Dir : goal.returns-in-Dir
returns-in-Dir c =
    let branch : IsBranch c.in-Some.branch.now = (
      c.branch.inside.inode,
      grown (λ k. k.items) (λ b. b.value) c.branch.inside.kids.entries,
      sym c.branch.view_is,
      all_below (λ k. k.items) (λ b.
          b.value) c.branch.inside.kids.entries c.branch.invariant,
    ) in
    let found : find c.args.path.now c.args.self.now ≡ Some c.branch.inside.inode = stands_found c.args.path.now c.in-Some.ensures.some.0 c.in-Some.ensures.some.1 c.args.self.now
    c.in-Some.branch.now branch c.in-Some.ensures.some.2 in
    let dir : is_dir_there (find c.args.path.now c.args.self.now) ≡ true = rw (found, c.in-Dir.is) refl in
    IfOk-weaker c.names.result _ _ (λ names is. is ∙ sym (stands_names c.args.path.now c.in-Some.ensures.some.0 c.in-Some.ensures.some.1 c.args.self.now c.in-Some.branch.now branch
    c.in-Some.ensures.some.2) ∙ sym (children_dir c.args.path.now c.args.self.now dir)) c.names.ensures

pub returns-in-File : goal.returns-in-File
returns-in-File c =
    let branch : IsBranch c.in-Some.branch.now = (
      c.branch.inside.inode,
      grown (λ k. k.items) (λ b. b.value) c.branch.inside.kids.entries,
      sym c.branch.view_is,
      all_below (λ k. k.items) (λ b.
          b.value) c.branch.inside.kids.entries c.branch.invariant,
    ) in
    let found : find c.args.path.now c.args.self.now ≡ Some c.branch.inside.inode = stands_found c.args.path.now c.in-Some.ensures.some.0 c.in-Some.ensures.some.1 c.args.self.now
    c.in-Some.branch.now branch c.in-Some.ensures.some.2 in
    let file : is_dir_there (find c.args.path.now c.args.self.now) ≡ false = rw (found, c.in-File.is) refl in
    c.new.ensures.items ∙ sym (children_file c.args.path.now c.args.self.now file)
