use Rattle.std.proofs.Common.{sym, ◌∙◌, ap}
use Rattle.ns_tree.specs.Space.{find}
use Rattle.ns_tree.proofs.Levels.{entry_at, none_found}
use Rattle.ns_tree.proofs.branch.Branch.+find.Goals as goal

pub returns-in-Some : goal.returns-in-Some
returns-in-Some t c =
    c.find.ensures ∙ ap (find c.first_name.result.1.now) c.deref.ensures
    ∙ entry_at (λ k. k.items) (λ b. b.value) c.self.inside.inode c.self.inside.kids.entries c.args.self.now c.self.view_is c.self.invariant c.len.ensures.ordered c.args.path.now
    c.first_name.result.0.now
    c.first_name.result.1.now c.first_name.ensures.parts c.first_name.ensures.name c.first_name.ensures.rest c.in-Some.kid.now (sym c.in-Some.ensures.value)

pub returns-in-None : goal.returns-in-None
returns-in-None t c =
    sym (none_found (λ k. k.items) (λ b. b.value) c.self.inside.inode c.self.inside.kids.entries c.args.self.now c.self.view_is c.self.invariant c.len.ensures.ordered c.args.path.now
    c.first_name.result.0.now
    c.first_name.result.1.now c.first_name.ensures.parts c.first_name.ensures.name c.first_name.ensures.rest (sym c.in-None.ensures.value))
