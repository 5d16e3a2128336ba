use Rattle.std.proofs.Common.{◌≡◌, ◌<◌, ◌∙◌, ap, sym, subst, arith, List, ℕ, length}
use Rattle.ns_tree.specs.declared.inode.Row.{Row}
use Rattle.ns_tree.specs.Path.{before_last_slash}
use Rattle.ns_tree.specs.Space.{find, is_dir_there}
use Rattle.ns_tree.proofs.Levels.{is_nil, not_nil, entry_at, entry_small, none_found, look_own, look_entry, look_none}
use Rattle.ns_tree.proofs.branch.Branch.+look.Goals as goal

pub returns-then-is_empty-clause-above : goal.returns-then-is_empty-clause-above
returns-then-is_empty-clause-above t c =
    c.is_directory.ensures ∙ look_own (λ k. k.items) (λ b. b.value) c.self.inside.inode c.self.inside.kids.entries c.args.self.now c.self.view_is c.self.invariant c.len.ensures.ordered
    c.args.path.now
    c.first_name.result.0.now c.first_name.result.1.now c.first_name.ensures.parts c.first_name.ensures.name c.first_name.ensures.rest
    (is_nil c.first_name.result.1.now (sym c.is_empty.ensures ∙ c.if-is_empty.true))

pub look-requires : goal.look-requires
look-requires t c =
    let smaller : length c.deref.result.now < length c.args.self.now = subst (λ (xs : List Row). length xs < length c.args.self.now) (sym c.deref.ensures)
    (entry_small (λ k. k.items) (λ b. b.value) c.self.inside.inode c.self.inside.kids.entries c.args.self.now c.self.view_is c.self.invariant c.len.ensures.ordered c.args.path.now
    c.first_name.result.0.now c.first_name.result.1.now c.first_name.ensures.parts c.first_name.ensures.name c.first_name.ensures.rest c.in-Some.kid.now (sym c.in-Some.ensures.value)) in
    (omega (arith, smaller, c.decreases), (c.first_name.ensures.rest, (not_nil c.first_name.result.1.now (sym c.is_empty.ensures ∙ c.if-is_empty.false))))

pub returns-in-Some-clause-above : goal.returns-in-Some-clause-above
returns-in-Some-clause-above t c =
    c.look.ensures.above ∙ ap (λ (xs : List Row). is_dir_there (find (before_last_slash c.first_name.result.1.now) xs)) c.deref.ensures
    ∙ look_entry (λ k. k.items) (λ b. b.value) c.self.inside.inode c.self.inside.kids.entries c.args.self.now c.self.view_is c.self.invariant c.len.ensures.ordered c.args.path.now
    c.first_name.result.0.now c.first_name.result.1.now c.first_name.ensures.parts c.first_name.ensures.name c.first_name.ensures.rest (not_nil c.first_name.result.1.now (sym c.is_empty.ensures
    ∙ c.if-is_empty.false)) c.in-Some.kid.now (sym c.in-Some.ensures.value)

pub returns-in-Some-clause-there : goal.returns-in-Some-clause-there
returns-in-Some-clause-there t c =
    c.look.ensures.there ∙ ap (find c.first_name.result.1.now) c.deref.ensures ∙ entry_at (λ k. k.items) (λ b. b.value) c.self.inside.inode c.self.inside.kids.entries c.args.self.now
    c.self.view_is c.self.invariant c.len.ensures.ordered c.args.path.now
    c.first_name.result.0.now c.first_name.result.1.now c.first_name.ensures.parts c.first_name.ensures.name c.first_name.ensures.rest c.in-Some.kid.now (sym c.in-Some.ensures.value)

pub returns-in-None-clause-above : goal.returns-in-None-clause-above
returns-in-None-clause-above t c =
    look_none (λ k. k.items) (λ b. b.value) c.self.inside.inode c.self.inside.kids.entries c.args.self.now c.self.view_is c.self.invariant c.len.ensures.ordered c.args.path.now
    c.first_name.result.0.now c.first_name.result.1.now c.first_name.ensures.parts c.first_name.ensures.name c.first_name.ensures.rest (not_nil c.first_name.result.1.now (sym c.is_empty.ensures
    ∙ c.if-is_empty.false)) (sym c.in-None.ensures.value)

pub returns-in-None-clause-there : goal.returns-in-None-clause-there
returns-in-None-clause-there t c =
    sym (none_found (λ k. k.items) (λ b. b.value) c.self.inside.inode c.self.inside.kids.entries c.args.self.now c.self.view_is c.self.invariant c.len.ensures.ordered c.args.path.now
    c.first_name.result.0.now c.first_name.result.1.now c.first_name.ensures.parts c.first_name.ensures.name c.first_name.ensures.rest (sym c.in-None.ensures.value))
