use Rattle.std.proofs.Common.{refl, sym, ◌∙◌, ap, subst}
use Rattle.std.specs.Box.{with_value}
use Rattle.ns_tree.specs.Places.{set_at}
use Rattle.ns_tree.specs.Branches.{IsBranch}
use Rattle.ns_tree.proofs.Levels.{is_nil, own_changed, none_changed, entries_same, entry_changed, entry_kept}
use Rattle.ns_tree.proofs.branch.Branch.+replace.Goals as goal

pub returns-then-is_empty : goal.returns-then-is_empty
returns-then-is_empty t c =
    own_changed (λ k. k.items) (λ b. b.value) c.self.inside.inode c.self.inside.kids.entries c.args.self.now c.self.view_is c.args.path.now
    (is_nil c.args.path.now (sym c.is_empty.ensures ∙ c.if-is_empty.true)) (λ _. c.args.inode) c.args.inode refl

pub invariant_of-self-2 : goal.invariant_of-self-2
invariant_of-self-2 t c =
    entry_kept (λ k. k.items) (λ b. b.value) c.self.inside.inode c.self.inside.kids.entries c.args.self.now c.self.view_is c.self.invariant c.get_mut.ensures.ordered c.args.path.now
    c.first_name.result.0.now
    c.first_name.result.1.now c.first_name.ensures.parts c.first_name.ensures.name c.first_name.ensures.rest c.in-Some.kid.now (sym c.in-Some.ensures.value)
    (with_value c.in-Some.kid.now c.replace.new.self) (c.get_mut.follows.lender (with_value c.in-Some.kid.now c.replace.new.self)).entries (c.get_mut.follows.holds (with_value c.in-Some.kid.now
    c.replace.new.self)).0
    (subst IsBranch c.deref.ensures c.show.ensures)

pub returns : goal.returns
returns t c =
    entry_changed (λ k. k.items) (λ b. b.value) c.self.inside.inode c.self.inside.kids.entries c.args.self.now c.self.view_is c.self.invariant c.get_mut.ensures.ordered c.args.path.now
    c.first_name.result.0.now
    c.first_name.result.1.now c.first_name.ensures.parts c.first_name.ensures.name c.first_name.ensures.rest c.in-Some.kid.now (sym c.in-Some.ensures.value)
    (with_value c.in-Some.kid.now c.replace.new.self) (c.get_mut.follows.lender (with_value c.in-Some.kid.now c.replace.new.self)).entries (c.get_mut.follows.holds (with_value c.in-Some.kid.now
    c.replace.new.self)).0
    (λ _. c.args.inode) (c.replace.ensures ∙ ap (set_at c.first_name.result.1.now c.args.inode) c.deref_mut.ensures.value)

pub returns-in_default : goal.returns-in_default
returns-in_default t c =
    none_changed (λ k. k.items) (λ b. b.value) c.self.inside.inode c.self.inside.kids.entries c.args.self.now c.self.view_is c.self.invariant c.get_mut.ensures.ordered c.args.path.now
    c.first_name.result.0.now
    c.first_name.result.1.now c.first_name.ensures.parts c.first_name.ensures.name c.first_name.ensures.rest (λ _. c.args.inode) c.get_mut.follows.lender-at-none.entries (sym
    c.in_default.ensures.value)
    (entries_same c.get_mut.follows.lender-at-none c.self.inside.kids c.get_mut.follows.holds-at-none)
