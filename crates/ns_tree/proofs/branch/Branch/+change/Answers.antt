use Rattle.std.proofs.Common.{◌<◌, List, length, refl, sym, ◌∙◌, ap, subst, arith, IsSome}
use Rattle.std.specs.Box.{with_value}
use Rattle.ns_tree.specs.declared.inode.Row.{Row}
use Rattle.ns_tree.specs.Space.{find}
use Rattle.ns_tree.specs.Places.{set_at}
use Rattle.ns_tree.specs.Branches.{IsBranch}
use Rattle.ns_tree.proofs.Levels.{is_nil, own_found, own_changed, none_there, entry_at, entry_small, entry_some, entry_changed, entry_kept}
use Rattle.ns_tree.proofs.branch.Branch.+change.Goals as goal

pub returns-then-is_empty : goal.returns-then-is_empty
returns-then-is_empty g t c = (
  c.self.inside.inode,
  c.change_inode.new.inode,
  sym (own_found (λ k. k.items) (λ b. b.value) c.self.inside.inode c.self.inside.kids.entries c.args.self.now c.self.view_is c.args.path.now
      (is_nil c.args.path.now (sym c.is_empty.ensures ∙ c.if-is_empty.true))),
  c.change_inode.ensures,
  own_changed (λ k. k.items) (λ b. b.value) c.self.inside.inode c.self.inside.kids.entries c.args.self.now c.self.view_is c.args.path.now
      (is_nil c.args.path.now (sym c.is_empty.ensures ∙ c.if-is_empty.true)) (λ _. c.change_inode.new.inode) c.change_inode.new.inode refl,
)

pub change-requires : goal.change-requires
change-requires g t c =
    let smaller : length c.deref_mut.result.now < length c.args.self.now = subst (λ (xs : List Row). length xs < length c.args.self.now) (sym c.deref_mut.ensures.value)
    (entry_small (λ k. k.items) (λ b. b.value) c.self.inside.inode c.self.inside.kids.entries c.args.self.now c.self.view_is c.self.invariant c.get_mut.ensures.ordered c.args.path.now
    c.first_name.result.0.now
    c.first_name.result.1.now c.first_name.ensures.parts c.first_name.ensures.name c.first_name.ensures.rest c.in-Some.kid.now (sym c.in-Some.ensures.value)) in
    let there : IsSome (find c.first_name.result.1.now c.deref_mut.result.now) = subst (λ (xs : List Row). IsSome (find c.first_name.result.1.now xs)) (sym c.deref_mut.ensures.value)
    (entry_some (λ k. k.items) (λ b. b.value) c.self.inside.inode c.self.inside.kids.entries c.args.self.now c.self.view_is c.self.invariant c.get_mut.ensures.ordered c.args.path.now
    c.first_name.result.0.now
    c.first_name.result.1.now c.first_name.ensures.parts c.first_name.ensures.name c.first_name.ensures.rest c.in-Some.kid.now (sym c.in-Some.ensures.value) c.requires.there) in
    (λ κs h. (omega (arith, smaller, c.decreases), (h, (c.requires.callable, (c.first_name.ensures.rest, there)))))

pub unreachable-requires : goal.unreachable-requires
unreachable-requires g t c =
    none_there (λ k. k.items) (λ b. b.value) c.self.inside.inode c.self.inside.kids.entries c.args.self.now c.self.view_is c.self.invariant c.get_mut.ensures.ordered c.args.path.now
    c.first_name.result.0.now
    c.first_name.result.1.now c.first_name.ensures.parts c.first_name.ensures.name c.first_name.ensures.rest (sym c.in-None.ensures.value) c.requires.there

pub invariant_of-self-2 : goal.invariant_of-self-2
invariant_of-self-2 g t c =
    entry_kept (λ k. k.items) (λ b. b.value) c.self.inside.inode c.self.inside.kids.entries c.args.self.now c.self.view_is c.self.invariant c.get_mut.ensures.ordered c.args.path.now
    c.first_name.result.0.now
    c.first_name.result.1.now c.first_name.ensures.parts c.first_name.ensures.name c.first_name.ensures.rest c.in-Some.kid.now (sym c.in-Some.ensures.value)
    (with_value c.in-Some.kid.now c.change.new.self) (c.get_mut.follows.lender (with_value c.in-Some.kid.now c.change.new.self)).entries (c.get_mut.follows.holds (with_value c.in-Some.kid.now
    c.change.new.self)).0
    (subst IsBranch c.deref.ensures c.show.ensures)

pub returns : goal.returns
returns g t c = (
  c.change.ensures.0,
  c.change.ensures.1,
  sym (entry_at (λ k. k.items) (λ b. b.value) c.self.inside.inode c.self.inside.kids.entries c.args.self.now c.self.view_is c.self.invariant c.get_mut.ensures.ordered c.args.path.now
      c.first_name.result.0.now
      c.first_name.result.1.now c.first_name.ensures.parts c.first_name.ensures.name c.first_name.ensures.rest c.in-Some.kid.now (sym c.in-Some.ensures.value))
      ∙ ap (find c.first_name.result.1.now) (sym c.deref_mut.ensures.value) ∙ c.change.ensures.2,
  c.change.ensures.3,
  entry_changed (λ k. k.items) (λ b. b.value) c.self.inside.inode c.self.inside.kids.entries c.args.self.now c.self.view_is c.self.invariant c.get_mut.ensures.ordered c.args.path.now
      c.first_name.result.0.now
      c.first_name.result.1.now c.first_name.ensures.parts c.first_name.ensures.name c.first_name.ensures.rest c.in-Some.kid.now (sym c.in-Some.ensures.value)
      (with_value c.in-Some.kid.now c.change.new.self) (c.get_mut.follows.lender (with_value c.in-Some.kid.now c.change.new.self)).entries (c.get_mut.follows.holds (with_value c.in-Some.kid.now
      c.change.new.self)).0
      (λ _. c.change.ensures.1) (c.change.ensures.4 ∙ ap (set_at c.first_name.result.1.now c.change.ensures.1) c.deref_mut.ensures.value),
)
