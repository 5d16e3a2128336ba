use Rattle.std.proofs.Common.{◌≡◌, ◌<◌, List, ℕ, [], length, map, sym, ◌∙◌, ap, subst, arith, IsSome}
use Rattle.std.specs.Box.{with_value}
use Rattle.ns_tree.specs.declared.inode.Row.{Row}
use Rattle.ns_tree.specs.Space.{find, put_at, subtree, without}
use Rattle.ns_tree.specs.Branches.{IsBranch, from_path}
use Rattle.ns_tree.proofs.Levels.{is_nil, none_there, entry_small, entry_some, entry_path, entry_part, entry_settled, entry_kept}
use Rattle.ns_tree.proofs.BranchedParts.{at_own, settle_own}
use Rattle.ns_tree.proofs.branch.Branch.+settle.Goals as goal

pub returns-then-is_empty-clause-placed : goal.returns-then-is_empty-clause-placed
returns-then-is_empty-clause-placed t c =
    let empty : c.args.path.now ≡ [] = is_nil c.args.path.now (sym c.is_empty.ensures ∙ c.if-is_empty.true) in
    c.replace.ensures.after ∙ c.into_inner.ensures ∙ sym (settle_own c.args.branch.value c.args.self.now c.show.ensures)
    ∙ ap (λ (u : List ℕ). put_at u (map (from_path u) c.args.branch.value) (without u c.args.self.now)) (sym empty)

pub returns-then-is_empty-clause-part : goal.returns-then-is_empty-clause-part
returns-then-is_empty-clause-part t c =
    let empty : c.args.path.now ≡ [] = is_nil c.args.path.now (sym c.is_empty.ensures ∙ c.if-is_empty.true) in
    ap (λ (u : List ℕ). subtree u c.args.self.now) empty ∙ at_own c.args.self.now c.show.ensures ∙ ap (λ (xs : List Row). map (from_path []) xs) (sym c.replace.ensures.value)
    ∙ ap (λ (u : List ℕ). map (from_path u) c.replace.result) (sym empty)

pub settle-old-requires : goal.settle-old-requires
settle-old-requires t c =
    let smaller : length c.deref_mut.result.now < length c.args.self.now = subst (λ (xs : List Row). length xs < length c.args.self.now) (sym c.deref_mut.ensures.value)
    (entry_small (λ k. k.items) (λ b. b.value) c.self.inside.inode c.self.inside.kids.entries c.args.self.now c.self.view_is c.self.invariant c.get_mut.ensures.ordered c.args.path.now
    c.first_name.result.0.now
    c.first_name.result.1.now c.first_name.ensures.parts c.first_name.ensures.name c.first_name.ensures.rest c.in-Some.kid.now (sym c.in-Some.ensures.value)) in
    let there : IsSome (find c.first_name.result.1.now c.deref_mut.result.now) = subst (λ (xs : List Row). IsSome (find c.first_name.result.1.now xs)) (sym c.deref_mut.ensures.value)
    (entry_some (λ k. k.items) (λ b. b.value) c.self.inside.inode c.self.inside.kids.entries c.args.self.now c.self.view_is c.self.invariant c.get_mut.ensures.ordered c.args.path.now
    c.first_name.result.0.now
    c.first_name.result.1.now c.first_name.ensures.parts c.first_name.ensures.name c.first_name.ensures.rest c.in-Some.kid.now (sym c.in-Some.ensures.value) c.requires.there) in
    (omega (arith, smaller, c.decreases), (c.first_name.ensures.rest, there))

pub unreachable-requires : goal.unreachable-requires
unreachable-requires t c =
    none_there (λ k. k.items) (λ b. b.value) c.self.inside.inode c.self.inside.kids.entries c.args.self.now c.self.view_is c.self.invariant c.get_mut.ensures.ordered c.args.path.now
    c.first_name.result.0.now
    c.first_name.result.1.now c.first_name.ensures.parts c.first_name.ensures.name c.first_name.ensures.rest (sym c.in-None.ensures.value) c.requires.there

pub invariant_of-self : goal.invariant_of-self
invariant_of-self t c =
    entry_kept (λ k. k.items) (λ b. b.value) c.self.inside.inode c.self.inside.kids.entries c.args.self.now c.self.view_is c.self.invariant c.get_mut.ensures.ordered c.args.path.now
    c.first_name.result.0.now
    c.first_name.result.1.now c.first_name.ensures.parts c.first_name.ensures.name c.first_name.ensures.rest c.in-Some.kid.now (sym c.in-Some.ensures.value)
    (with_value c.in-Some.kid.now c.settle-old.new.self) (c.get_mut.follows.lender (with_value c.in-Some.kid.now c.settle-old.new.self)).entries (c.get_mut.follows.holds (with_value
    c.in-Some.kid.now c.settle-old.new.self)).0
    (subst IsBranch c.deref.ensures c.show-in-Some.ensures)

pub returns-clause-placed : goal.returns-clause-placed
returns-clause-placed t c =
    entry_settled (λ k. k.items) (λ b. b.value) c.self.inside.inode c.self.inside.kids.entries c.args.self.now c.self.view_is c.self.invariant c.get_mut.ensures.ordered c.args.path.now
    c.first_name.result.0.now
    c.first_name.result.1.now c.first_name.ensures.parts c.first_name.ensures.name c.first_name.ensures.rest c.in-Some.kid.now (sym c.in-Some.ensures.value)
    (with_value c.in-Some.kid.now c.settle-old.new.self) (c.get_mut.follows.lender (with_value c.in-Some.kid.now c.settle-old.new.self)).entries (c.get_mut.follows.holds (with_value
    c.in-Some.kid.now c.settle-old.new.self)).0
    c.args.branch.value (entry_path (λ k. k.items) (λ b. b.value) c.self.inside.inode c.self.inside.kids.entries c.args.self.now c.self.view_is c.self.invariant c.get_mut.ensures.ordered
    c.args.path.now c.first_name.result.0.now
    c.first_name.result.1.now c.first_name.ensures.parts c.first_name.ensures.name c.first_name.ensures.rest c.in-Some.kid.now (sym c.in-Some.ensures.value) c.requires.there)
    (c.settle-old.ensures.placed ∙ ap (λ (xs : List Row). put_at c.first_name.result.1.now (map (from_path c.first_name.result.1.now) c.args.branch.value) (without c.first_name.result.1.now xs))
    c.deref_mut.ensures.value)

pub returns-clause-part : goal.returns-clause-part
returns-clause-part t c =
    entry_part (λ k. k.items) (λ b. b.value) c.self.inside.inode c.self.inside.kids.entries c.args.self.now c.self.view_is c.self.invariant c.get_mut.ensures.ordered c.args.path.now
    c.first_name.result.0.now
    c.first_name.result.1.now c.first_name.ensures.parts c.first_name.ensures.name c.first_name.ensures.rest c.in-Some.kid.now (sym c.in-Some.ensures.value) c.settle-old.result (entry_path (λ k.
    k.items) (λ b. b.value) c.self.inside.inode c.self.inside.kids.entries c.args.self.now c.self.view_is c.self.invariant c.get_mut.ensures.ordered c.args.path.now c.first_name.result.0.now
    c.first_name.result.1.now c.first_name.ensures.parts c.first_name.ensures.name c.first_name.ensures.rest c.in-Some.kid.now (sym c.in-Some.ensures.value) c.requires.there)
    (ap (subtree c.first_name.result.1.now) (sym c.deref_mut.ensures.value) ∙ c.settle-old.ensures.part)
