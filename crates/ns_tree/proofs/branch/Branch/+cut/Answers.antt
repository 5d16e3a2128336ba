use Rattle.std.proofs.Common.{◌<◌, List, length, sym, ◌∙◌, ap, subst, arith, IsSome}
use Rattle.std.specs.Box.{with_value}
use Rattle.ns_tree.specs.declared.inode.Row.{Row}
use Rattle.ns_tree.specs.Space.{find, subtree, without}
use Rattle.ns_tree.specs.Branches.{IsBranch}
use Rattle.ns_tree.proofs.Levels.{is_nil, not_nil, long_from, none_there, entry_small, entry_some, entry_path, entry_part, entry_cut, entry_kept, entry_whole, entry_gone, gone_kept}
use Rattle.ns_tree.proofs.branch.Branch.+cut.Goals as goal

pub unreachable-requires : goal.unreachable-requires
unreachable-requires t c =
    none_there (λ k. k.items) (λ b. b.value) c.self.inside.inode c.self.inside.kids.entries c.args.self.now c.self.view_is c.self.invariant c.len.ensures.ordered c.args.path.now
    c.first_name.result.0.now
    c.first_name.result.1.now c.first_name.ensures.parts c.first_name.ensures.name c.first_name.ensures.rest (sym c.in-None.ensures.value) c.requires.there

pub invariant_of-self : goal.invariant_of-self
invariant_of-self t c =
    gone_kept (λ k. k.items) (λ b. b.value) c.self.inside.inode c.self.inside.kids.entries c.args.self.now c.self.view_is c.self.invariant c.len.ensures.ordered c.args.path.now
    c.first_name.result.0.now
    c.first_name.result.1.now c.first_name.ensures.parts c.first_name.ensures.name c.first_name.ensures.rest c.remove.new.self.entries c.remove.ensures.entries

pub returns-then-is_empty-clause-rest : goal.returns-then-is_empty-clause-rest
returns-then-is_empty-clause-rest t c =
    entry_gone (λ k. k.items) (λ b. b.value) c.self.inside.inode c.self.inside.kids.entries c.args.self.now c.self.view_is c.self.invariant c.len.ensures.ordered c.args.path.now
    c.first_name.result.0.now
    c.first_name.result.1.now c.first_name.ensures.parts c.first_name.ensures.name c.first_name.ensures.rest c.in-Some.kid (sym c.in-Some.ensures.value) (is_nil c.first_name.result.1.now (sym
    c.is_empty.ensures ∙ c.if-is_empty.true)) c.remove.new.self.entries c.remove.ensures.entries

pub returns-then-is_empty-clause-part : goal.returns-then-is_empty-clause-part
returns-then-is_empty-clause-part t c =
    entry_whole (λ k. k.items) (λ b. b.value) c.self.inside.inode c.self.inside.kids.entries c.args.self.now c.self.view_is c.self.invariant c.len.ensures.ordered c.args.path.now
    c.first_name.result.0.now
    c.first_name.result.1.now c.first_name.ensures.parts c.first_name.ensures.name c.first_name.ensures.rest c.in-Some.kid (sym c.in-Some.ensures.value) (is_nil c.first_name.result.1.now (sym
    c.is_empty.ensures ∙ c.if-is_empty.true))

pub cut-part-requires : goal.cut-part-requires
cut-part-requires t c =
    let smaller : length c.deref_mut.result.now < length c.args.self.now = subst (λ (xs : List Row). length xs < length c.args.self.now) (sym c.deref_mut.ensures.value)
    (entry_small (λ k. k.items) (λ b. b.value) c.self.inside.inode c.self.inside.kids.entries c.args.self.now c.self.view_is c.self.invariant c.get_mut.ensures.ordered c.args.path.now
    c.first_name.result.0.now
    c.first_name.result.1.now c.first_name.ensures.parts c.first_name.ensures.name c.first_name.ensures.rest c.in-Some-get_mut.kid.now (sym c.in-Some-get_mut.ensures.value)) in
    let there : IsSome (find c.first_name.result.1.now c.deref_mut.result.now) = subst (λ (xs : List Row). IsSome (find c.first_name.result.1.now xs)) (sym c.deref_mut.ensures.value)
    (entry_some (λ k. k.items) (λ b. b.value) c.self.inside.inode c.self.inside.kids.entries c.args.self.now c.self.view_is c.self.invariant c.get_mut.ensures.ordered c.args.path.now
    c.first_name.result.0.now
    c.first_name.result.1.now c.first_name.ensures.parts c.first_name.ensures.name c.first_name.ensures.rest c.in-Some-get_mut.kid.now (sym c.in-Some-get_mut.ensures.value) c.requires.there) in
    (omega (arith, smaller, c.decreases), (c.first_name.ensures.rest, (not_nil c.first_name.result.1.now (sym c.is_empty.ensures ∙ c.if-is_empty.false), there)))

pub unreachable-requires-in-None-get_mut : goal.unreachable-requires-in-None-get_mut
unreachable-requires-in-None-get_mut t c =
    none_there (λ k. k.items) (λ b. b.value) c.self.inside.inode c.self.inside.kids.entries c.args.self.now c.self.view_is c.self.invariant c.get_mut.ensures.ordered c.args.path.now
    c.first_name.result.0.now
    c.first_name.result.1.now c.first_name.ensures.parts c.first_name.ensures.name c.first_name.ensures.rest (sym c.in-None-get_mut.ensures.value) c.requires.there

pub invariant_of-self-2 : goal.invariant_of-self-2
invariant_of-self-2 t c =
    entry_kept (λ k. k.items) (λ b. b.value) c.self.inside.inode c.self.inside.kids.entries c.args.self.now c.self.view_is c.self.invariant c.get_mut.ensures.ordered c.args.path.now
    c.first_name.result.0.now
    c.first_name.result.1.now c.first_name.ensures.parts c.first_name.ensures.name c.first_name.ensures.rest c.in-Some-get_mut.kid.now (sym c.in-Some-get_mut.ensures.value)
    (with_value c.in-Some-get_mut.kid.now c.cut-part.new.self) (c.get_mut.follows.lender (with_value c.in-Some-get_mut.kid.now c.cut-part.new.self)).entries (c.get_mut.follows.holds (with_value
    c.in-Some-get_mut.kid.now c.cut-part.new.self)).0
    (subst IsBranch c.deref.ensures c.show.ensures)

pub returns-clause-rest : goal.returns-clause-rest
returns-clause-rest t c =
    entry_cut (λ k. k.items) (λ b. b.value) c.self.inside.inode c.self.inside.kids.entries c.args.self.now c.self.view_is c.self.invariant c.get_mut.ensures.ordered c.args.path.now
    c.first_name.result.0.now
    c.first_name.result.1.now c.first_name.ensures.parts c.first_name.ensures.name c.first_name.ensures.rest c.in-Some-get_mut.kid.now (sym c.in-Some-get_mut.ensures.value)
    (with_value c.in-Some-get_mut.kid.now c.cut-part.new.self) (c.get_mut.follows.lender (with_value c.in-Some-get_mut.kid.now c.cut-part.new.self)).entries (c.get_mut.follows.holds (with_value
    c.in-Some-get_mut.kid.now c.cut-part.new.self)).0
    (long_from c.first_name.result.1.now (entry_path (λ k. k.items) (λ b. b.value) c.self.inside.inode c.self.inside.kids.entries c.args.self.now c.self.view_is c.self.invariant
    c.get_mut.ensures.ordered c.args.path.now c.first_name.result.0.now
    c.first_name.result.1.now c.first_name.ensures.parts c.first_name.ensures.name c.first_name.ensures.rest c.in-Some-get_mut.kid.now (sym c.in-Some-get_mut.ensures.value) c.requires.there)
    (sym c.is_empty.ensures ∙ c.if-is_empty.false)) (c.cut-part.ensures.rest ∙ ap (without c.first_name.result.1.now) c.deref_mut.ensures.value)

pub returns-clause-part : goal.returns-clause-part
returns-clause-part t c =
    entry_part (λ k. k.items) (λ b. b.value) c.self.inside.inode c.self.inside.kids.entries c.args.self.now c.self.view_is c.self.invariant c.get_mut.ensures.ordered c.args.path.now
    c.first_name.result.0.now
    c.first_name.result.1.now c.first_name.ensures.parts c.first_name.ensures.name c.first_name.ensures.rest c.in-Some-get_mut.kid.now (sym c.in-Some-get_mut.ensures.value)
    c.cut-part.result.value (entry_path (λ k. k.items) (λ b. b.value) c.self.inside.inode c.self.inside.kids.entries c.args.self.now c.self.view_is c.self.invariant c.get_mut.ensures.ordered
    c.args.path.now c.first_name.result.0.now
    c.first_name.result.1.now c.first_name.ensures.parts c.first_name.ensures.name c.first_name.ensures.rest c.in-Some-get_mut.kid.now (sym c.in-Some-get_mut.ensures.value) c.requires.there)
    (ap (subtree c.first_name.result.1.now) (sym c.deref_mut.ensures.value) ∙ c.cut-part.ensures.part)
