use Rattle.std.proofs.Common.{◌≡◌, ◌<◌, List, [], ◌∷◌, length, refl, sym, ◌∙◌, ap, subst, arith, None, IsSome}
use Rattle.std.specs.Box.{with_value}
use Rattle.ns_tree.specs.declared.inode.Row.{Row}
use Rattle.ns_tree.specs.Space.{find, raise, raised, put}
use Rattle.ns_tree.specs.Branches.{IsBranch}
use Rattle.ns_tree.proofs.Levels.{is_nil, none_there, entry_small, entry_some, entry_absent, entry_made, entry_same, entry_kept, own_kept, own_made}
use Rattle.std.proofs.Common.{◌++◌}
use Rattle.std.proofs.lemmas.Result.{on_ok_weaker, on_err_weaker}
use Rattle.ns_tree.proofs.branch.Branch.+put.Goals as goal

pub invariant_of-self-then-is_empty : goal.invariant_of-self-then-is_empty
invariant_of-self-then-is_empty t c =
    own_kept (λ k. k.items) (λ b. b.value) c.self.inside.inode c.self.inside.kids.entries c.args.self.now c.self.view_is c.self.invariant c.in_ok-insert.ensures.was_ordered c.args.path.now
    c.args.kid.name.now
    (is_nil c.args.path.now (sym c.is_empty.ensures ∙ c.if-is_empty.true)) c.requires.plain c.requires.absent c.in_ok-key.key c.in_ok-branch.branch c.insert.new.self.entries
    c.in_ok-key.ensures.items
    c.in_ok-insert.ensures.entries c.requires.some (subst IsBranch (sym (c.in_ok-branch.ensures.ok ∙ c.new.ensures)) (c.args.kid.inode, [], refl, tt))

pub returns-then-is_empty-clause-ok : goal.returns-then-is_empty-clause-ok
returns-then-is_empty-clause-ok t c =
    own_made (λ k. k.items) (λ b. b.value) c.self.inside.inode c.self.inside.kids.entries c.args.self.now c.self.view_is c.self.invariant c.in_ok-insert.ensures.was_ordered c.args.path.now
    c.args.kid.name.now
    (is_nil c.args.path.now (sym c.is_empty.ensures ∙ c.if-is_empty.true)) c.requires.plain c.requires.absent c.in_ok-key.key c.in_ok-branch.branch c.insert.new.self.entries
    c.in_ok-key.ensures.items
    c.in_ok-insert.ensures.entries (raised c.args.time) c.args.kid.inode c.raise_inode.new.inode c.raise_inode.ensures (c.in_ok-branch.ensures.ok ∙ c.new.ensures)

pub put-put-requires : goal.put-put-requires
put-put-requires t c =
    let smaller : length c.deref_mut.result.now < length c.args.self.now = subst (λ (xs : List Row). length xs < length c.args.self.now) (sym c.deref_mut.ensures.value)
    (entry_small (λ k. k.items) (λ b. b.value) c.self.inside.inode c.self.inside.kids.entries c.args.self.now c.self.view_is c.self.invariant c.get_mut.ensures.ordered c.args.path.now
    c.first_name.result.0.now
    c.first_name.result.1.now c.first_name.ensures.parts c.first_name.ensures.name c.first_name.ensures.rest c.in-Some.branch.now (sym c.in-Some.ensures.value)) in
    let there : IsSome (find c.first_name.result.1.now c.deref_mut.result.now) = subst (λ (xs : List Row). IsSome (find c.first_name.result.1.now xs)) (sym c.deref_mut.ensures.value)
    (entry_some (λ k. k.items) (λ b. b.value) c.self.inside.inode c.self.inside.kids.entries c.args.self.now c.self.view_is c.self.invariant c.get_mut.ensures.ordered c.args.path.now
    c.first_name.result.0.now
    c.first_name.result.1.now c.first_name.ensures.parts c.first_name.ensures.name c.first_name.ensures.rest c.in-Some.branch.now (sym c.in-Some.ensures.value) c.requires.there) in (
      omega (arith, smaller, c.decreases),
      (
        c.first_name.ensures.rest,
        (
          c.requires.some,
          (
            c.requires.plain,
            (
              there,
              subst (λ (xs : List Row). find (c.first_name.result.1.now ++ 47 ∷ c.args.kid.name.now) xs ≡ None) (sym c.deref_mut.ensures.value)
                  (entry_absent (λ k. k.items) (λ b. b.value) c.self.inside.inode c.self.inside.kids.entries c.args.self.now c.self.view_is c.self.invariant c.get_mut.ensures.ordered
                  c.args.path.now
                  c.first_name.result.0.now
                  c.first_name.result.1.now c.first_name.ensures.parts c.first_name.ensures.name c.first_name.ensures.rest c.in-Some.branch.now (sym c.in-Some.ensures.value) (47 ∷
                  c.args.kid.name.now) refl
                  c.requires.absent),
            ),
          ),
        ),
      ),
    )

pub unreachable-requires : goal.unreachable-requires
unreachable-requires t c =
    none_there (λ k. k.items) (λ b. b.value) c.self.inside.inode c.self.inside.kids.entries c.args.self.now c.self.view_is c.self.invariant c.get_mut.ensures.ordered c.args.path.now
    c.first_name.result.0.now
    c.first_name.result.1.now c.first_name.ensures.parts c.first_name.ensures.name c.first_name.ensures.rest (sym c.in-None.ensures.value) c.requires.there

pub invariant_of-self-2 : goal.invariant_of-self-2
invariant_of-self-2 t c =
    entry_kept (λ k. k.items) (λ b. b.value) c.self.inside.inode c.self.inside.kids.entries c.args.self.now c.self.view_is c.self.invariant c.get_mut.ensures.ordered c.args.path.now
    c.first_name.result.0.now
    c.first_name.result.1.now c.first_name.ensures.parts c.first_name.ensures.name c.first_name.ensures.rest c.in-Some.branch.now (sym c.in-Some.ensures.value)
    (with_value c.in-Some.branch.now c.put-put.new.self) (c.get_mut.follows.lender (with_value c.in-Some.branch.now c.put-put.new.self)).entries (c.get_mut.follows.holds (with_value
    c.in-Some.branch.now c.put-put.new.self)).0
    (subst IsBranch c.deref.ensures c.show.ensures)

pub returns-clause-ok : goal.returns-clause-ok
returns-clause-ok t c =
    on_ok_weaker c.put-put.result (λ h. entry_made (λ k. k.items) (λ b. b.value) c.self.inside.inode c.self.inside.kids.entries c.args.self.now c.self.view_is c.self.invariant
    c.get_mut.ensures.ordered c.args.path.now c.first_name.result.0.now
    c.first_name.result.1.now c.first_name.ensures.parts c.first_name.ensures.name c.first_name.ensures.rest c.in-Some.branch.now (sym c.in-Some.ensures.value)
    (with_value c.in-Some.branch.now c.put-put.new.self) (c.get_mut.follows.lender (with_value c.in-Some.branch.now c.put-put.new.self)).entries (c.get_mut.follows.holds (with_value
    c.in-Some.branch.now c.put-put.new.self)).0
    (47 ∷ c.args.kid.name.now) (raised c.args.time) c.args.kid.inode refl (h ∙ ap (λ (xs : List Row). raise c.first_name.result.1.now c.args.time (put (c.first_name.result.1.now ++ 47 ∷
    c.args.kid.name.now) c.args.kid.inode xs)) c.deref_mut.ensures.value)) c.put-put.ensures.ok

pub returns-clause-err : goal.returns-clause-err
returns-clause-err t c =
    on_err_weaker c.put-put.result (λ h. entry_same (λ k. k.items) (λ b. b.value) c.self.inside.inode c.self.inside.kids.entries c.args.self.now c.self.view_is c.self.invariant
    c.get_mut.ensures.ordered c.args.path.now c.first_name.result.0.now
    c.first_name.result.1.now c.first_name.ensures.parts c.first_name.ensures.name c.first_name.ensures.rest c.in-Some.branch.now (sym c.in-Some.ensures.value)
    (with_value c.in-Some.branch.now c.put-put.new.self) (c.get_mut.follows.lender (with_value c.in-Some.branch.now c.put-put.new.self)).entries (c.get_mut.follows.holds (with_value
    c.in-Some.branch.now c.put-put.new.self)).0
    (h ∙ c.deref_mut.ensures.value)) c.put-put.ensures.err
