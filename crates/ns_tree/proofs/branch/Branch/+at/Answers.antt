use Rattle.std.proofs.Common.{◌≡◌, List, ℕ, [], map, sym, ◌∙◌, ap, subst}
use Rattle.ns_tree.specs.Space.{find, subtree}
use Rattle.ns_tree.specs.Branches.{IsFrom, from_path}
use Rattle.ns_tree.proofs.Levels.{is_nil, none_then, none_found, entry_at, entry_part, path_from}
use Rattle.std.proofs.lemmas.Option.{IfSome_then}
use Rattle.ns_tree.proofs.BranchedParts.{at_own}
use Rattle.ns_tree.proofs.branch.Branch.+at.Goals as goal

pub returns-then-is_empty-clause-some : goal.returns-then-is_empty-clause-some
returns-then-is_empty-clause-some t c =
    let empty : c.args.path.now ≡ [] = is_nil c.args.path.now (sym c.is_empty.ensures ∙ c.if-is_empty.true) in
    (subst IsFrom (sym empty) tt, subst (λ (u : List ℕ). subtree u c.args.self.now ≡ map (from_path u) c.args.self.now) (sym empty) (at_own c.args.self.now c.show.ensures))

pub returns-in-Some-clause-some : goal.returns-in-Some-clause-some
returns-in-Some-clause-some t c =
    IfSome_then c.at.result c.at.ensures.some (λ x h. (
      path_from (λ k. k.items) (λ b. b.value) c.self.inside.inode c.self.inside.kids.entries c.args.self.now c.self.view_is c.self.invariant
          c.len.ensures.ordered c.args.path.now c.first_name.result.0.now
          c.first_name.result.1.now c.first_name.ensures.parts c.first_name.ensures.name c.first_name.ensures.rest c.in-Some.kid.now (sym c.in-Some.ensures.value),
      entry_part (λ k. k.items) (λ b. b.value) c.self.inside.inode c.self.inside.kids.entries c.args.self.now c.self.view_is c.self.invariant c.len.ensures.ordered c.args.path.now
          c.first_name.result.0.now
          c.first_name.result.1.now c.first_name.ensures.parts c.first_name.ensures.name c.first_name.ensures.rest c.in-Some.kid.now (sym c.in-Some.ensures.value) x.now h.0 (ap (subtree
          c.first_name.result.1.now) (sym c.deref.ensures) ∙ h.1),
    ))

pub returns-in-Some-clause-none : goal.returns-in-Some-clause-none
returns-in-Some-clause-none t c =
    none_then c.at.result (λ h. sym (entry_at (λ k. k.items) (λ b. b.value) c.self.inside.inode c.self.inside.kids.entries c.args.self.now c.self.view_is c.self.invariant c.len.ensures.ordered
    c.args.path.now c.first_name.result.0.now
    c.first_name.result.1.now c.first_name.ensures.parts c.first_name.ensures.name c.first_name.ensures.rest c.in-Some.kid.now (sym c.in-Some.ensures.value))
    ∙ ap (find c.first_name.result.1.now) (sym c.deref.ensures) ∙ h) c.at.ensures.none

pub returns-in-None-clause-none : goal.returns-in-None-clause-none
returns-in-None-clause-none t c =
    none_found (λ k. k.items) (λ b. b.value) c.self.inside.inode c.self.inside.kids.entries c.args.self.now c.self.view_is c.self.invariant c.len.ensures.ordered c.args.path.now
    c.first_name.result.0.now
    c.first_name.result.1.now c.first_name.ensures.parts c.first_name.ensures.name c.first_name.ensures.rest (sym c.in-None.ensures.value)
