use Rattle.std.proofs.Common.{◌≡◌, ◌∙◌, ap, sym, arith, List, ℕ, length}
use Rattle.std.specs.Ordering.{is_lt, nat_cmp}
use Rattle.std.specs.Cmp.Lexicographic.{slice_cmp}
use Rattle.ns_tree.specs.declared.inode.Row.{Row}
use Rattle.ns_tree.specs.Path.{walk_cmp}
use Rattle.ns_tree.specs.Last.{last_path}
use Rattle.ns_tree.proofs.Levels.{is_nil}
use Rattle.ns_tree.proofs.Ends.{last_small, end_empty, end_unled, end_less, end_equal, end_greater}
use Rattle.ns_tree.proofs.branch.Branch.+ends_before.Goals as goal

pub returns-then-is_empty : goal.returns-then-is_empty
returns-then-is_empty t c =
    end_empty (λ k. k.items) (λ b. b.value) c.in-Some.name.now c.in-Some.kid.now c.self.inside.inode c.self.inside.kids.entries c.args.self.now c.self.view_is c.self.invariant
    c.in-Some.ensures.last c.args.path.now (is_nil c.args.path.now (sym c.is_empty-2.ensures ∙ c.if-is_empty.true))

pub returns-then-path-ne47 : goal.returns-then-path-ne47
returns-then-path-ne47 t c =
    end_unled (λ k. k.items) (λ b. b.value) c.in-Some.name.now c.in-Some.kid.now c.self.inside.inode c.self.inside.kids.entries c.args.self.now c.self.view_is c.self.invariant
    c.in-Some.ensures.last c.args.path.now (sym c.is_empty-2.ensures ∙ c.if-is_empty.false) c.if-path-ne47.true

pub ends_before-requires : goal.ends_before-requires
ends_before-requires t c =
    let small = last_small (λ k. k.items) (λ b. b.value) c.in-Some.name.now c.in-Some.kid.now c.self.inside.inode c.self.inside.kids.entries c.args.self.now c.self.view_is c.self.invariant
    c.in-Some.ensures.last in
    let same : length c.deref.result.now ≡ length c.in-Some.kid.now.value = ap (λ (xs : List Row). length xs) c.deref.ensures in
    (omega (arith, small, same, c.decreases), tt)

pub returns-in-Less : goal.returns-in-Less
returns-in-Less t c =
    end_less (λ k. k.items) (λ b. b.value) c.in-Some.name.now c.in-Some.kid.now c.self.inside.inode c.self.inside.kids.entries c.args.self.now c.self.view_is c.self.invariant
    c.in-Some.ensures.last c.args.path.now c.first_name.result.0.now c.first_name.result.1.now
    c.first_name.ensures.parts c.first_name.ensures.name c.first_name.ensures.rest (sym (ap (λ (w : List ℕ). slice_cmp nat_cmp w c.first_name.result.0.now) c.as_slice.ensures.value) ∙ sym
    c.in-Less.ensures)

pub returns-in-Equal : goal.returns-in-Equal
returns-in-Equal t c =
    c.ends_before.ensures ∙ ap (λ (xs : List Row). is_lt (walk_cmp (last_path xs) c.first_name.result.1.now)) c.deref.ensures
    ∙ end_equal (λ k. k.items) (λ b. b.value) c.in-Some.name.now c.in-Some.kid.now c.self.inside.inode c.self.inside.kids.entries c.args.self.now c.self.view_is c.self.invariant
    c.in-Some.ensures.last c.args.path.now c.first_name.result.0.now c.first_name.result.1.now
    c.first_name.ensures.parts c.first_name.ensures.name c.first_name.ensures.rest (sym (ap (λ (w : List ℕ). slice_cmp nat_cmp w c.first_name.result.0.now) c.as_slice.ensures.value) ∙ sym
    c.in-Equal.ensures)

pub returns-in-Greater : goal.returns-in-Greater
returns-in-Greater t c =
    end_greater (λ k. k.items) (λ b. b.value) c.in-Some.name.now c.in-Some.kid.now c.self.inside.inode c.self.inside.kids.entries c.args.self.now c.self.view_is c.self.invariant
    c.in-Some.ensures.last c.args.path.now c.first_name.result.0.now c.first_name.result.1.now
    c.first_name.ensures.parts c.first_name.ensures.name c.first_name.ensures.rest (sym (ap (λ (w : List ℕ). slice_cmp nat_cmp w c.first_name.result.0.now) c.as_slice.ensures.value) ∙ sym
    c.in-Greater.ensures)
