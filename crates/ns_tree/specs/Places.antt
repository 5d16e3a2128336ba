-- Where a path would stand among pairs in the order of a walk, and another inode at one.
use Rattle.std.specs.Prelude.{◌≡◌, ℕ, ◌-◌, ◌^◌, ◌≤◌, List, length, take, drop}
use Rattle.std.specs.declared.cmp.Ordering.TheVariants.{Less}
use Rattle.ns_tree.specs.declared.inode.Inode.{Inode}
use Rattle.ns_tree.specs.declared.inode.Row.{Row}
use Rattle.ns_tree.specs.Path.{walk_cmp}
use Rattle.ns_tree.specs.Space.{Space, Each, IsSpace, change_at}

-- p is absent, and its place is i
pub record IsGapFor (xs : List Row) (p : List ℕ) (i : ℕ) : Type 0 where
  pub in_range : i ≤ length xs
  pub below : Each (λ x. walk_cmp x.path p ≡ Less) (take i xs)
  pub above : Each (λ x. walk_cmp p x.path ≡ Less) (drop i xs)

-- another inode stands at p
abbrev pub set_at : List ℕ → Inode → List Row → List Row
set_at p inode xs = change_at p (λ _. inode) xs

-- a namespace, whatever its position
abbrev pub IsTree : Space → Type 0
IsTree s = IsSpace (2 ^ 64 - 1) s
