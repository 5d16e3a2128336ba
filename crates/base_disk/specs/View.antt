-- What a disk that tells its bytes is, for proofs.
use Rattle.std.specs.Prelude.{◌≡◌, ◌⊎◌, ℕ, ◌≤◌, List, None}
use Rattle.base_disk.specs.Files.{Files}

pub record View : Type 1 where
  -- what reads give
  pub seen : Files
  -- what the last syncs, renames and removals made stable: a crash that brings back all the rest
  -- leaves this
  pub synced : Files
  -- what a crash at this moment may leave
  pub may_leave : Files → Type 0
  -- the moment, as a number that doesn't fall
  pub moment : ℕ
  -- what a crash at some moment from that one on might have left
  pub left_since : ℕ → Files → Type 0

pub record IsSound (v : View) : Type 0 where
  pub seen_now : v.may_leave v.seen
  pub synced_now : v.may_leave v.synced
  -- what isn't there no crash brings back
  pub absent : (name : List ℕ) (c : Files) → v.seen name ≡ None → v.may_leave c → c name ≡ None
  pub counts_now : (t : ℕ) (c : Files) → t ≤ v.moment → v.may_leave c → v.left_since t c
  pub only_now : (c : Files) → v.left_since v.moment c → v.may_leave c

-- Time goes on: a crash since t might have left what it might have left before, or what it may
-- leave now.
pub record Elapses (old new : View) : Type 0 where
  pub later : old.moment ≤ new.moment
  pub nothing_else : (t : ℕ) (c : Files) → t ≤ old.moment → new.left_since t c → old.left_since t c ⊎ new.may_leave c
  pub keeps : (t : ℕ) (c : Files) → t ≤ old.moment → old.left_since t c → new.left_since t c

-- A crash at any moment since old leaves files that have P.
pub record LeavesOnly (old new : View) (P : Files → Type 0) : Type 0 where
  pub later : old.moment ≤ new.moment
  pub each : (c : Files) → new.left_since old.moment c → P c
  -- for a run that began earlier
  pub before : (t : ℕ) (c : Files) → t ≤ old.moment → new.left_since t c → old.left_since t c ⊎ P c

-- each crash now leaves this file as a read gives it
abbrev pub IsStable : List ℕ → View → Type 0
IsStable name v = (c : Files) → v.may_leave c → c name ≡ v.seen name

-- each crash now leaves files that have P
abbrev pub AllLeave : View → (Files → Type 0) → Type 0
AllLeave v P = (c : Files) → v.may_leave c → P c
