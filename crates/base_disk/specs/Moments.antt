-- How a run of disk calls goes on.
use Rattle.std.proofs.Common.{inl, inr, ⊎_elim, arith}
use Rattle.base_disk.specs.Files.{Files}
use Rattle.base_disk.specs.View.{View, IsSound, Elapses, LeavesOnly, AllLeave}

-- before the first call
pub started : (old : View) (P : Files → Type 0) → IsSound old → AllLeave old P → LeavesOnly old old P
started old P sound here = record { later = omega arith; each = λ c left. here c (sound.only_now c left); before = λ t c le left. inl left }

-- one call more
pub goes_on : (old mid new : View) (P : Files → Type 0) → LeavesOnly old mid P → Elapses mid new → AllLeave new P → LeavesOnly old new P
goes_on old mid new P so_far time here = record {
  later = omega (arith, so_far.later, time.later);
  each = λ c left. ⊎_elim (so_far.each c) (here c) (time.nothing_else old.moment c so_far.later left);
  before = λ t c le left. ⊎_elim (so_far.before t c le) (λ now. inr (here c now)) (time.nothing_else t c (omega (arith, le, so_far.later)) left);
}
