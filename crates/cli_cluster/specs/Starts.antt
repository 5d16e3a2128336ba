-- How often a name node was started in its folder.
use Rattle.std.specs.Prelude.{ℕ, ◌≡◌, ◌+◌, ◌^◌, codes}
use Rattle.base_disk.specs.View.{View, AllLeave}
use Rattle.base_disk.specs.declared.disk.DiskModel.{Ghosts}
use Rattle.base_files.specs.Records.{IsNumber}
use Rattle.cli_commands.specs.declared.command_fault.CommandFault.{CommandFault}
use Rattle.cli_commands.specs.declared.command_fault.CommandFault.TheVariants as fault

-- the file says so many, in each crash too
pub record HoldsStarts (number : ℕ) (v : View) : Type 0 where
  pub now : IsNumber (v.seen (codes "starts")) number
  pub lasting : AllLeave v (λ c. IsNumber (c (codes "starts")) number)

-- Why none was counted: the file holds no number, or the greatest one; or the disk failed, or memory
-- ran out.
abbrev pub FailsToCount : {D : Type 0} → Ghosts D → D → CommandFault → Type 0
FailsToCount disk old (fault.BadFile name) = disk.tells old → (name ≡ codes "starts") × ((n : ℕ) → IsNumber ((disk.view old).seen (codes "starts")) n → ⊥)
FailsToCount disk old (fault.Limit most) = (most ≡ 2 ^ 62) × (disk.tells old → IsNumber ((disk.view old).seen (codes "starts")) (2 ^ 62))
FailsToCount disk old fault.DiskFault = Unit {0}
FailsToCount disk old fault.OutOfMemory = Unit {0}
FailsToCount disk old _ = ⊥

-- one more was counted
pub record CountsStart (life : ℕ) (old new : View) : Type 0 where
  pub earlier : ℕ
  pub held : IsNumber (old.seen (codes "starts")) earlier
  pub next : life ≡ earlier + 1
  pub holds : HoldsStarts life new
