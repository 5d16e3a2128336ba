-- A folder of the system, of whose files nothing is told.
use Rattle.std.specs.Prelude.{◌≡◌, ◌⊎◌, ℕ, Bool, true, None, Some, Option, if◌then◌else◌}
use Rattle.base_disk.specs.View.{View}

-- what contracts see of it: how often a call failed, how often memory was wanted, how often it was
-- read, and whether no call is done any more
pub record FolderView : Type 0 where
  pub faults : ℕ
  pub shortages : ℕ
  pub reads : ℕ
  pub is_stopped : Bool

pub untold : View
untold = record {
  seen = λ name. None;
  synced = λ name. None;
  may_leave = λ files. Unit {0};
  moment = 0;
  left_since = λ moment files. Unit {0};
}

-- no call is left where none is done any more
abbrev pub left_of : FolderView → Option ℕ
left_of d = if d.is_stopped then Some 0 else None

-- how often the names of a folder were changed
pub record Names : Type 0 where
  -- by new files, renames and removals
  pub changes : ℕ
  -- by renames and removals
  pub moves : ℕ
  -- how many of the changes no crash undoes
  pub stored : ℕ

abbrev pub no_names : Names
no_names = record { changes = 0; moves = 0; stored = 0 }

-- what contracts see of the calls over it
pub record FolderNote : Type 0 where
  pub names : Names
  pub is_stopped : Bool

-- no crash undoes a change
abbrev pub AreStored : Names → Type 0
AreStored n = n.stored ≡ n.changes

-- what is noted of the names is so
abbrev pub IsNoted : Bool → Names → Type 0
IsNoted are_stored n = are_stored ≡ true → AreStored n

-- no crash undoes a change, or no call is done any more
abbrev pub IsLasting : Names → Bool → Type 0
IsLasting n is_stopped = AreStored n ⊎ (is_stopped ≡ true)

-- Where a file was renamed or removed, that lasts.
abbrev pub IsSettled : Names → Names → Bool → Type 0
IsSettled old new is_stopped = (new.moves ≡ old.moves) ⊎ IsLasting new is_stopped
