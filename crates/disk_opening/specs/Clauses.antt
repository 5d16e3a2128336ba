-- What the calls on the files of segments promise, in the words of their contracts.
use Rattle.base_disk.specs.View.{View}
use Rattle.base_disk.specs.declared.disk.DiskModel.{Ghosts}
use Rattle.disk_opening.specs.Opening.{SegmentsStable, IsRepaired}

-- what holds where the disk tells its bytes and the files of segments were stable
abbrev pub IfStable : {D : Type 0} → Ghosts D → D → D → (View → View → Type 0) → Type 0
IfStable disk old new P = disk.tells old → SegmentsStable (disk.view old) → P (disk.view old) (disk.view new)

-- what holds where they were repaired too
abbrev pub IfRepaired : {D : Type 0} → Ghosts D → D → D → (View → View → Type 0) → Type 0
IfRepaired disk old new P = disk.tells old → SegmentsStable (disk.view old) → IsRepaired (disk.view old).seen → P (disk.view old) (disk.view new)

-- the files of segments stay stable
abbrev pub StayStable : View → View → Type 0
StayStable old new = SegmentsStable old → SegmentsStable new

-- they stay repaired
abbrev pub StayRepaired : View → View → Type 0
StayRepaired old new = IsRepaired old.seen → IsRepaired new.seen
