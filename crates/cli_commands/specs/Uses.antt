-- What a call did to its source, its sink and its disk.
use Rattle.std.specs.Prelude.{ℕ, ◌≡◌, List, Option}
use Rattle.base_outside.specs.Faults.{Rose}
use Rattle.base_disk.specs.View.{View}

-- ## A source
-- the bytes that it had left before and has left now, where it tells them, and how often it had
-- failed before and has now
pub record SourceUse : Type 0 where
  pub told : Option (List ℕ)
  pub left : Option (List ℕ)
  pub faults_before : ℕ
  pub faults_now : ℕ

abbrev pub read_from : {S : Type 0} → (S → Option (List ℕ)) → (S → ℕ) → S → S → SourceUse
read_from left faults before now = record { told = left before; left = left now; faults_before = faults before; faults_now = faults now }

abbrev pub AReadFailed : SourceUse → Type 0
AReadFailed source = Rose source.faults_before source.faults_now

abbrev pub NoReadFailed : SourceUse → Type 0
NoReadFailed source = source.faults_now ≡ source.faults_before

-- ## A sink
-- the bytes that it had taken before and has taken now, where it tells them, how often it had failed
-- before and has now, and how many bytes it kept back before and keeps now
pub record SinkUse : Type 0 where
  pub before : Option (List ℕ)
  pub now : Option (List ℕ)
  pub faults_before : ℕ
  pub faults_now : ℕ
  pub kept_before : ℕ
  pub kept_now : ℕ

abbrev pub written_to : {K : Type 0} → (K → Option (List ℕ)) → (K → ℕ) → (K → ℕ) → K → K → SinkUse
written_to taken faults kept before now =
    record { before = taken before; now = taken now; faults_before = faults before; faults_now = faults now; kept_before = kept before; kept_now = kept now }

abbrev pub AWriteFailed : SinkUse → Type 0
AWriteFailed sink = Rose sink.faults_before sink.faults_now

abbrev pub NoWriteFailed : SinkUse → Type 0
NoWriteFailed sink = sink.faults_now ≡ sink.faults_before

-- of a sink that kept nothing back all was handed on
abbrev pub HandsOn : SinkUse → Type 0
HandsOn sink = sink.kept_before ≡ 0 → sink.kept_now ≡ 0

-- ## A disk
-- what it tells of itself, and the disk before and now
pub record DiskUse (D : Type 0) : Type 1 where
  pub tells : D → Type 0
  pub view : D → View
  pub faults : D → ℕ
  pub steady : D → Type 0
  pub left : D → Option ℕ
  pub before : D
  pub now : D

abbrev pub NoDiskFailed : {D : Type 0} → DiskUse D → Type 0
NoDiskFailed disk = disk.faults disk.now ≡ disk.faults disk.before

abbrev pub done_to : {D : Type 0} → (D → Type 0) → (D → View) → (D → ℕ) → (D → Type 0) → (D → Option ℕ) → D → D → DiskUse D
done_to tells view faults steady left before now =
    record { tells = tells; view = view; faults = faults; steady = steady; left = left; before = before; now = now }
