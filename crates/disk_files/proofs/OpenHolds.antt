-- What the answers of opening say.
use Rattle.std.proofs.Common.{inl, inr, ◌⊎◌, ◌≡◌, ℕ, List, ◌++◌, true, refl, sym, ◌∙◌, ap, subst, append_assoc}
use Rattle.std.specs.Prelude.{None, Option, codes}
use Rattle.base_disk.specs.Files.{Files}
use Rattle.base_disk.specs.View.{View}
use Rattle.base_words.specs.Padded.{padded}
use Rattle.base_files.specs.Records.{IsNumber}
use Rattle.journal_core.specs.declared.segment.Segment.{Segment}
use Rattle.journal_core.specs.declared.node_state.NodeState.{NodeState}
use Rattle.disk_segment.specs.Names.{InProgress, FreshRecord, name_of}
use Rattle.disk_opening.specs.Opening.{Repairs, IsRepaired, IsFirst, IsBadRecordFile}
use Rattle.disk_opening.specs.Opened.{IsBadSegmentFile, AreOpened}
use Rattle.disk_opening.specs.Completing.{Spares}
use Rattle.disk_segment.specs.Rows.{AreSoundRows}
use Rattle.disk_segment.specs.declared.segment_row.SegmentRow.{SegmentRow}
use Rattle.disk_opening.proofs.OpenBad.{bad_record_stands, bad_segment_stands}
use Rattle.disk_opening.proofs.CompletedBack.{completed_stood}
use Rattle.disk_segment.proofs.RowsTold.{tell_segments}
use Rattle.disk_files.specs.declared.node_number.NodeNumber.{NodeNumber}
use Rattle.disk_files.specs.declared.node_number.NodeNumber.TheVariants.{Promised, Writer, Committed}
use Rattle.disk_files.specs.declared.node_numbers.NodeNumbers.{NodeNumbers}
use Rattle.disk_files.specs.declared.files.NodeFiles.{NodeFiles}
use Rattle.disk_files.specs.declared.opened.OpenedFiles.{OpenedFiles}
use Rattle.disk_files.specs.declared.opened.OpenedFiles.TheVariants as opened
use Rattle.disk_files.specs.Durable.{number_name, number_of, HaveNumbers, StandsAs}
use Rattle.disk_files.specs.Opening.{NumbersStable, number_in, HaveNodeNumbers, AreSmall, IsBadNumberFile, NoneIs, IsUnfilled, HoldsFiles, OpensAs, Refuses, IsWithinFiles}
use Rattle.disk_files.specs.OpenSteps.{AreFilledRows, IsNumbersStop, IsUnfilledRow, IsMade, IsBadAt, IsFoundRepaired}
use Rattle.disk_files.proofs.OpenNumbers.{none_bad, bad_number_stands}
use Rattle.disk_files.proofs.OpenQuiet.{number_stays, states_stay}
use Rattle.disk_files.proofs.OpenRows.{filled_segments, unfilled_segments}

-- a state with these numbers and segments
abbrev state_of : NodeNumbers → List Segment → NodeState
state_of numbers gs = record { promised = numbers.promised; writer = numbers.writer; committed = numbers.committed; known = 0; segments = gs; opened = None; serial = 0; up = true }

numbers_of : (files : Files) (numbers : NodeNumbers) (gs : List Segment) → HaveNodeNumbers files numbers → HaveNumbers files (state_of numbers gs)
numbers_of files numbers gs have = λ n. by n
  where
    by : (n : NodeNumber) → IsNumber (files (number_name n)) (number_of n (state_of numbers gs))
    by Promised = have Promised
    by Writer = have Writer
    by Committed = have Committed

fresh_name : (start : ℕ) → name_of start FreshRecord ≡ (codes "paxos/" ++ padded 19 start) ++ codes ".tmp"
unfolding name_of
fresh_name start = sym (append_assoc (codes "paxos/") (padded 19 start) (codes ".tmp"))

-- ## The segments of repaired files
module _ (v0 v1 : View) (stable : NumbersStable v1) (repairs : Repairs v0.seen v1.seen) (repaired : IsRepaired v1.seen) (numbers : NodeNumbers)
    (have : HaveNodeNumbers v0.seen numbers) (rows : List SegmentRow) (is : AreOpened v0.seen v1 rows) where
  have_left : (c : Files) → v1.may_leave c → HaveNodeNumbers c numbers
  have_left c left n =
      subst (λ (file : Option (List ℕ)). IsNumber file (number_in n numbers)) (sym (stable n c left ∙ number_stays v0.seen v1.seen repairs n)) (have n)

  files_held : AreFilledRows rows → HoldsFiles v0.seen v1 (record { promised = numbers.promised; writer = numbers.writer; committed = numbers.committed; table = rows })
  files_held filled = record {
    state = state_of numbers is.segments;
    stood = record { numbers = numbers_of v0.seen numbers is.segments have; segments = is.stands };
    holds = record {
      numbers = λ c left. numbers_of c numbers is.segments (have_left c left);
      segments = is.ready;
      starts = is.starts;
      filled = filled_segments v1.seen is.segments rows is.starts is.told filled;
      records = is.records;
      none_temporary = λ n. repaired.none_temporary (number_name n);
      none_fresh_record = λ start first small. ap v1.seen (fresh_name start) ∙ repaired.none_temporary (codes "paxos/" ++ padded 19 start);
    };
    promised = refl;
    writer = refl;
    committed = refl;
    rows = is.told;
    sound = is.sound;
  }

  pub made_found : (o : OpenedFiles) → IsMade numbers rows o → IsFoundRepaired v0.seen v1 o
  made_found (opened.Files f) made = subst (λ (g : NodeFiles). HoldsFiles v0.seen v1 g) (sym made.1) (files_held made.0)
  made_found (opened.BadFile name) made = inr (unfilled_segments v1.seen v0.seen is.segments rows made.0 name is.stands is.sound is.starts is.told made.1 made.2)
  made_found opened.DiskFault made = absurd made
  made_found opened.OutOfMemory made = tt

-- ## The repair before
module _ (old mid : Files) (new : View) (repairs : Repairs old mid) (spares : Spares old mid) (repaired : IsRepaired mid)
    (good : NoneIs (IsBadRecordFile old)) (numbers : NodeNumbers) (have : HaveNodeNumbers old numbers) where
  stood_before : (s : NodeState) → StandsAs mid s → StandsAs old s
  stood_before s is = record {
    numbers = λ n. subst (λ (file : Option (List ℕ)). IsNumber file (number_of n s)) (number_stays old mid repairs n) (is.numbers n);
    segments = completed_stood old mid spares repaired.tidy s.segments is.segments;
  }

  opens_before : (f : NodeFiles) → HoldsFiles mid new f → HoldsFiles old new f
  opens_before f is = record {
    state = is.state;
    stood = stood_before is.state is.stood;
    holds = is.holds;
    promised = is.promised;
    writer = is.writer;
    committed = is.committed;
    rows = is.rows;
    sound = is.sound;
  }

  unfilled_before : (name : List ℕ) → IsUnfilled mid name → IsUnfilled old name
  unfilled_before name is = record {
    segments = is.segments;
    stands = completed_stood old mid spares repaired.tidy is.segments is.stands;
    sound = is.sound;
    starts = is.starts;
    front = is.front;
    segment = is.segment;
    rest = is.rest;
    split = is.split;
    filled = is.filled;
    accepted = is.accepted;
    empty = is.empty;
    named = is.named;
  }

  refused_before : (name : List ℕ) → (IsFirst (IsBadSegmentFile mid) name × (new.seen ≡ mid)) ⊎ IsUnfilled mid name → Refuses old new.seen (opened.BadFile name)
  refused_before name (inl is) = inl (
    λ s stands. bad_segment_stands mid repaired.tidy name is.0.here s.segments (states_stay old mid repairs s stands).segments,
    inr (inr (
      none_bad old numbers have,
      good,
      subst (λ (files : Files). IsFirst (IsBadSegmentFile files) name) (sym is.1) is.0,
      subst (λ (files : Files). Spares old files) (sym is.1) spares,
    )),
  )
  refused_before name (inr is) = inr (unfilled_before name is)

  pub found_before : (o : OpenedFiles) → IsFoundRepaired mid new o → OpensAs old new o × Refuses old new.seen o
  found_before (opened.Files f) is = (opens_before f is, tt)
  found_before (opened.BadFile name) is = (tt, refused_before name is)
  found_before opened.DiskFault is = (tt, tt)
  found_before opened.OutOfMemory is = (tt, tt)

-- ## A file that ends opening before
module _ (old new : Files) (same : new ≡ old) where
  pub record_refused : (numbers : NodeNumbers) → HaveNodeNumbers old numbers → (name : List ℕ) → IsFirst (IsBadRecordFile old) name → Refuses old new (opened.BadFile name)
  record_refused numbers have name is = inl (
    λ s stands. bad_record_stands old name is.here s.segments stands.segments,
    inr (inl (none_bad old numbers have, is, same)),
  )

  number_refused : (name : List ℕ) → IsFirst (IsBadNumberFile old) name → Refuses old new (opened.BadFile name)
  number_refused name is = inl (λ s stands. bad_number_stands old name is.here s stands.numbers, inl (is, same))

pub number_found : (old : Files) (new : View) → new.seen ≡ old → (answer : OpenedFiles) → IsNumbersStop old answer → OpensAs old new answer × Refuses old new.seen answer
number_found old new same (opened.Files f) is = absurd is
number_found old new same (opened.BadFile name) is = (tt, number_refused old new.seen same name is)
number_found old new same opened.DiskFault is = (tt, tt)
number_found old new same opened.OutOfMemory is = (tt, tt)

pub found_after : (old mid : Files) (new : View) (o : OpenedFiles) → mid ≡ old → OpensAs mid new o × Refuses mid new.seen o → OpensAs old new o × Refuses old new.seen o
found_after old mid new o same is = subst (λ (files : Files). OpensAs files new o × Refuses files new.seen o) same is

-- ## The answer that is made of the rows
module _ (name : List ℕ) where
  pub bad_within : (o : OpenedFiles) → IsBadAt name o → IsWithinFiles o
  bad_within (opened.Files f) is = absurd is
  bad_within (opened.BadFile bad) is = tt
  bad_within opened.DiskFault is = tt
  bad_within opened.OutOfMemory is = tt

pub files_within : (numbers : NodeNumbers) (rows : List SegmentRow) → AreSmall numbers → AreSoundRows rows
    → IsWithinFiles (opened.Files (record { promised = numbers.promised; writer = numbers.writer; committed = numbers.committed; table = rows }))
files_within numbers rows small sound = (small Promised, small Writer, small Committed, tell_segments rows sound)
