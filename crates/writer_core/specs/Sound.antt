-- What holds of every writer.
use Rattle.std.specs.Prelude.{ℕ, ◌+◌, ◌-◌, ◌≡◌, ◌≢◌, ◌<◌, ◌≤◌, List, [], length, count_by, position, true, Option, Some, IfSome, slice_get}
use Rattle.journal_core.specs.declared.request.Request.{Request}
use Rattle.writer_core.specs.declared.round.Round.{Round}
use Rattle.writer_core.specs.declared.round.Round.TheVariants as round
use Rattle.writer_core.specs.declared.phase.Phase.{Phase}
use Rattle.writer_core.specs.declared.phase.Phase.TheVariants as phase
use Rattle.writer_core.specs.declared.slot.Slot.{Slot}
use Rattle.writer_core.specs.Views.{WriterView}
use Rattle.writer_core.specs.Answers.{is_ok, is_waiting}
use Rattle.writer_core.specs.Best.{Best}
use Rattle.writer_core.specs.Rounds.{request_in}
use Rattle.writer_core.specs.Current.{round_in}

-- it owns an epoch and numbers its requests
pub record HasHead (w : WriterView) : Type 0 where
  pub epoch : 0 < w.epoch
  pub serial : 0 < w.serial

-- the node's answer is of the Ok kind
abbrev pub IsOkAt : Round → ℕ → List Slot → Type 0
IsOkAt r node slots = (slot : Slot) × (0 < node) × (slice_get slots (node - 1) ≡ Some slot) × (is_ok r slot ≡ true)

-- the best of the prepare answers that count
pub record IsCounted (start : ℕ) (best : Best) (slots : List Slot) : Type 0 where
  pub told : start ≤ best.info.end
  pub end_fits : best.info.end ≤ 4611686018427387904
  pub counted : IsOkAt (round.Prepare start) best.node slots

-- Edits are missing up to the told end. Each fetch that fails draws a serial and takes a node out
-- of the count.
pub record IsFetching (node start end : ℕ) (bodies : List (List ℕ)) (w : WriterView) : Type 0 where
  pub head : HasHead w
  pub missing : start + length bodies ≤ end
  pub end_fits : end ≤ 4611686018427387904
  pub counted : IsOkAt (round.Prepare start) node w.slots
  pub serials : w.serial + count_by (is_ok (round.Prepare start)) w.slots ≤ 4611686018427387905 + length w.slots

pub record IsAccepting (first : ℕ) (bodies : List (List ℕ)) (w : WriterView) : Type 0 where
  pub head : HasHead w
  pub some : bodies ≢ []
  pub end_fits : first + length bodies ≤ 4611686018427387905

pub record IsStoring (bodies : List (List ℕ)) (w : WriterView) : Type 0 where
  pub head : HasHead w
  pub some : bodies ≢ []
  pub few : length bodies ≤ 256

pub record IsProposing (w : WriterView) : Type 0 where
  pub epoch : 0 < w.epoch
  pub serial : w.serial ≡ 0

pub record IsPreparing (start : ℕ) (w : WriterView) : Type 0 where
  pub head : HasHead w
  pub start_fits : start ≤ 4611686018427387904

abbrev pub RoundIsSound : Round → WriterView → Type 0
RoundIsSound round.State w = Unit {0}
RoundIsSound round.Propose w = IsProposing w
RoundIsSound (round.Prepare start) w = IsPreparing start w
RoundIsSound (round.Fetch node start end bodies) w = IsFetching node start end bodies w
RoundIsSound (round.Accept batch) w = IsAccepting batch.first batch.bodies w
RoundIsSound (round.Finalize start end) w = HasHead w
RoundIsSound round.Start w = HasHead w
RoundIsSound round.Open w = HasHead w
RoundIsSound (round.Write bodies) w = IsStoring bodies w
RoundIsSound (round.Purge min) w = HasHead w

abbrev pub PhaseIsSound : Phase → WriterView → Type 0
PhaseIsSound (phase.InRound r) w = RoundIsSound r w
PhaseIsSound phase.Writing w = HasHead w
PhaseIsSound phase.Idle w = Unit {0}
PhaseIsSound phase.Stopped w = Unit {0}

pub record IsSound (w : WriterView) : Type 0 where
  pub left : length w.left ≡ length w.slots
  pub causes : length w.causes ≡ length w.slots
  pub serial : w.serial ≤ 4611686018427387905 + length w.slots
  pub start : w.start ≤ 4611686018427387905
  pub next : w.next ≤ 4611686018427387905
  pub phase : PhaseIsSound w.phase w

-- with the first node that waits, and the request of the round, where it was made
pub record IsKept (w : WriterView) (first : Option ℕ) (made : Option Request) : Type 0 where
  pub sound : IsSound w
  pub place : first ≡ position is_waiting w.slots
  pub request : IfSome made (λ r. r ≡ request_in w (round_in w.phase))
