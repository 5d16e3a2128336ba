-- All parts of what a run keeps, as one record of it.
use Rattle.std.specs.Prelude.{ℕ, ◌≤◌, ◌≡◌, List, reverse, Some}
use Rattle.journal_core.specs.Segments.{newest}
use Rattle.journal_history.specs.Entries.{Entry, Earlier, node_after}
use Rattle.run_safety.specs.Run.{Story, Follows, IsRun}
use Rattle.run_safety.specs.Laws.{KnownCommittedIsChosen, CarriedCommittedIsChosen}
use Rattle.run_safety.specs.Parts.{KeepsPromise, AnswersArePromised, EpochsArePromised, OneOwnerAnEpoch, OneProposalAnEpoch, ProposerIsOwner}
use Rattle.run_safety.specs.Parts.{WrittenOnce, AcceptedIsTheValue, OpenedOrAccepted, StartsAreChained, SegmentsAreChained, StartsAreNext, OpeningsHaveACause}
use Rattle.run_safety.specs.Parts.{ChosenSurvives, StartsAreAbove, FinalisedIsChosen, FinalCopiesHaveAll, FinalCopiesAreKept, FinalisedStays}
use Rattle.run_safety.specs.Parts.{ProposalsAreTold, OnlyPurgesRemove, PurgesKeepTheirSegment, RecoveryIsWhole, LineHasAuthors, LineIsPutByJournals}

-- it holds of each run, whose entries stand newest first there
abbrev pub OfEveryRun : (ℕ → List Entry → Type 0) → Type 0
OfEveryRun P = (n : ℕ) (entries : List Entry) → IsRun n entries → P n (reverse entries)

-- and it holds however the run's calls are told
abbrev pub OfEveryStory : (ℕ → Story → List Entry → Type 0) → Type 0
OfEveryStory P = (n : ℕ) (story : Story) (past : List Entry) → Follows n story past → P n story past

-- What a run keeps beside its safety, newest entry first.
pub record KeepsParts (n : ℕ) (past : List Entry) : Type 0 where
  -- promises
  pub promises : (node : ℕ) → KeepsPromise (node_after node past)
  pub answers : AnswersArePromised n past
  pub epochs : EpochsArePromised n past
  -- owners
  pub owners : (story : Story) → Follows n story past → OneOwnerAnEpoch n story past
  pub proposals : (story : Story) → Follows n story past → OneProposalAnEpoch n story past
  pub proposers : (story : Story) → Follows n story past → ProposerIsOwner n story past
  -- values
  pub written : WrittenOnce n past
  pub accepted_values : AcceptedIsTheValue n past
  pub opened_or_accepted : OpenedOrAccepted n past
  -- the chain of starts
  pub starts : StartsAreChained n past
  pub segments : SegmentsAreChained n past
  pub starts_next : StartsAreNext n past
  pub openings : OpeningsHaveACause n past
  -- survival
  pub chosen : ChosenSurvives n past
  pub starts_above : StartsAreAbove n past
  pub known : KnownCommittedIsChosen n past
  pub carried : CarriedCommittedIsChosen n past
  -- finalised segments
  pub finalised : FinalisedIsChosen n past
  pub final_whole : FinalCopiesHaveAll n past
  pub final_kept : FinalCopiesAreKept n past
  pub final_stays : FinalisedStays n past
  -- the newest start
  pub newest_rises :
      (old : List Entry) (node start : ℕ) → Earlier old past → newest (node_after node old).segments ≡ Some start
      → (later : ℕ) × (newest (node_after node past).segments ≡ Some later) × (start ≤ later)
  pub told : ProposalsAreTold n past
  pub removed : OnlyPurgesRemove n past
  pub spared : (story : Story) → Follows n story past → PurgesKeepTheirSegment n story past
  -- what a recovery takes over, and who wrote the line
  pub recovered : RecoveryIsWhole n past
  pub authors : LineHasAuthors n past
  pub journals : LineIsPutByJournals n past
