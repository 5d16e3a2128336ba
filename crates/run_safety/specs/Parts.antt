-- What every run keeps, part by part: promises, owners, values, the chain of starts, survival,
-- finalised segments, the newest start, what a recovery takes over, and what a purge spares. Lists
-- of entries stand newest first, but for the newest start's law.
use Rattle.std.specs.Prelude.{ℕ, ◌+◌, ◌<◌, ◌≤◌, ◌≡◌, ◌⊎◌, true, false, List, ◌∷◌, ◌++◌, length, reverse, Option, None, Some, slice_get}
use Rattle.journal_core.specs.Views.{HeadView, BatchView}
use Rattle.journal_core.specs.Limits.{head_of}
use Rattle.journal_core.specs.Segments.{find_segment, newest, info_of, has_edit, end_of, HasAt}
use Rattle.journal_core.specs.Step.{last_or_start}
use Rattle.journal_core.specs.declared.node_state.NodeState.{NodeState}
use Rattle.journal_core.specs.declared.segment.Segment.{Segment}
use Rattle.journal_core.specs.declared.segment_info.SegmentInfo.{SegmentInfo}
use Rattle.journal_core.specs.declared.request.Request.{Request}
use Rattle.journal_core.specs.declared.request.Request.TheVariants.{NewEpoch, Journal, Finalize, Prepare, Accept, Purge}
use Rattle.journal_core.specs.declared.reply.Reply.{Reply}
use Rattle.journal_core.specs.declared.reply.Reply.TheVariants.{NewEpoch as EpochTaken, Prepared, Refused}
use Rattle.writer_core.specs.Best.{outranks}
use Rattle.writer_core.specs.Whole.{TaskProgress, writer_at}
use Rattle.run_safety.specs.Majority.{Member, IsMajority}
use Rattle.journal_history.specs.Entries.{Way, Heard, Entry, Answer, Earlier, node_after}
use Rattle.run_safety.specs.Run.{Story, IsRun, takeover_at}
use Rattle.run_safety.specs.Safe.{HasBody, IsHeld, IsChosen, IsOnLine, IsOf, IsStart, SaidOk}

-- ## Promises
-- The promise bounds the writer and each header. The open segment is in progress, and its header
-- has the promise.
pub record KeepsPromise (s : NodeState) : Type 0 where
  pub writer : s.writer ≤ s.promised
  pub headers : (start : ℕ) (g : Segment) → find_segment start s.segments ≡ Some g → g.epoch ≤ s.promised
  pub opened :
      (start : ℕ) → s.opened ≡ Some start
      → (g : Segment) × (find_segment start s.segments ≡ Some g) × (g.epoch ≡ s.promised) × (g.is_final ≡ false)

-- whatever came
abbrev pub PromisesHold : Type 0
PromisesHold = (node : ℕ) (entries : List Entry) → KeepsPromise (node_after node entries)

abbrev pub IsRefused : Reply → Type 0
IsRefused (Refused refusal) = Unit {0}
IsRefused _ = ⊥

-- a request that wasn't refused leaves a promise of at least its epoch
abbrev pub AnswersArePromised : ℕ → List Entry → Type 0
AnswersArePromised n past =
    (old : List Entry) (e : Entry) (caller : ℕ) (way : Way) (request : Request) (reply : Reply) (head : HeadView)
    → Earlier (e ∷ old) past → e.move ≡ Answer caller way request reply → (IsRefused reply → ⊥)
    → head_of request ≡ Some head → head.epoch ≤ (node_after e.node (e ∷ old)).promised

-- A proposal that a node took was above its promise, is its promise then, and bounds it from below
-- ever after.
abbrev pub EpochsArePromised : ℕ → List Entry → Type 0
EpochsArePromised n past =
    (old : List Entry) (e : Entry) (caller : ℕ) (way : Way) (epoch : ℕ) (told : Option ℕ)
    → Earlier (e ∷ old) past → e.move ≡ Answer caller way (NewEpoch epoch) (EpochTaken told)
    → ((node_after e.node old).promised < epoch) × ((node_after e.node (e ∷ old)).promised ≡ epoch) × (epoch ≤ (node_after e.node past).promised)

-- ## Owners
-- all requests with a head of one epoch belong to one takeover
abbrev pub OneOwnerAnEpoch : ℕ → Story → List Entry → Type 0
OneOwnerAnEpoch n story past =
    (xs ys : List Entry) (x y : Entry) (p q : Request) (head other : HeadView)
    → Earlier (x ∷ xs) past → Earlier (y ∷ ys) past → IsOf x p → IsOf y q → head_of p ≡ Some head → head_of q ≡ Some other
    → head.epoch ≡ other.epoch → story.whose (length xs) ≡ story.whose (length ys)

-- each of these nodes took the proposal of this epoch that this takeover made
abbrev pub TookEpoch : Story → List Entry → ℕ → ℕ → List ℕ → Type 0
TookEpoch story past takeover epoch nodes =
    (node : ℕ) → Member node nodes
    → (old : List Entry) × (e : Entry) × Earlier (e ∷ old) past × (e.node ≡ node) × (story.whose (length old) ≡ takeover)
    × ((caller : ℕ) × (way : Way) × (told : Option ℕ) × (e.move ≡ Answer caller way (NewEpoch epoch) (EpochTaken told)))

-- two proposals of one epoch that majorities took are one takeover's
abbrev pub OneProposalAnEpoch : ℕ → Story → List Entry → Type 0
OneProposalAnEpoch n story past =
    (i j epoch : ℕ) (nodes others : List ℕ)
    → IsMajority n nodes → IsMajority n others → TookEpoch story past i epoch nodes → TookEpoch story past j epoch others → i ≡ j

-- and so are all requests with a head of that epoch
abbrev pub ProposerIsOwner : ℕ → Story → List Entry → Type 0
ProposerIsOwner n story past =
    (old : List Entry) (e : Entry) (takeover : ℕ) (nodes : List ℕ) (request : Request) (head : HeadView)
    → IsMajority n nodes → TookEpoch story past takeover head.epoch nodes → Earlier (e ∷ old) past → IsOf e request → head_of request ≡ Some head
    → story.whose (length old) ≡ takeover

-- ## Values
-- under one epoch a txid is written once, in one segment
abbrev pub WrittenOnce : ℕ → List Entry → Type 0
WrittenOnce n past =
    (i j : ℕ) (g h : Segment) (txid : ℕ) (x y : List ℕ)
    → IsHeld past i g → IsHeld past j h → g.epoch ≡ h.epoch → HasAt g txid x → HasAt h txid y
    → (g.start ≡ h.start) × (x ≡ y)

-- what is held of a segment under an epoch that recovered it is the batch that was accepted
abbrev pub AcceptedIsTheValue : ℕ → List Entry → Type 0
AcceptedIsTheValue n past =
    (old : List Entry) (e : Entry) (head : HeadView) (batch : BatchView) (node : ℕ) (g : Segment)
    → Earlier (e ∷ old) past → IsOf e (Accept head batch)
    → IsHeld past node g → g.start ≡ batch.first → g.epoch ≡ head.epoch → g.bodies ≡ batch.bodies

-- ## The chain of starts
-- a finalise round of this segment to this end was done under this epoch
abbrev pub IsFinalised : ℕ → List Entry → ℕ → ℕ → ℕ → Type 0
IsFinalised n past epoch start end =
    (head : HeadView) × (head.epoch ≡ epoch)
    × ((nodes : List ℕ) × IsMajority n nodes × ((node : ℕ) → Member node nodes → SaidOk past node (Finalize head start end)))

-- a start is 1, or comes right after the end of a finalise that was done, under this epoch or a
-- lower one
abbrev pub IsAfterFinalised : ℕ → List Entry → ℕ → ℕ → Type 0
IsAfterFinalised n past epoch start =
    (start ≡ 1)
    ⊎ ((lower : ℕ) × (first : ℕ) × (last : ℕ) × (lower ≤ epoch) × (last + 1 ≡ start) × IsFinalised n past lower first last)

-- each `start` of a segment
abbrev pub StartsAreChained : ℕ → List Entry → Type 0
StartsAreChained n past =
    (old : List Entry) (e : Entry) (epoch start : ℕ)
    → Earlier (e ∷ old) past → IsStart e epoch start → IsAfterFinalised n past epoch start

-- each segment with an edit that a node held
abbrev pub SegmentsAreChained : ℕ → List Entry → Type 0
SegmentsAreChained n past =
    (node : ℕ) (g : Segment) (txid : ℕ) (body : List ℕ)
    → IsHeld past node g → HasAt g txid body → IsAfterFinalised n past g.epoch g.start

-- Each start comes right after the end of the start before it: between a segment for which a
-- finalise was done and its end no other segment begins.
abbrev pub StartsAreNext : ℕ → List Entry → Type 0
StartsAreNext n past =
    (epoch first last node : ℕ) (g : Segment) (txid : ℕ) (body : List ℕ)
    → IsFinalised n past epoch first last → IsHeld past node g → HasAt g txid body
    → (g.start ≤ first) ⊎ (last < g.start)

-- ## Survival
-- what is chosen stands in each segment of a higher epoch that doesn't begin above it
abbrev pub ChosenSurvives : ℕ → List Entry → Type 0
ChosenSurvives n past =
    (node epoch txid : ℕ) (g : Segment) (body : List ℕ)
    → IsChosen n past epoch txid body → IsHeld past node g → epoch < g.epoch
    → (txid < g.start) ⊎ HasAt g txid body

-- a higher epoch begins its segments above it
abbrev pub StartsAreAbove : ℕ → List Entry → Type 0
StartsAreAbove n past =
    (old : List Entry) (e : Entry) (epoch higher txid start : ℕ) (body : List ℕ)
    → IsChosen n past epoch txid body → Earlier (e ∷ old) past → IsStart e higher start → epoch < higher
    → txid < start

-- ## Finalised segments
-- all of a segment for which a finalise was sent is chosen, under that epoch or a lower one
abbrev pub FinalisedIsChosen : ℕ → List Entry → Type 0
FinalisedIsChosen n past =
    (old : List Entry) (e : Entry) (head : HeadView) (start end : ℕ)
    → Earlier (e ∷ old) past → IsOf e (Finalize head start end)
    → (epoch : ℕ) × (epoch ≤ head.epoch)
    × ((txid : ℕ) → start ≤ txid → txid ≤ end → (body : List ℕ) × IsChosen n past epoch txid body)

-- a final copy has all that was held of the segment under its epoch
abbrev pub FinalCopiesHaveAll : ℕ → List Entry → Type 0
FinalCopiesHaveAll n past =
    (i j : ℕ) (g h : Segment) (txid : ℕ) (body : List ℕ)
    → IsHeld past i g → IsHeld past j h → g.is_final ≡ true → h.start ≡ g.start → h.epoch ≡ g.epoch
    → HasAt h txid body → HasAt g txid body

-- and is what is held of it under each higher epoch
abbrev pub FinalCopiesAreKept : ℕ → List Entry → Type 0
FinalCopiesAreKept n past =
    (i j : ℕ) (g h : Segment)
    → IsHeld past i g → IsHeld past j h → g.is_final ≡ true → h.start ≡ g.start → g.epoch < h.epoch
    → h.bodies ≡ g.bodies

-- a `journal` round of this segment under this epoch, with a body, was done
abbrev pub IsAcknowledgedIn : ℕ → List Entry → ℕ → ℕ → Type 0
IsAcknowledgedIn n past epoch start =
    (head : HeadView) × (batch : BatchView) × (head.epoch ≡ epoch) × (1 ≤ length batch.bodies)
    × ((nodes : List ℕ) × IsMajority n nodes × ((node : ℕ) → Member node nodes → SaidOk past node (Journal head start batch)))

-- A node that answered a finalise with Ok holds the segment, final and to that end, unless a later
-- start has an acknowledged edit under an epoch that isn't above the node's promise.
abbrev pub FinalisedStays : ℕ → List Entry → Type 0
FinalisedStays n past =
    (node : ℕ) (head : HeadView) (start end : ℕ)
    → SaidOk past node (Finalize head start end)
    → ((g : Segment) × (find_segment start (node_after node past).segments ≡ Some g) × (g.is_final ≡ true) × (end_of g ≡ end))
    ⊎ ((epoch : ℕ) × (later : ℕ) × (epoch ≤ (node_after node past).promised) × (start < later)
    × IsAcknowledgedIn n past epoch later)

-- ## The newest start
abbrev pub NewestNeverFalls : Type 0
NewestNeverFalls =
    (n : ℕ) (xs ys : List Entry) (node start : ℕ) → IsRun n (xs ++ ys)
    → newest (node_after node (reverse xs)).segments ≡ Some start
    → (later : ℕ) × (newest (node_after node (reverse (xs ++ ys))).segments ≡ Some later) × (start ≤ later)

-- ## What a recovery takes over
-- the node's heard answer to a prepare under this epoch, right after these entries
abbrev pub ToldPrepare : List Entry → List Entry → ℕ → ℕ → ℕ → Option SegmentInfo → Type 0
ToldPrepare past old node epoch start segment =
    (e : Entry) × Earlier (e ∷ old) past × (e.node ≡ node)
    × ((caller : ℕ) × (head : HeadView) × (writer : ℕ) × (committed : ℕ) × (head.epoch ≡ epoch)
    × (e.move ≡ Answer caller Heard (Prepare head start) (Prepared writer committed segment)))

abbrev pub IsNotAbove : Option SegmentInfo → SegmentInfo → Type 0
IsNotAbove None best = Unit {0}
IsNotAbove (Some info) best = outranks info best ≡ false

-- A node answered a prepare of the segment, and the bodies are all that it held when it did. A
-- majority answered a prepare too, and told no segment that ranks above that one.
pub record IsWhole (n : ℕ) (past : List Entry) (epoch : ℕ) (batch : BatchView) : Type 0 where
  pub best : ℕ
  pub at_place : List Entry
  pub held : Segment
  pub told : ToldPrepare past at_place best epoch batch.first (Some (info_of held))
  pub found : find_segment batch.first (node_after best at_place).segments ≡ Some held
  pub bodies : batch.bodies ≡ held.bodies
  pub nodes : List ℕ
  pub majority : IsMajority n nodes
  pub is_best :
      (node : ℕ) → Member node nodes
      → (old : List Entry) × (segment : Option SegmentInfo) × ToldPrepare past old node epoch batch.first segment × IsNotAbove segment (info_of held)

abbrev pub RecoveryIsWhole : ℕ → List Entry → Type 0
RecoveryIsWhole n past =
    (old : List Entry) (e : Entry) (head : HeadView) (batch : BatchView)
    → Earlier (e ∷ old) past → IsOf e (Accept head batch) → IsWhole n past head.epoch batch

-- ## Authors
-- a `journal` request under this epoch came that has this body at this txid
abbrev pub IsJournaled : List Entry → ℕ → ℕ → List ℕ → Type 0
IsJournaled past epoch txid body =
    (old : List Entry) × (e : Entry) × Earlier (e ∷ old) past
    × ((head : HeadView) × (start : ℕ) × (batch : BatchView) × (head.epoch ≡ epoch) × IsOf e (Journal head start batch)
    × HasBody batch.first batch.bodies txid body)

-- An epoch is the author of the line up to a txid: its owner journaled all from its first start to
-- there, as it stands on the line.
pub record IsAuthor (n : ℕ) (past : List Entry) (epoch first txid : ℕ) : Type 0 where
  pub started : (old : List Entry) × (e : Entry) × Earlier (e ∷ old) past × IsStart e epoch first
  pub is_first : (old : List Entry) (e : Entry) (start : ℕ) → Earlier (e ∷ old) past → IsStart e epoch start → first ≤ start
  pub begins_below : first ≤ txid
  pub journaled : (t : ℕ) → first ≤ t → t ≤ txid → (body : List ℕ) × IsJournaled past epoch t body × IsOnLine n past t body

abbrev pub LineHasAuthors : ℕ → List Entry → Type 0
LineHasAuthors n past =
    (txid : ℕ) (body : List ℕ) → IsOnLine n past txid body
    → (epoch : ℕ) × (first : ℕ) × IsAuthor n past epoch first txid

-- ## What put an entry of the line there
-- a `journal` request came that has this body at this txid, and all of its batch up to there stands
-- on the line
pub record IsPutByJournal (n : ℕ) (past : List Entry) (txid : ℕ) (body : List ℕ) : Type 0 where
  pub old : List Entry
  pub entry : Entry
  pub within : Earlier (entry ∷ old) past
  pub head : HeadView
  pub start : ℕ
  pub batch : BatchView
  pub of_request : IsOf entry (Journal head start batch)
  pub k : ℕ
  pub place : txid ≡ batch.first + k
  pub has : slice_get batch.bodies k ≡ Some body
  pub on_line : (j : ℕ) (other : List ℕ) → j ≤ k → slice_get batch.bodies j ≡ Some other → IsOnLine n past (batch.first + j) other

abbrev pub LineIsPutByJournals : ℕ → List Entry → Type 0
LineIsPutByJournals n past =
    (txid : ℕ) (body : List ℕ) → IsOnLine n past txid body
    → IsPutByJournal n past txid body

-- ## Opened or accepted
-- no epoch both opens a segment and recovers it
abbrev pub OpenedOrAccepted : ℕ → List Entry → Type 0
OpenedOrAccepted n past =
    (xs ys : List Entry) (x y : Entry) (epoch : ℕ) (head : HeadView) (batch : BatchView)
    → Earlier (x ∷ xs) past → Earlier (y ∷ ys) past → IsStart x epoch batch.first → IsOf y (Accept head batch)
    → head.epoch ≡ epoch → ⊥

-- ## What a proposal is told
-- the node's heard answer to a proposal of this epoch told this newest start
abbrev pub ToldNewest : List Entry → ℕ → ℕ → Option ℕ → Type 0
ToldNewest past node epoch told =
    (old : List Entry) × (e : Entry) × Earlier (e ∷ old) past × (e.node ≡ node)
    × ((caller : ℕ) × (e.move ≡ Answer caller Heard (NewEpoch epoch) (EpochTaken told)))

-- Where a body is chosen, one of any majority that answered a proposal of a higher epoch held it,
-- and told a start that isn't below its segment's.
abbrev pub ProposalsAreTold : ℕ → List Entry → Type 0
ProposalsAreTold n past =
    (epoch higher txid : ℕ) (body nodes : List ℕ)
    → IsChosen n past epoch txid body → epoch < higher
    → IsMajority n nodes → ((node : ℕ) → Member node nodes → (told : Option ℕ) × ToldNewest past node higher told)
    → (node : ℕ) × (start : ℕ) × (g : Segment) × IsHeld past node g × (g.epoch ≡ epoch) × HasAt g txid body
    × (g.start ≤ start) × ToldNewest past node higher (Some start)

-- ## What a purge may remove
-- A segment goes from a node by a purge alone, whose committed txid it doesn't pass; neither the
-- open segment goes nor the newest with an edit.
abbrev pub OnlyPurgesRemove : ℕ → List Entry → Type 0
OnlyPurgesRemove n past =
    (old : List Entry) (e : Entry) (node start : ℕ) (g : Segment)
    → Earlier (e ∷ old) past
    → find_segment start (node_after node old).segments ≡ Some g → find_segment start (node_after node (e ∷ old)).segments ≡ None
    → (head : HeadView) × (min : ℕ) × IsOf e (Purge head min) × (last_or_start g ≤ head.committed)
    × (has_edit g ≡ true → newest (node_after node old).segments ≡ Some start → ⊥)

-- the takeover of the call at this place has this segment open in the call's round
abbrev pub IsFrom : ℕ → Story → List Entry → ℕ → Type 0
IsFrom n story old start =
    (underway : TaskProgress) × (writer_at n (takeover_at story old) (story.round (length old)) ≡ Some underway) × (underway.writer.start ≡ start)

-- A purge removes copies of segments before the one that it is sent from, or copies of that one in
-- progress that end within its committed txid: no final copy of it, and none of a later segment.
abbrev pub PurgesKeepTheirSegment : ℕ → Story → List Entry → Type 0
PurgesKeepTheirSegment n story past =
    (old : List Entry) (e : Entry) (node start : ℕ) (g : Segment)
    → Earlier (e ∷ old) past
    → find_segment start (node_after node old).segments ≡ Some g → find_segment start (node_after node (e ∷ old)).segments ≡ None
    → (head : HeadView) × (min : ℕ) × (from : ℕ) × IsOf e (Purge head min) × IsFrom n story old from
    × ((start < from) ⊎ ((start ≡ from) × (last_or_start g ≤ head.committed) × (g.is_final ≡ false)))

-- ## Why a segment is opened
-- a majority told no newest start to the proposal of this epoch
abbrev pub NoneToldNewest : ℕ → List Entry → ℕ → Type 0
NoneToldNewest n past epoch = (nodes : List ℕ) × IsMajority n nodes × ((node : ℕ) → Member node nodes → ToldNewest past node epoch None)

-- a majority answered the prepare of this segment, and told nothing of it
abbrev pub NoneToldPrepare : ℕ → List Entry → ℕ → ℕ → Type 0
NoneToldPrepare n past epoch start =
    (nodes : List ℕ) × IsMajority n nodes × ((node : ℕ) → Member node nodes → (old : List Entry) × ToldPrepare past old node epoch start None)

-- A segment that is opened is the first one, where no start was told; or one of which nothing was
-- told; or it comes right after the end of a finalise that was done under the same epoch. So a
-- takeover leaves its recovery out only where a majority told that there is nothing to recover.
abbrev pub OpeningsHaveACause : ℕ → List Entry → Type 0
OpeningsHaveACause n past =
    (old : List Entry) (e : Entry) (epoch start : ℕ)
    → Earlier (e ∷ old) past → IsStart e epoch start
    → ((start ≡ 1) × NoneToldNewest n past epoch)
    ⊎ (NoneToldPrepare n past epoch start
    ⊎ ((first : ℕ) × (last : ℕ) × (last + 1 ≡ start) × IsFinalised n past epoch first last))
