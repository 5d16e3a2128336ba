-- What stands in each round of a takeover, and which round comes after which: the table of rounds,
-- inverted once. No run is named here.
use Rattle.std.proofs.Common.{◌≡◌, ℕ, suc, ◌+◌, ◌-◌, ◌<◌, ◌≤◌, true, List, [], ◌++◌, length, take, Option, Some, None}
use Rattle.std.specs.List.{list_all}
use Rattle.journal_core.specs.Views.{BatchView, last_txid}
use Rattle.journal_core.specs.declared.segment_info.SegmentInfo.{SegmentInfo}
use Rattle.journal_core.specs.declared.reply.Reply.{Reply}
use Rattle.journal_core.specs.declared.reply.Reply.TheVariants.{Edits}
use Rattle.journal_core.specs.declared.heard.Heard.TheVariants.{Answer}
use Rattle.writer_core.specs.declared.round.Round.{Round as TableRound}
use Rattle.writer_core.specs.declared.round.Round.TheVariants as table
use Rattle.writer_core.specs.declared.slot.Slot.{Slot}
use Rattle.writer_core.specs.declared.slot.Slot.TheVariants.{Told}
use Rattle.writer_core.specs.Answers.{fits_prepare, fits_propose, has_majority}
use Rattle.writer_core.specs.Best.{best_of}
use Rattle.writer_core.specs.Rounds.{start_record, batch_from}
use Rattle.writer_core.specs.Whole.{Takeover, TaskProgress}
use Rattle.run_safety.specs.Majority.{Member, IsMajority}
use Rattle.run_safety.specs.Run.{may_follow}
use Rattle.run_safety.proofs.Slots.{At, IsFresh, AllWait, told_newest, AtLeast}
use Rattle.run_safety.proofs.SeenLaws.{Round, Propose, Ask, Get, Recover, Finalizing, Open, Write, Clean, Other, Writer, seen, is_ok_kind}

-- ## What was heard in a round
pub record OkHeard (n : ℕ) (w : Writer) (heard : ℕ → Option Reply) (i : ℕ) (reply : Reply) : Type 0 where
  pub from_one : 1 ≤ i
  pub up_to_n : i ≤ n
  pub was_heard : heard i ≡ Some reply
  pub kind : is_ok_kind w.round reply ≡ true

-- a majority answered with the Ok kind
pub record Done (n : ℕ) (w : Writer) (heard : ℕ → Option Reply) : Type 0 where
  pub nodes : List ℕ
  pub majority : IsMajority n nodes
  pub each : (i : ℕ) → Member i nodes → (reply : Reply) × OkHeard n w heard i reply

-- the greatest start that the answers to a proposal told
pub record Newest (n : ℕ) (heard : ℕ → Option Reply) (o : Option ℕ) : Type 0 where
  pub by : (m : ℕ) → o ≡ Some m → (i : ℕ) × (reply : Reply) × (1 ≤ i) × (i ≤ n) × (heard i ≡ Some reply) × (fits_propose reply ≡ true) × (told_newest reply ≡ Some m)
  pub least : (i k : ℕ) (reply : Reply) → 1 ≤ i → i ≤ n → heard i ≡ Some reply → fits_propose reply ≡ true → told_newest reply ≡ Some k → AtLeast k o

-- the prepare answers that count: each was heard in round 1, and they are a majority's
pub record Counted (n : ℕ) (t : Takeover) (m : ℕ) (slots : List Slot) : Type 0 where
  pub heard : (i : ℕ) (reply : Reply) → At 1 slots i (Told (Answer reply)) → fits_prepare m reply ≡ true → t.heard 1 i ≡ Some reply
  pub all : length slots ≡ n
  pub enough : has_majority (table.Prepare m) slots ≡ true

-- the best of them is that node's, and its segment has that end
pub record Getting (n : ℕ) (t : Takeover) (m node end : ℕ) (slots : List Slot) : Type 0 where
  pub counted : Counted n t m slots
  pub info : SegmentInfo
  pub best : best_of m slots ≡ Some (record { node = node; info = info })
  pub end_is : info.end ≡ end

-- ## The frame of each round
abbrev pub Framed : Writer → Round → Type 0
Framed w Propose = w.committed ≡ 0
Framed w (Ask m) = (w.committed ≡ 0) × (1 ≤ m)
Framed w (Get node m end bodies) = (w.committed ≡ 0) × (1 ≤ m) × (m ≤ end)
Framed w (Recover b) = (w.committed ≡ 0) × (1 ≤ b.first) × (1 ≤ length b.bodies)
Framed w (Finalizing m l) = (w.committed ≡ l) × (1 ≤ m) × (m ≤ l)
Framed w (Open m) = (w.committed + 1 ≡ m) × (w.start ≡ m) × (w.next ≡ m)
Framed w (Write m b) = (w.committed + 1 ≡ b.first) × (w.start ≡ m) × (1 ≤ m) × (m ≤ b.first) × (w.next ≡ b.first + length b.bodies) × (1 ≤ length b.bodies)
Framed w (Clean l) = (w.committed + 1 ≡ w.next) × (1 ≤ w.start) × (w.start < w.next)
Framed w Other = ⊥

abbrev pub Frame : Writer → Type 0
Frame w = Framed w w.round

-- The txids that a round writes: from `low_of` to below `end_below`.
abbrev pub low_of : Writer → Round → ℕ
low_of w Propose = 0
low_of w (Ask m) = 0
low_of w (Get node m end bodies) = 0
low_of w (Recover b) = b.first
low_of w (Finalizing m l) = l + 1
low_of w (Open m) = m
low_of w (Write m b) = b.first
low_of w (Clean l) = w.next
low_of w Other = 0

abbrev pub end_below : Writer → Round → ℕ
end_below w Propose = 0
end_below w (Ask m) = 0
end_below w (Get node m end bodies) = 0
end_below w (Recover b) = b.first + length b.bodies
end_below w (Finalizing m l) = l + 1
end_below w (Open m) = m
end_below w (Write m b) = b.first + length b.bodies
end_below w (Clean l) = w.next
end_below w Other = 0

-- a round of the segment that is open
abbrev pub IsWriting : Round → Type 0
IsWriting (Write m b) = Unit {0}
IsWriting (Clean l) = Unit {0}
IsWriting _ = ⊥

abbrev pub IsGet : Round → Type 0
IsGet (Get node m end bodies) = Unit {0}
IsGet _ = ⊥

-- a round of the recovery of the segment at m, before anything is written
abbrev pub IsAsking : ℕ → Round → Type 0
IsAsking m (Ask k) = k ≡ m
IsAsking m (Get node k end bodies) = k ≡ m
IsAsking m _ = ⊥

-- the committed txid after a round of an open segment
abbrev pub committed_after : Writer → Round → ℕ
committed_after w (Write m b) = last_txid b
committed_after w _ = w.committed

-- the pieces with one more
abbrev pub more_pieces : ℕ → ℕ → List (List ℕ) → BatchView → List (List ℕ)
more_pieces m end bodies batch = bodies ++ take (end + 1 - (m + length bodies)) batch.bodies

-- ## The ways from one round to the next
pub data StepOf (n : ℕ) (t : Takeover) (s : ℕ) (w next : Writer) : Type 0 where
  asks_for : (m : ℕ) → w.round ≡ Propose → Newest n (t.heard s) (Some m) → next.round ≡ Ask m → StepOf n t s w next
  opens_at_one : w.round ≡ Propose → Newest n (t.heard s) None → next.round ≡ Open 1 → StepOf n t s w next
  opens_found_none : (m : ℕ) (slots : List Slot) → IsAsking m w.round → Counted n t m slots → best_of m slots ≡ None → next.round ≡ Open m → StepOf n t s w next
  gets : (m node end : ℕ) (slots : List Slot) → IsAsking m w.round → Getting n t m node end slots → next.round ≡ Get node m end [] → StepOf n t s w next
  gets_more : (m node end : ℕ) (bodies : List (List ℕ)) (batch : BatchView) (slots : List Slot) → w.round ≡ Get node m end bodies → t.heard s node ≡ Some (Edits batch) → Getting n t m node end slots →
      next.round ≡ Get node m end (more_pieces m end bodies batch) → StepOf n t s w next
  recovers : (m node end : ℕ) (bodies : List (List ℕ)) (batch : BatchView) (slots : List Slot) → w.round ≡ Get node m end bodies → t.heard s node ≡ Some (Edits batch) → Getting n t m node end slots →
      end < m + length (more_pieces m end bodies batch) → next.round ≡ Recover (batch_from m (more_pieces m end bodies batch)) → StepOf n t s w next
  seals_recovered : (b : BatchView) → w.round ≡ Recover b → next.round ≡ Finalizing b.first (last_txid b) → StepOf n t s w next
  opens_next : (m l : ℕ) → w.round ≡ Finalizing m l → next.round ≡ Open (l + 1) → StepOf n t s w next
  writes_first : (m : ℕ) → w.round ≡ Open m → next.round ≡ Write m (batch_from m start_record) → next.start ≡ m → next.committed ≡ w.committed → StepOf n t s w next
  seals_written : (m : ℕ) (b : BatchView) → w.round ≡ Write m b → next.round ≡ Finalizing w.start (last_txid b) → StepOf n t s w next
  goes_on : IsWriting w.round → IsWriting next.round → next.start ≡ w.start → next.committed ≡ committed_after w w.round → StepOf n t s w next

-- ## What holds of a writer in a round
abbrev pub Stands : ℕ → Takeover → ℕ → List Slot → TableRound → Type 0
Stands n t s slots table.State = ⊥
Stands n t s slots table.Propose = AllWait slots × (s ≡ 0)
Stands n t s slots (table.Prepare m) = AllWait slots × (s ≡ 1)
Stands n t s slots (table.Fetch node m end bodies) = Getting n t m node end slots
Stands n t s slots (table.Accept b) = IsFresh slots
Stands n t s slots (table.Finalize m l) = IsFresh slots
Stands n t s slots table.Start = IsFresh slots
Stands n t s slots table.Open = IsFresh slots
Stands n t s slots (table.Write bodies) = IsFresh slots
Stands n t s slots (table.Purge min) = IsFresh slots

pub record Sound (n : ℕ) (t : Takeover) (s : ℕ) (u : TaskProgress) : Type 0 where
  pub epoch : u.writer.epoch ≡ t.epoch
  pub serial : u.writer.serial ≡ s
  pub left : length u.writer.left ≡ n
  pub slots : length u.writer.slots ≡ n
  pub tasks : list_all may_follow u.tasks ≡ true
  pub frame : Frame (seen u)
  pub stands : Stands n t s u.writer.slots u.round

pub record Next (n : ℕ) (t : Takeover) (s : ℕ) (u next : TaskProgress) : Type 0 where
  pub sound : Sound n t (suc s) next
  pub step : StepOf n t s (seen u) (seen next)
  pub done : (IsGet (seen u).round → ⊥) → Done n (seen u) (t.heard s)
  pub low : end_below (seen u) (seen u).round ≤ low_of (seen next) (seen next).round
