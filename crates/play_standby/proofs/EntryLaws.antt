-- A takeover: the rounds, and then the tail.
use Rattle.std.proofs.Common.{◌≡◌, ◌⊎◌, inl, inr, ℕ, ◌-◌, List, [], true, if◌then◌else◌, Some, refl, sym, ap, ◌∙◌, subst}
use Rattle.journal_core.specs.declared.peer_call.PeerCall.{PeerCall}
use Rattle.ns_edits.specs.Replay.{Image}
use Rattle.writer_core.specs.declared.task.Task.TheVariants as task
use Rattle.writer_core.specs.declared.turn.Outcome.TheVariants as outcome
use Rattle.writer_core.specs.Views.{WriterView}
use Rattle.writer_core.specs.Writer.{is_writing, writer_begun, writer_stopped}
use Rattle.writer_calls.specs.declared.taken.Taken.TheVariants as round
use Rattle.writer_calls.specs.Answers.{came_of_taken}
use Rattle.writer_calls.specs.Tasks.{Comes}
use Rattle.play_names.specs.Holding.{Holding, enters}
use Rattle.play_names.specs.Tails.{pass_begun}
use Rattle.play_names.specs.declared.tailed.Tailed.{Tailed}
use Rattle.play_names.specs.declared.tailed.Tailed.TheVariants as tailed
use Rattle.play_standby.specs.Standbys.{StandbyView, held}
use Rattle.play_standby.specs.Tailing.{IsTailed}
use Rattle.play_standby.specs.declared.taking.TakenOver.{TakenOver}
use Rattle.play_standby.specs.declared.taking.TakenOver.TheVariants as taken
use Rattle.play_standby.specs.Entering.{entry_begun, Enters, IsTakenOver, IsEntered, StandsEntered, IsTailedIn, keeps_epoch}
use Rattle.writer_calls.proofs.WriterEnds.{outcome_of}

-- ## The tail
pub tail_entered : (nodes first last : ℕ) (images : List Image) (from mid to : StandbyView) (before after : List PeerCall) (t : Tailed)
    → last ≡ first - 1 → held images mid ≡ enters last (held images from)
    → IsTailed nodes (pass_begun (Some last) (held images mid)) images before after to t → IsTailed nodes (entry_begun first (held images from)) images before after to t
tail_entered nodes first last images from mid to before after t e h is =
    subst (λ (k : ℕ). IsTailed nodes (pass_begun (Some k) (enters k (held images from))) images before after to t) e
    (subst (λ (x : Holding). IsTailed nodes (pass_begun (Some last) x) images before after to t) h is)

-- ## Both
-- the writer's rounds were done, and the standby's tail was this
module _ (nodes epoch first : ℕ) (old w new : WriterView) (from to : StandbyView) (before mid after : List PeerCall)
    (took : Comes task.Takeover old before w mid (came_of_taken (round.Taken epoch first))) where
  entered_writer : is_writing w.phase ≡ true
  entered_writer = ap is_writing took.phase

  pub taken_over : (t : TakenOver) → new ≡ (if keeps_epoch t then w else writer_stopped w) → ((images : List Image) → IsTailedIn nodes epoch first images from mid after to t)
      → (images : List Image) → IsTakenOver nodes images old from before after new to t
  taken_over (taken.Active e f) n h images =
      let x = h images in
      let mine : Enters nodes epoch first images old from before after w to (tailed.Reached (first - 1)) = record { mid = mid; took = took; tail = x.0 } in
      subst (λ (v : WriterView). Enters nodes e f images old from before after v to (tailed.Reached (f - 1))) (sym n)
      (subst (λ (k : ℕ). Enters nodes e k images old from before after w to (tailed.Reached (k - 1))) (sym x.2)
      (subst (λ (k : ℕ). Enters nodes k first images old from before after w to (tailed.Reached (first - 1))) (sym x.1) mine))
  taken_over (taken.Behind txid causes) n h images = record { epoch = epoch; first = first; writer = w; enters = record { mid = mid; took = took; tail = h images }; stopped = n }
  taken_over (taken.Purged least) n h images = record { epoch = epoch; first = first; writer = w; enters = record { mid = mid; took = took; tail = h images }; stopped = n }
  taken_over (taken.BadEntry txid) n h images =
      let mine : Enters nodes epoch first images old from before after w to (tailed.BadEntry txid) = record { mid = mid; took = took; tail = h images } in
      record { epoch = epoch; first = first; enters = subst (λ (v : WriterView). Enters nodes epoch first images old from before after v to (tailed.BadEntry txid)) (sym n) mine }
  taken_over taken.OutOfMemory n h images = by (h images)
    where
      by : IsTailed nodes (entry_begun first (held images from)) images mid after to tailed.OutOfMemory ⊎ ((after ≡ mid) × (to ≡ from))
          → IsTakenOver nodes images old from before after new to taken.OutOfMemory
      by (inl t) = inr (inl (record { epoch = epoch; first = first; writer = w; enters = record { mid = mid; took = took; tail = t }; stopped = n }))
      by (inr s) = inr (inr (record {
        epoch = epoch;
        first = first;
        writer = w;
        took = subst (λ (l : List PeerCall). Comes task.Takeover old before w l (came_of_taken (round.Taken epoch first))) (sym s.0) took;
        same = s.1;
        stopped = n;
      }))
  taken_over (taken.Aborted causes) n h images = absurd (h images)
  taken_over (taken.EpochLimit told) n h images = absurd (h images)

  pub stands_entered : (t : TakenOver) → new ≡ (if keeps_epoch t then w else writer_stopped w) → IsTailedIn nodes epoch first [] from mid after to t → StandsEntered t new to
  stands_entered (taken.Active e f) n h =
      let o = outcome_of (writer_begun old task.Takeover).writer w before mid (outcome.Takeover epoch first) took.calls in
      subst (λ (v : WriterView). IsEntered f v to) (sym n)
      (subst (λ (k : ℕ). IsEntered k w to) (sym h.2) (record { writing = entered_writer; next = o.0; within = o.1; position = h.3 ∙ refl }))
  stands_entered (taken.Behind txid causes) n h = tt
  stands_entered (taken.Purged least) n h = tt
  stands_entered (taken.BadEntry txid) n h = tt
  stands_entered taken.OutOfMemory n h = tt
  stands_entered (taken.Aborted causes) n h = tt
  stands_entered (taken.EpochLimit told) n h = tt
