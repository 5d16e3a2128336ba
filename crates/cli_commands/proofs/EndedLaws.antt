-- How the end of a session shows in the status.
use Rattle.std.proofs.Common.{◌≡◌, List, Option, Some, refl, sym, ap, subst, ◌∙◌, inl, inr, ◌⊎◌}
use Rattle.std.specs.Prelude.{ℕ, ◌≢◌}
use Rattle.base_outside.specs.Faults.{Rose}
use Rattle.base_disk.specs.View.{View}
use Rattle.journal_core.specs.declared.node_state.NodeState.{NodeState}
use Rattle.journal_session.specs.Session.{IsSessionOf}
use Rattle.journal_session.specs.declared.served.Served.{Served}
use Rattle.journal_session.specs.declared.served.Served.TheVariants as served
use Rattle.cli_commands.specs.declared.status.Status.{Status}
use Rattle.cli_commands.specs.declared.status.Status.TheVariants as status
use Rattle.cli_commands.specs.Uses.{SourceUse, SinkUse, AReadFailed, NoReadFailed}
use Rattle.cli_commands.specs.Told.{WritesLine}
use Rattle.cli_commands.specs.Serving.{status_at, line_at}
use Rattle.cli_commands.specs.NodeEnds.{IsKept, TellsEnd, ServesFrom}

-- ## Which end has which status
is_done : (o : Served) → status_at o ≡ status.Ok → o ≡ served.Done
is_done served.Done e = refl
is_done (served.BadLine number rule) e = absurd (cc e)
is_done served.LongLine e = absurd (cc e)
is_done served.LongInput e = absurd (cc e)
is_done served.ReadFault e = absurd (cc e)
is_done served.WriteFault e = absurd (cc e)
is_done served.DiskFault e = absurd (cc e)
is_done served.OutOfMemory e = absurd (cc e)

is_unread : (o : Served) → status_at o ≡ status.ReadFault → o ≡ served.ReadFault
is_unread served.Done e = absurd (cc e)
is_unread (served.BadLine number rule) e = absurd (cc e)
is_unread served.LongLine e = absurd (cc e)
is_unread served.LongInput e = absurd (cc e)
is_unread served.ReadFault e = refl
is_unread served.WriteFault e = absurd (cc e)
is_unread served.DiskFault e = absurd (cc e)
is_unread served.OutOfMemory e = absurd (cc e)

is_unwritten : (o : Served) → status_at o ≡ status.WriteFault → o ≡ served.WriteFault
is_unwritten served.Done e = absurd (cc e)
is_unwritten (served.BadLine number rule) e = absurd (cc e)
is_unwritten served.LongLine e = absurd (cc e)
is_unwritten served.LongInput e = absurd (cc e)
is_unwritten served.ReadFault e = absurd (cc e)
is_unwritten served.WriteFault e = refl
is_unwritten served.DiskFault e = absurd (cc e)
is_unwritten served.OutOfMemory e = absurd (cc e)

write_or_not : (o : Served) → (o ≡ served.WriteFault) ⊎ (o ≢ served.WriteFault)
write_or_not served.Done = inr (λ e. cc e)
write_or_not (served.BadLine number rule) = inr (λ e. cc e)
write_or_not served.LongLine = inr (λ e. cc e)
write_or_not served.LongInput = inr (λ e. cc e)
write_or_not served.ReadFault = inr (λ e. cc e)
write_or_not served.WriteFault = inl refl
write_or_not served.DiskFault = inr (λ e. cc e)
write_or_not served.OutOfMemory = inr (λ e. cc e)

-- ## The parts of an end that was told
-- `mid` is the sink after the replies, with so many faults and bytes kept back as it had then
module _ (ended : Served) (s : Status) (mid : Option (List ℕ)) (u k : ℕ) (sink : SinkUse) (told : TellsEnd ended s (record sink { before = mid; faults_before = u; kept_before = k })) where
  ended_done : s ≡ status.Ok → ended ≡ served.Done
  ended_done e = is_done ended (sym told.status_is ∙ e)

  ended_unread : s ≡ status.ReadFault → ended ≡ served.ReadFault
  ended_unread e = is_unread ended (sym told.status_is ∙ e)

  ended_unwritten : s ≡ status.WriteFault → ended ≡ served.WriteFault
  ended_unwritten e = is_unwritten ended (sym told.status_is ∙ e)

  -- and back
  told_unread : ended ≡ served.ReadFault → s ≡ status.ReadFault
  told_unread e = told.status_is ∙ ap status_at e

  told_unwritten : ended ≡ served.WriteFault → s ≡ status.WriteFault
  told_unwritten e = told.status_is ∙ ap status_at e

  -- a line that was written after the replies, by the faults of all writes
  failed_before : (ended ≡ served.WriteFault → Rose sink.faults_before u) → ended ≡ served.WriteFault → Rose sink.faults_before sink.faults_now
  failed_before rose e = subst (λ (j : ℕ). Rose sink.faults_before j) (sym (told.no_line (inr (told_unwritten e)))) (rose e)

  line_after : (ended ≡ served.WriteFault → Rose sink.faults_before u) → (ended ≢ served.WriteFault → u ≡ sink.faults_before) → (ended ≢ served.WriteFault → sink.kept_before ≡ 0 → k ≡ 0)
      → (ended ≡ served.WriteFault) ⊎ (ended ≢ served.WriteFault) → WritesLine (line_at ended) (record sink { before = mid })
  line_after rose same hands (inl e) = record {
    front = told.line.front;
    unless_failed = λ n. absurd (n (failed_before rose e));
    handed = λ n. absurd (n (failed_before rose e));
  }
  line_after rose same hands (inr n) =
      let line = subst (λ (j : ℕ). WritesLine (line_at ended) (record sink { before = mid; faults_before = j; kept_before = k })) (same n) told.line in
      record { front = line.front; unless_failed = line.unless_failed; handed = λ f z. line.handed f (hands n z) }

  pub session_told : (lines : List (List ℕ)) (next : Option (List ℕ)) (Trail : List (List ℕ) → Option (List ℕ) → Served → Option (List ℕ) → Type 0) (source : SourceUse)
      (old new : Option NodeState) (tells_now : Type 0) (disk_now : View)
      → Trail lines next ended mid → IsSessionOf lines next ended source.told source.left old new sink.before mid
      → (ended ≡ served.ReadFault → AReadFailed source) → (ended ≢ served.ReadFault → NoReadFailed source)
      → (ended ≡ served.WriteFault → Rose sink.faults_before u) → (ended ≢ served.WriteFault → u ≡ sink.faults_before)
      → (ended ≢ served.WriteFault → sink.kept_before ≡ 0 → k ≡ 0)
      → ((t : NodeState) → new ≡ Some t → IsKept disk_now t) → (tells_now → (t : NodeState) × IsKept disk_now t)
      → ServesFrom Trail old tells_now disk_now source sink s
  session_told lines next Trail source old new tells_now disk_now trail session unread read unwritten written hands kept stands = record {
    outcome = ended;
    status_is = told.status_is;
    replied = mid;
    new = new;
    lines = lines;
    next = next;
    trail = trail;
    session = session;
    kept = kept;
    stands = stands;
    line = line_after unwritten written hands (write_or_not ended);
    read_fault = λ e. unread (ended_unread e);
    no_read_fault = λ n. read (λ e. n (told_unread e));
    write_fault = λ e. subst (λ (j : ℕ). Rose sink.faults_before j) (sym (told.no_line (inr e))) (unwritten (ended_unwritten e));
    no_write_fault = λ e. told.no_line (inl e) ∙ written (λ x. cc (ended_done e, x));
    handed = λ e z. told.idle (inl e) ∙ hands (λ x. cc (ended_done e, x)) z;
  }
