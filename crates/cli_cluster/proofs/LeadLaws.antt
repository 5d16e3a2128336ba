-- How a name node in a cluster ends, and what is known of its life.
use Rattle.std.proofs.Common.{ℕ, ◌≡◌, List, [], Option, Bool, true, false, refl, sym, ap, subst, ◌∙◌, inl, inr, ◌⊎◌}
use Rattle.std.specs.Prelude.{◌≢◌}
use Rattle.std.specs.Io.KnownBytes.{Appends}
use Rattle.std.proofs.KnownBytes.{Appends-nil}
use Rattle.base_outside.specs.Faults.{Rose}
use Rattle.mesh.specs.Makers.{IsOfChores}
use Rattle.play_model.specs.Actions.{ActorView}
use Rattle.pipe_seats.specs.Calls.{EndsView}
use Rattle.pipe_seats.specs.Opened.{CameAsTheirs}
use Rattle.pipe_seats.specs.Piped.{PipesView, AreLater, AreResting}
use Rattle.pipe_lead.specs.declared.lead_end.LeadEnd.{LeadEnd}
use Rattle.pipe_lead.specs.declared.lead_end.LeadEnd.TheVariants as lead_end
use Rattle.pipe_lead.specs.Leads.{Leads, IfLasts}
use Rattle.cli_commands.specs.declared.command_fault.CommandFault.{CommandFault}
use Rattle.cli_commands.specs.declared.status.Status.{Status}
use Rattle.cli_commands.specs.declared.status.Status.TheVariants as status
use Rattle.cli_commands.specs.Faults.{status_of, line_of}
use Rattle.cli_commands.specs.Told.{WritesLine}
use Rattle.cli_commands.specs.Uses.{SourceUse, SinkUse, AReadFailed, NoReadFailed, AWriteFailed}
use Rattle.cli_cluster.specs.Leads.{status_after, line_after, TellsLeadEnd, LeadsCluster}

-- ## The end
-- nothing is written of it
pub untold : (end outcome : LeadEnd) (failed : Bool) (before : Option (List ℕ)) (v k : ℕ) → end ≡ outcome → line_after outcome failed ≡ []
    → TellsLeadEnd end failed (status_after outcome failed) (record { before = before; now = before; faults_before = v; faults_now = v; kept_before = k; kept_now = k })
untold end outcome failed before v k is none = record {
  status_is = ap (λ (x : LeadEnd). status_after x failed) (sym is);
  line = record {
    front = (0, Appends-nil before);
    unless_failed = λ n. subst (λ (x : List ℕ). Appends before before x) (sym none ∙ ap (λ (x : LeadEnd). line_after x failed) (sym is)) (Appends-nil before);
    handed = λ n z. z;
  };
  no_line = λ o. refl;
  idle = λ o. refl;
}

-- a fault's line is written
pub told : (end outcome : LeadEnd) (failed : Bool) (of : CommandFault) (s : Status) (sink : SinkUse) → end ≡ outcome → status_after outcome failed ≡ status_of of
    → line_after outcome failed ≡ line_of of → status_of of ≢ status.Ok → status_of of ≢ status.WriteFault → s ≡ status_of of → WritesLine (line_of of) sink → TellsLeadEnd end failed s sink
told end outcome failed of s sink is e l not_ok not_write fault line = record {
  status_is = fault ∙ sym e ∙ ap (λ (x : LeadEnd). status_after x failed) (sym is);
  line = subst (λ (x : List ℕ). WritesLine x sink) (sym l ∙ ap (λ (x : LeadEnd). line_after x failed) (sym is)) line;
  no_line = λ o. absurd (neither o);
  idle = λ o. absurd (neither o);
}
  where
    neither : (s ≡ status.Ok) ⊎ (s ≡ status.WriteFault) → ⊥
    neither (inl o) = not_ok (sym fault ∙ o)
    neither (inr o) = not_write (sym fault ∙ o)

-- ## Which end has which status
is_done : (end : LeadEnd) (failed : Bool) → status_after end failed ≡ status.Ok → end ≡ lead_end.Done
is_done lead_end.Done failed e = refl
is_done lead_end.LongLine failed e = absurd (cc e)
is_done lead_end.ReadFault failed e = absurd (cc e)
is_done lead_end.WriteFault failed e = absurd (cc e)
is_done lead_end.OutOfMemory true e = absurd (cc e)
is_done lead_end.OutOfMemory false e = absurd (cc e)

is_unread : (end : LeadEnd) (failed : Bool) → status_after end failed ≡ status.ReadFault → end ≡ lead_end.ReadFault
is_unread lead_end.Done failed e = absurd (cc e)
is_unread lead_end.LongLine failed e = absurd (cc e)
is_unread lead_end.ReadFault failed e = refl
is_unread lead_end.WriteFault failed e = absurd (cc e)
is_unread lead_end.OutOfMemory true e = absurd (cc e)
is_unread lead_end.OutOfMemory false e = absurd (cc e)

is_unwritten : (end : LeadEnd) (failed : Bool) → status_after end failed ≡ status.WriteFault → end ≡ lead_end.WriteFault
is_unwritten lead_end.Done failed e = absurd (cc e)
is_unwritten lead_end.LongLine failed e = absurd (cc e)
is_unwritten lead_end.ReadFault failed e = absurd (cc e)
is_unwritten lead_end.WriteFault failed e = refl
is_unwritten lead_end.OutOfMemory true e = absurd (cc e)
is_unwritten lead_end.OutOfMemory false e = absurd (cc e)

write_or_not : (end : LeadEnd) → (end ≡ lead_end.WriteFault) ⊎ (end ≢ lead_end.WriteFault)
write_or_not lead_end.Done = inr (λ e. cc e)
write_or_not lead_end.LongLine = inr (λ e. cc e)
write_or_not lead_end.ReadFault = inr (λ e. cc e)
write_or_not lead_end.WriteFault = inl refl
write_or_not lead_end.OutOfMemory = inr (λ e. cc e)

-- ## The life
-- `mid` is the sink after the results, with so many faults and bytes kept back as it had then
module _ (end : LeadEnd) (failed : Bool) (s : Status) (mid : Option (List ℕ)) (u k : ℕ) (sink : SinkUse)
    (told_end : TellsLeadEnd end failed s (record sink { before = mid; faults_before = u; kept_before = k })) where
  told_unwritten : end ≡ lead_end.WriteFault → s ≡ status.WriteFault
  told_unwritten e = told_end.status_is ∙ ap (λ (x : LeadEnd). status_after x failed) e

  failed_before : (end ≡ lead_end.WriteFault → Rose sink.faults_before u) → end ≡ lead_end.WriteFault → AWriteFailed sink
  failed_before rose e = subst (λ (j : ℕ). Rose sink.faults_before j) (sym (told_end.no_line (inr (told_unwritten e)))) (rose e)

  -- a line that was written after the results, by the faults of all writes
  line_behind : (end ≡ lead_end.WriteFault → Rose sink.faults_before u) → (end ≢ lead_end.WriteFault → u ≡ sink.faults_before) → (end ≢ lead_end.WriteFault → sink.kept_before ≡ 0 → k ≡ 0)
      → (end ≡ lead_end.WriteFault) ⊎ (end ≢ lead_end.WriteFault) → WritesLine (line_after end failed) (record sink { before = mid })
  line_behind rose same hands (inl e) = record {
    front = told_end.line.front;
    unless_failed = λ n. absurd (n (failed_before rose e));
    handed = λ n. absurd (n (failed_before rose e));
  }
  line_behind rose same hands (inr n) =
      let line = subst (λ (j : ℕ). WritesLine (line_after end failed) (record sink { before = mid; faults_before = j; kept_before = k })) (same n) told_end.line in
      record { front = line.front; unless_failed = line.unless_failed; handed = λ f z. line.handed f (hands n z) }

  pub leads_cluster : (Came : ℕ → EndsView → Type 0) (begun actor : ActorView) (was seats : PipesView) (source : SourceUse)
      → IfLasts end (Leads was.log.nodes begun actor seats.log source.told source.left sink.before mid end)
      → IfLasts end (IsOfChores was.log.nodes seats.log.past) → IfLasts end (AreLater was seats) → CameAsTheirs Came seats.seats → IfLasts end (AreResting was.seats → AreResting seats.seats)
      → (end ≡ lead_end.ReadFault → AReadFailed source) → (end ≢ lead_end.ReadFault → NoReadFailed source)
      → (end ≡ lead_end.WriteFault → Rose sink.faults_before u) → (end ≢ lead_end.WriteFault → u ≡ sink.faults_before)
      → (end ≢ lead_end.WriteFault → sink.kept_before ≡ 0 → k ≡ 0) → LeadsCluster Came failed begun actor was seats source sink s
  leads_cluster Came begun actor was seats source leads made piped opened resting unread read unwritten written hands = record {
    end = end;
    status_is = told_end.status_is;
    told = mid;
    leads = leads;
    made = made;
    piped = piped;
    opened = opened;
    resting = resting;
    line = line_behind unwritten written hands (write_or_not end);
    read_fault = λ e. unread (is_unread end failed (sym told_end.status_is ∙ e));
    no_read_fault = λ n. read (λ e. n (told_end.status_is ∙ ap (λ (x : LeadEnd). status_after x failed) e));
    write_fault = λ e. failed_before unwritten (is_unwritten end failed (sym told_end.status_is ∙ e));
    no_write_fault = λ e. told_end.no_line (inl e) ∙ written (λ x. cc (is_done end failed (sym told_end.status_is ∙ e), x));
    handed = λ e z. told_end.idle (inl e) ∙ hands (λ x. cc (is_done end failed (sym told_end.status_is ∙ e), x)) z;
  }
