-- How the serving of a node ends, case by case.
use Rattle.std.proofs.Common.{◌≡◌, Bool, true, false, List, [], Option, Some, None, refl, sym, ap, subst, ◌∙◌, inl, inr, ◌⊎◌, append-nil}
use Rattle.std.specs.Prelude.{ℕ, ◌≢◌}
use Rattle.std.specs.Io.KnownBytes.{Appends}
use Rattle.disk_node.specs.declared.open_fail.OpenFail.{OpenFail}
use Rattle.disk_node.specs.declared.open_fail.OpenFail.TheVariants as fail
use Rattle.disk_node.specs.Opening.{IsRefusedOpening, IsCauseOf, is_fault}
use Rattle.journal_session.specs.declared.served.Served.{Served}
use Rattle.cli_commands.specs.declared.status.Status.{Status}
use Rattle.cli_commands.specs.declared.status.Status.TheVariants as status
use Rattle.cli_commands.specs.declared.command_fault.CommandFault.{CommandFault}
use Rattle.cli_commands.specs.declared.command_fault.CommandFault.TheVariants as fault
use Rattle.cli_commands.specs.Uses.{SinkUse, DiskUse}
use Rattle.cli_commands.specs.Faults.{status_of, line_of}
use Rattle.cli_commands.specs.Told.{WritesLine, IsBadFile, IsToldAs, TellsFault}
use Rattle.cli_commands.specs.Serving.{status_at, line_at, is_disk_fault, IsUnopened}
use Rattle.cli_commands.specs.NodeEnds.{TellsEnd, fault_in}

appends_none : (bytes : Option (List ℕ)) → Appends bytes bytes []
appends_none None = tt
appends_none (Some xs) = sym (append-nil xs)

-- ## The end of a session
-- nothing is written of it
end_untold : (ended : Served) (before : Option (List ℕ)) (v k : ℕ) → line_at ended ≡ []
    → TellsEnd ended (status_at ended) (record { before = before; now = before; faults_before = v; faults_now = v; kept_before = k; kept_now = k })
end_untold ended before v k none = record {
  status_is = refl;
  line = record { front = (0, appends_none before); unless_failed = λ n. subst (λ (x : List ℕ). Appends before before x) (sym none) (appends_none before); handed = λ n z. z };
  no_line = λ is. refl;
  idle = λ is. refl;
}

-- a fault that isn't a bad file is told as it is
told_same : (of told : CommandFault) → IsToldAs of told → (IsBadFile of → ⊥) → told ≡ of
told_same of by (inl e) n = e
told_same of by (inr e) n = absurd (n e.1)

end_told : (ended : Served) (of : CommandFault) (s : Status) (sink : SinkUse) → status_at ended ≡ status_of of → line_at ended ≡ line_of of → (IsBadFile of → ⊥)
    → status_of of ≢ status.Ok → status_of of ≢ status.WriteFault → TellsFault of s sink → TellsEnd ended s sink
end_told ended of s sink e l n not_ok not_write tells =
    let told : tells.told ≡ of = told_same of tells.told tells.told_as n in
    let is : s ≡ status_of of = tells.status_is ∙ ap status_of told in
    record {
      status_is = is ∙ sym e;
      line = subst (λ (x : List ℕ). WritesLine x sink) (ap line_of told ∙ sym l) tells.line;
      no_line = λ o. absurd (none is o);
      idle = λ o. absurd (none is o);
    }
  where
    none : s ≡ status_of of → (s ≡ status.Ok) ⊎ (s ≡ status.WriteFault) → ⊥
    none is (inl o) = not_ok (sym is ∙ o)
    none is (inr o) = not_write (sym is ∙ o)

-- a session that is known to have ended so is told by the fault that has its status and its line
pub told : (ended outcome : Served) (of : CommandFault) (s : Status) (sink : SinkUse) → ended ≡ outcome → status_at outcome ≡ status_of of → line_at outcome ≡ line_of of → (IsBadFile of → ⊥)
    → status_of of ≢ status.Ok → status_of of ≢ status.WriteFault → TellsFault of s sink → TellsEnd ended s sink
told ended outcome of s sink is e l n not_ok not_write tells = subst (λ (o : Served). TellsEnd o s sink) (sym is) (end_told outcome of s sink e l n not_ok not_write tells)

pub untold : (ended outcome : Served) (before : Option (List ℕ)) (v k : ℕ) → ended ≡ outcome → line_at outcome ≡ []
    → TellsEnd ended (status_at outcome) (record { before = before; now = before; faults_before = v; faults_now = v; kept_before = k; kept_now = k })
untold ended outcome before v k is none =
    subst (λ (o : Served). TellsEnd o (status_at outcome) (record { before = before; now = before; faults_before = v; faults_now = v; kept_before = k; kept_now = k })) (sym is)
    (end_untold outcome before v k none)

-- ## A node that wasn't opened
module _ {D : Type 0} (sink : SinkUse) (disk : DiskUse D) (s : Status) where
  unopened_as : (told : CommandFault) → s ≡ status_of told → IsUnopened sink disk (status_of told) → IsUnopened sink disk s
  unopened_as told e is = subst (λ (x : Status). IsUnopened sink disk x) (sym e) is

  bad_unopened : (last : D) (name : List ℕ) (told : CommandFault) → (disk.tells disk.before → IsRefusedOpening (disk.view disk.before).seen (disk.view disk.now).seen (fail.BadFile last name))
      → IsToldAs (fault.BadFile name) told → s ≡ status_of told → WritesLine (line_of told) sink → IsUnopened sink disk s
  bad_unopened last name by bad (inl e) is line =
      unopened_as (fault.BadFile name) (is ∙ ap status_of e) (name, bad, subst (λ (f : CommandFault). WritesLine (line_of f) sink) e line)
  bad_unopened last name by bad (inr e) is line = unopened_as fault.OutOfMemory (is ∙ ap status_of e.0) (subst (λ (f : CommandFault). WritesLine (line_of f) sink) e.0 line)

  pub unopened_is : (of : OpenFail D) → (disk.tells disk.before → IsRefusedOpening (disk.view disk.before).seen (disk.view disk.now).seen of) → TellsFault (fault_in of) s sink
      → IsUnopened sink disk s
  unopened_is (fail.DiskFault last) bad tells =
      let told : tells.told ≡ fault.DiskFault = told_same fault.DiskFault tells.told tells.told_as (λ b. b) in
      unopened_as fault.DiskFault (tells.status_is ∙ ap status_of told) (subst (λ (f : CommandFault). WritesLine (line_of f) sink) told tells.line)
  unopened_is (fail.BadFile last name) bad tells = bad_unopened last name tells.told bad tells.told_as tells.status_is tells.line
  unopened_is (fail.OutOfMemory last) bad tells =
      let told : tells.told ≡ fault.OutOfMemory = told_same fault.OutOfMemory tells.told tells.told_as (λ b. b) in
      unopened_as fault.OutOfMemory (tells.status_is ∙ ap status_of told) (subst (λ (f : CommandFault). WritesLine (line_of f) sink) told tells.line)

  -- a disk fault is told where one came
  told_fault : (of told : CommandFault) → IsToldAs of told → status_of told ≡ status.DiskFault → status_of of ≡ status.DiskFault
  told_fault of by (inl e) is = sym (ap status_of e) ∙ is
  told_fault of by (inr e) is = absurd (let m : status.OutOfMemory ≡ status.DiskFault = sym (ap status_of e.0) ∙ is in cc m)

  was_fault : (t : Status) → is_disk_fault t ≡ true → t ≡ status.DiskFault
  was_fault status.Ok e = absurd (cc e)
  was_fault status.Usage e = absurd (cc e)
  was_fault status.BadScript e = absurd (cc e)
  was_fault status.BadBytes e = absurd (cc e)
  was_fault status.Limit e = absurd (cc e)
  was_fault status.Unsound e = absurd (cc e)
  was_fault status.ReadFault e = absurd (cc e)
  was_fault status.WriteFault e = absurd (cc e)
  was_fault status.DiskFault e = refl
  was_fault status.OutOfMemory e = absurd (cc e)
  was_fault status.Locked e = absurd (cc e)

  opening_fault : (of : OpenFail D) → status_of (fault_in of) ≡ status.DiskFault → is_fault of ≡ true
  opening_fault (fail.DiskFault last) e = refl
  opening_fault (fail.BadFile last name) e = absurd (cc e)
  opening_fault (fail.OutOfMemory last) e = absurd (cc e)

  one_of : (a : Bool) → (a ≡ true → ⊥) → a ≡ false
  one_of true n = absurd (n refl)
  one_of false n = refl

  pub opening_cause : (of : OpenFail D) (f g : ℕ) (was is : Type 0) → TellsFault (fault_in of) s sink → IsCauseOf f g was is (is_fault of) → IsCauseOf f g was is (is_disk_fault s)
  opening_cause of f g was is tells cause =
      let back : is_disk_fault s ≡ true → is_fault of ≡ true = λ e.
      opening_fault of (told_fault (fault_in of) tells.told tells.told_as (sym tells.status_is ∙ was_fault s e)) in
      record {
        later = cause.later;
        rose = λ e. cause.rose (back e);
        steady = λ w. let still = cause.steady w in (still.0, one_of (is_disk_fault s) (λ e. let no = still.1 in let yes = back e in cc (no, yes)));
      }
