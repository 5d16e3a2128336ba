-- What was written of what is due.
use Rattle.std.proofs.Common.{◌≡◌, List, Option, Result, Ok, Err, refl, ap, subst, ◌∙◌, inl, inr}
use Rattle.std.specs.Prelude.{ℕ, IfOk, IfErr}
use Rattle.cli_commands.specs.declared.status.Status.{Status}
use Rattle.cli_commands.specs.declared.status.Status.TheVariants as status
use Rattle.cli_commands.specs.declared.command_fault.CommandFault.{CommandFault}
use Rattle.cli_commands.specs.declared.command_fault.CommandFault.TheVariants as fault
use Rattle.cli_commands.specs.Uses.{SinkUse}
use Rattle.cli_commands.specs.Faults.{status_of, line_of}
use Rattle.cli_commands.specs.Told.{WritesLine, IsBadFile, IsToldAs, TellsFault, TellsText, Told, wrote_text, told_fault}

-- ## A line

pub tells_so : (of : CommandFault) (line : List ℕ) (s : Status) (sink : SinkUse) → s ≡ status_of of → line ≡ line_of of → WritesLine line sink → TellsFault of s sink
tells_so of line s sink e l wrote = record { told = of; told_as = inl refl; status_is = e; line = subst (λ (x : List ℕ). WritesLine x sink) l wrote }

-- no memory for the line of a bad file
pub tells_memory : (of : CommandFault) (line : List ℕ) (s : Status) (sink : SinkUse) → IsBadFile of → s ≡ status.OutOfMemory → line ≡ line_of fault.OutOfMemory → WritesLine line sink
    → TellsFault of s sink
tells_memory of line s sink bad e l wrote = record { told = fault.OutOfMemory; told_as = inr (refl, bad); status_is = e; line = subst (λ (x : List ℕ). WritesLine x sink) l wrote }

-- such a fault
pub bad_file_is : (of : CommandFault) → IsBadFile of → (name : List ℕ) × (of ≡ fault.BadFile name)
bad_file_is (fault.Usage place) is = absurd is
bad_file_is (fault.BadScript line rule) is = absurd is
bad_file_is (fault.BadReport line rule) is = absurd is
bad_file_is fault.NoFile is = absurd is
bad_file_is (fault.BadBytes place cause) is = absurd is
bad_file_is (fault.BadImage place cause) is = absurd is
bad_file_is (fault.BadFile name) is = (name, refl)
bad_file_is fault.NoPath is = absurd is
bad_file_is fault.NotJson is = absurd is
bad_file_is (fault.BadEntry index) is = absurd is
bad_file_is (fault.TooManyEntries number) is = absurd is
bad_file_is (fault.Limit number) is = absurd is
bad_file_is fault.ReadFault is = absurd is
bad_file_is fault.DiskFault is = absurd is
bad_file_is fault.OutOfMemory is = absurd is

-- ## What is due
pub told_of : {T : Type 0} (items : T → List ℕ) (Gives : Status → List ℕ → Type 0) (Faults : CommandFault → Type 0) (due : Result T CommandFault) (s : Status) (sink : SinkUse)
    → IfOk due (λ t. Gives status.Ok (items t)) → IfErr due Faults → IfOk due (λ t. TellsText status.Ok (items t) s sink) → IfErr due (λ e. TellsFault e s sink)
    → Told Gives Faults s sink
told_of items Gives Faults (Ok t) s sink gives faults wrote told = wrote_text status.Ok (items t) gives wrote
told_of items Gives Faults (Err e) s sink gives faults wrote told = told_fault e faults told

-- the sink before a fault was told is the one before
pub tells_from : (of : CommandFault) (s : Status) (sink : SinkUse) (mid : Option (List ℕ)) (u k : ℕ) → mid ≡ sink.before → u ≡ sink.faults_before → k ≡ sink.kept_before
    → TellsFault of s (record sink { before = mid; faults_before = u; kept_before = k }) → TellsFault of s sink
tells_from of s sink mid u k e f h tells =
    subst (λ (j : ℕ). TellsFault of s (record sink { before = sink.before; faults_before = sink.faults_before; kept_before = j })) h
    (subst (λ (j : ℕ). TellsFault of s (record sink { before = sink.before; faults_before = j; kept_before = k })) f
    (subst (λ (m : Option (List ℕ)). TellsFault of s (record sink { before = m; faults_before = u; kept_before = k })) e tells))

-- the status of a fault that isn't a bad file
pub told_status : (of : CommandFault) (s : Status) (sink : SinkUse) → (IsBadFile of → ⊥) → TellsFault of s sink → s ≡ status_of of
told_status of s sink n tells = tells.status_is ∙ ap status_of (by tells.told_as)
  where
    by : IsToldAs of tells.told → tells.told ≡ of
    by (inl e) = e
    by (inr e) = absurd (n e.1)
