-- A disk fault is told where one came.
use Rattle.std.proofs.Common.{◌≡◌, List, Result, Ok, Err, refl, sym, ap, ◌∙◌, inl, inr}
use Rattle.std.specs.Prelude.{ℕ, IfOk, IfErr}
use Rattle.base_disk.specs.Calls.{HasCause}
use Rattle.base_disk.specs.declared.disk.DiskFail.TheVariants as fail
use Rattle.base_disk.proofs.Causes.{cause_as}
use Rattle.cli_commands.specs.declared.status.Status.{Status}
use Rattle.cli_commands.specs.declared.status.Status.TheVariants as status
use Rattle.cli_commands.specs.declared.command_fault.CommandFault.{CommandFault}
use Rattle.cli_commands.specs.declared.command_fault.CommandFault.TheVariants as fault
use Rattle.cli_commands.specs.Uses.{SinkUse}
use Rattle.cli_commands.specs.Faults.{status_of}
use Rattle.cli_commands.specs.Told.{IsToldAs, TellsFault, TellsText}
use Rattle.cli_commands.specs.Listing.{disk_answer}
use Rattle.cli_commands.specs.Found.{answer_of}
use Rattle.cli_commands.proofs.ToldLaws.{told_status}

fault_back : (of : CommandFault) → disk_answer (status_of of) ≡ Err fail.Failed → of ≡ fault.DiskFault
fault_back (fault.Usage place) e = absurd (cc e)
fault_back (fault.BadScript line rule) e = absurd (cc e)
fault_back (fault.BadReport line rule) e = absurd (cc e)
fault_back fault.NoFile e = absurd (cc e)
fault_back (fault.BadBytes place cause) e = absurd (cc e)
fault_back (fault.BadImage place cause) e = absurd (cc e)
fault_back (fault.BadFile name) e = absurd (cc e)
fault_back fault.NoPath e = absurd (cc e)
fault_back fault.NotJson e = absurd (cc e)
fault_back (fault.BadEntry index) e = absurd (cc e)
fault_back (fault.TooManyEntries number) e = absurd (cc e)
fault_back (fault.Limit number) e = absurd (cc e)
fault_back fault.ReadFault e = absurd (cc e)
fault_back fault.DiskFault e = refl
fault_back fault.OutOfMemory e = absurd (cc e)

told_back : (of told : CommandFault) → IsToldAs of told → told ≡ fault.DiskFault → of ≡ fault.DiskFault
told_back of told (inl e) is = sym e ∙ is
told_back of told (inr e) is = absurd (cc (e.0, is))

text_back : (text : List ℕ) (s : Status) (sink : SinkUse) → TellsText status.Ok text s sink → disk_answer s ≡ Err fail.Failed → ⊥
text_back text s sink (inl w) e = cc (sym (ap disk_answer w.0) ∙ e)
text_back text s sink (inr w) e = cc (sym (ap disk_answer w.0) ∙ e)

answered_back : {T : Type 0} (items : T → List ℕ) (due : Result T CommandFault) (s : Status) (sink : SinkUse) → IfOk due (λ t. TellsText status.Ok (items t) s sink)
    → IfErr due (λ e. TellsFault e s sink)
    → disk_answer s ≡ Err fail.Failed → answer_of due ≡ Err fail.Failed
answered_back items (Ok t) s sink wrote tells e = absurd (text_back (items t) s sink wrote e)
answered_back {T} items (Err of) s sink wrote tells e =
    let told : tells.told ≡ fault.DiskFault = fault_back tells.told (sym (ap disk_answer tells.status_is) ∙ e) in
    ap (λ (f : CommandFault). answer_of {T = T} (Err f)) (told_back of tells.told tells.told_as told)

-- a disk fault that is due is told
fault_told : (T : Type 0) (of : CommandFault) (s : Status) (sink : SinkUse) → TellsFault of s sink → answer_of {T = T} (Err of) ≡ Err fail.Failed → disk_answer s ≡ Err fail.Failed
fault_told T (fault.Usage place) s sink tells e = absurd (cc e)
fault_told T (fault.BadScript line rule) s sink tells e = absurd (cc e)
fault_told T (fault.BadReport line rule) s sink tells e = absurd (cc e)
fault_told T fault.NoFile s sink tells e = absurd (cc e)
fault_told T (fault.BadBytes place cause) s sink tells e = absurd (cc e)
fault_told T (fault.BadImage place cause) s sink tells e = absurd (cc e)
fault_told T (fault.BadFile name) s sink tells e = absurd (cc e)
fault_told T fault.NoPath s sink tells e = absurd (cc e)
fault_told T fault.NotJson s sink tells e = absurd (cc e)
fault_told T (fault.BadEntry index) s sink tells e = absurd (cc e)
fault_told T (fault.TooManyEntries number) s sink tells e = absurd (cc e)
fault_told T (fault.Limit number) s sink tells e = absurd (cc e)
fault_told T fault.ReadFault s sink tells e = absurd (cc e)
fault_told T fault.DiskFault s sink tells e = ap disk_answer (told_status fault.DiskFault s sink (λ b. b) tells)
fault_told T fault.OutOfMemory s sink tells e = absurd (cc e)

answered_on : {T : Type 0} (due : Result T CommandFault) (s : Status) (sink : SinkUse) → IfErr due (λ e. TellsFault e s sink)
    → answer_of due ≡ Err fail.Failed → disk_answer s ≡ Err fail.Failed
answered_on (Ok t) s sink tells e = absurd (cc e)
answered_on {T = T} (Err of) s sink tells e = fault_told T of s sink tells e

pub cause_told : {T : Type 0} (items : T → List ℕ) (due : Result T CommandFault) (s : Status) (sink : SinkUse) (f g : ℕ) (was is : Type 0)
    → IfOk due (λ t. TellsText status.Ok (items t) s sink) → IfErr due (λ e. TellsFault e s sink) → HasCause f g was is (answer_of due) → HasCause f g was is (disk_answer s)
cause_told items due s sink f g was is wrote tells h =
    cause_as f g was is (answer_of due) (disk_answer s) h (answered_back items due s sink wrote tells) (answered_on due s sink tells)
