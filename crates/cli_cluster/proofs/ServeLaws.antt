-- How a node that served clients ended, and what it leaves.
use Rattle.std.proofs.Common.{ℕ, ◌≡◌, ◌≢◌, ◌∙◌, ◌↔◌, false, Option, refl, sym, ap, subst, inl, inr}
use Rattle.std.specs.Prelude.{IfSome}
use Rattle.std.proofs.lemmas.Option.{IfSome_then}
use Rattle.base_disk.specs.View.{IsSound, LeavesOnly}
use Rattle.base_disk.specs.declared.disk.DiskModel.{Ghosts}
use Rattle.journal_core.specs.declared.node_state.NodeState.{NodeState}
use Rattle.journal_core.specs.Step.{restarted}
use Rattle.disk_node.specs.Node.{NodeParts}
use Rattle.disk_node.specs.Opening.{IsOpenedNode, StandsAsBefore}
use Rattle.pipe_serve.specs.Sessions.{SourceUse, SinkUse}
use Rattle.pipe_serve.specs.Trails.{IsSharedOut}
use Rattle.disk_node.specs.declared.open_fail.OpenFail.{OpenFail}
use Rattle.disk_node.specs.declared.open_fail.OpenFail.TheVariants as fail
use Rattle.disk_node.specs.Opening.{is_fault}
use Rattle.cli_commands.specs.declared.command_fault.CommandFault.{CommandFault}
use Rattle.cli_commands.specs.declared.status.Status.{Status}
use Rattle.cli_commands.specs.declared.status.Status.TheVariants as status
use Rattle.cli_commands.specs.Faults.{status_of}
use Rattle.cli_commands.specs.NodeEnds.{fault_in}
use Rattle.cli_commands.specs.Told.{IsToldAs, TellsFault}
use Rattle.cli_commands.specs.Uses.{SinkUse as LineUse}
use Rattle.cli_cluster.specs.Serves.{EndsServing, TellsServed, IsLeftOver}

pub served_out : (sink : LineUse) → sink.now ≡ sink.before → TellsServed status.Ok sink
served_out sink e = inl (refl, e)

pub served_fault : (of : CommandFault) (s : Status) (sink : LineUse) → EndsServing of → TellsFault of s sink → TellsServed s sink
served_fault of s sink ends h = inr (of, ends, h)

ends_unopened : {D : Type 0} (why : OpenFail D) → EndsServing (fault_in why)
ends_unopened (fail.DiskFault disk) = tt
ends_unopened (fail.BadFile disk name) = tt
ends_unopened (fail.OutOfMemory disk) = tt

pub unopened : {D : Type 0} (why : OpenFail D) (of : CommandFault) (s : Status) (sink : LineUse) → of ≡ fault_in why → TellsFault of s sink → TellsServed s sink
unopened why of s sink e h = inr (of, subst (λ (x : CommandFault). EndsServing x) (sym e) (ends_unopened why), h)

-- ## A fault that was told
-- it is the one that it is told of, or lack of memory, and has no other status
of_other : (of : CommandFault) (s other : Status) (sink : LineUse) → status_of of ≢ other → status.OutOfMemory ≢ other → TellsFault of s sink → s ≢ other
of_other of s other sink n memory h e = by h.told_as
  where
    by : IsToldAs of h.told → ⊥
    by (inl same) = n (sym (ap status_of same) ∙ sym h.status_is ∙ e)
    by (inr short) = memory (sym (ap status_of short.0) ∙ sym h.status_is ∙ e)

never_ok : {D : Type 0} (why : OpenFail D) → status_of (fault_in why) ≢ status.Ok
never_ok (fail.DiskFault disk) e = cc e
never_ok (fail.BadFile disk name) e = cc e
never_ok (fail.OutOfMemory disk) e = cc e

never_of_disk : {D : Type 0} (why : OpenFail D) → is_fault why ≡ false → status_of (fault_in why) ≢ status.DiskFault
never_of_disk (fail.DiskFault disk) well e = cc well
never_of_disk (fail.BadFile disk name) well e = cc e
never_of_disk (fail.OutOfMemory disk) well e = cc e

-- so the input hasn't ended, where a node wasn't opened or couldn't go on
pub not_stopped : (of : CommandFault) (s : Status) (sink : LineUse) → status_of of ≢ status.Ok → TellsFault of s sink → s ≢ status.Ok
not_stopped of s sink n h = of_other of s status.Ok sink n (λ e. cc e) h

pub unopened_so : {D : Type 0} (why : OpenFail D) (of : CommandFault) (s : Status) (sink : LineUse) → of ≡ fault_in why → TellsFault of s sink → s ≢ status.Ok
unopened_so why of s sink e h = not_stopped of s sink (λ o. never_ok why (sym (ap status_of e) ∙ o)) h

-- and the disk didn't fail
pub unopened_well : {D : Type 0} (why : OpenFail D) (of : CommandFault) (s : Status) (sink : LineUse) → of ≡ fault_in why → is_fault why ≡ false → TellsFault of s sink → s ≢ status.DiskFault
unopened_well why of s sink e well h = of_other of s status.DiskFault sink (λ d. never_of_disk why well (sym (ap status_of e) ∙ d)) (λ d. cc d) h

pub ruleset serves = (served_out, served_fault, unopened, not_stopped, unopened_so, unopened_well)

-- ## The node that is left
left : {D : Type 0} (disk : Ghosts D) (At : ℕ → SourceUse → SinkUse → Type 0) (old : D) (clients : ℕ) (n m : NodeParts D) → disk.tells old ↔ disk.tells n.disk
    → (disk.tells n.disk → IsSound (disk.view n.disk)) → (disk.tells old → IsOpenedNode (disk.view old).seen (disk.view n.disk) n.memory n.rows)
    → (disk.tells old → LeavesOnly (disk.view old) (disk.view n.disk) (StandsAsBefore (disk.view old))) → (disk.steady old → disk.steady n.disk)
    → IsSharedOut disk.tells disk.is_told disk.view (disk.steady n.disk) At n clients m → IsLeftOver disk At old clients m
left disk At old clients n m tells sound opened opening steady shared = record {
  opened = n;
  steady = steady;
  shared = shared;
  crashes = λ t. record {
    is = opened t;
    opening = opening t;
    crashes = shared.crashes (tells.0 t) (sound (tells.0 t)) (ap (λ (x : NodeState). x.up) (opened t).up.held.memory) (restarted (opened t).state) (opened t).up;
  };
}

pub left_over : {D : Type 0} (disk : Ghosts D) (At : ℕ → SourceUse → SinkUse → Type 0) (old : D) (clients : ℕ) (n : NodeParts D) (now : Option (NodeParts D)) → disk.tells old ↔ disk.tells n.disk
    → (disk.tells n.disk → IsSound (disk.view n.disk)) → (disk.tells old → IsOpenedNode (disk.view old).seen (disk.view n.disk) n.memory n.rows)
    → (disk.tells old → LeavesOnly (disk.view old) (disk.view n.disk) (StandsAsBefore (disk.view old))) → (disk.steady old → disk.steady n.disk)
    → IfSome now (λ m. IsSharedOut disk.tells disk.is_told disk.view (disk.steady n.disk) At n clients m) → IfSome now (λ m. IsLeftOver disk At old clients m)
left_over disk At old clients n now tells sound opened opening steady shared = IfSome_then now shared (λ m h. left disk At old clients n m tells sound opened opening steady h)
