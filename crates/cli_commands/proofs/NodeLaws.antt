-- A session at a node that was opened: its state, and what it leaves in the files.
use Rattle.std.proofs.Common.{◌≡◌, ℕ, List, [], ◌∷◌, Bool, true, false, Option, Some, None, refl, sym, ap, subst, ◌∙◌, ◌↔◌, cond, is_some}
use Rattle.std.specs.Prelude.{◌≢◌, T}
use Rattle.base_disk.specs.Files.{Files}
use Rattle.base_disk.specs.View.{View, IsSound, LeavesOnly, AllLeave}
use Rattle.journal_core.specs.declared.node_state.NodeState.{NodeState}
use Rattle.journal_core.specs.Step.{node_step, restarted}
use Rattle.disk_segment.specs.declared.segment_row.SegmentRow.{SegmentRow}
use Rattle.disk_files.specs.Durable.{StandsAs}
use Rattle.disk_node.specs.FileState.{state_of}
use Rattle.disk_node.specs.Node.{NodeParts, told_state}
use Rattle.disk_node.specs.Opening.{IsOpenedNode, StandsAsBefore}
use Rattle.disk_node.proofs.NodeStands.{state_told, rows_start}
use Rattle.journal_session.specs.Session.{AreAnswered, EndsBy, IsSession, IsSessionOf}
use Rattle.journal_session.specs.declared.served.Served.{Served}
use Rattle.journal_session.specs.declared.served.Served.TheVariants as served
use Rattle.journal_history.proofs.CellCode.{step_up}
use Rattle.cli_commands.specs.declared.status.Status.{Status}
use Rattle.cli_commands.specs.Uses.{SourceUse, SinkUse, DiskUse}
use Rattle.cli_commands.specs.Serving.{AreReplied, IsNodeSessionOf, ServesNode}
use Rattle.cli_commands.specs.Crashes.{OutlastsCrashes, WasAsked}
use Rattle.cli_commands.specs.NodeEnds.{IsKept, ServesFrom}
use Rattle.cli_commands.proofs.CrashLaws.{replied_from, outlasts}

-- ## A session leaves a node up or down, as it was
answered_up : (s t : NodeState) (lines : List (List ℕ)) (text : List ℕ) → AreAnswered s lines text t → t.up ≡ s.up
answered_up s t [] text are = ap (λ (x : NodeState). x.up) are.1
answered_up s t (line ∷ lines) text (r, reads, rest, spelled, are) = answered_up (node_step s r).state t lines rest are ∙ step_up s r

same_up : (s t : NodeState) → t ≡ s → t.up ≡ s.up
same_up s t e = ap (λ (x : NodeState). x.up) e

-- after a session that no fault and no lack of memory ended
ends_up : (o : Served) (told : List ℕ) (lines : List (List ℕ)) (rest : List ℕ) (left : Option (List ℕ)) (s t : NodeState) (part : List ℕ)
    → o ≢ served.DiskFault → o ≢ served.OutOfMemory → EndsBy o told lines rest left s t part → t.up ≡ s.up
ends_up served.Done told lines rest left s t part d m ends = same_up s t ends.2
ends_up (served.BadLine number rule) told lines rest left s t part d m ends = same_up s t ends.3
ends_up served.LongLine told lines rest left s t part d m ends = same_up s t ends.3
ends_up served.LongInput told lines rest left s t part d m ends = same_up s t ends.4
ends_up served.ReadFault told lines rest left s t part d m ends = same_up s t ends.2
ends_up served.WriteFault told lines rest left s t part d m ends = same_up (node_step s ends.1.asks.request).state t ends.1.asks.so.0 ∙ step_up s ends.1.asks.request
ends_up served.DiskFault told lines rest left s t part d m ends = absurd (d refl)
ends_up served.OutOfMemory told lines rest left s t part d m ends = absurd (m refl)

session_up : (lines : List (List ℕ)) (next : Option (List ℕ)) (o : Served) (told : List ℕ) (left : Option (List ℕ)) (s t : NodeState)
    (before now : Option (List ℕ)) → IsSession lines next o told left s t before now
    → o ≢ served.DiskFault → o ≢ served.OutOfMemory → t.up ≡ s.up
session_up lines next o told left s t before now is d m =
    ends_up o told lines is.rest left is.state t is.part d m is.ends ∙ answered_up s is.state lines is.text is.answered

-- ## What is left in the files
some_is : (s t : NodeState) → Some s ≡ Some t → s ≡ t
some_is s t e = cc e

state_up : (files : Files) (m : NodeState) (rows : List SegmentRow) → (state_of files m rows).up ≡ m.up
unfolding state_of
state_up files m rows = refl

pub kept_state : (v : View) (m : NodeState) (rows : List SegmentRow) → StandsAs v.seen (state_of v.seen m rows) → (m.up ≡ true → AllLeave v (λ c. StandsAs c (state_of v.seen m rows)))
    → IsKept v (state_of v.seen m rows)
kept_state v m rows stands lasting = record { stands = stands; lasting = λ up. lasting (sym (state_up v.seen m rows) ∙ up) }

pub kept_told : (b : Bool) (v : View) (m : NodeState) (rows : List SegmentRow) → (T b → IsKept v (state_of v.seen m rows)) → (t : NodeState) → told_state b v.seen m rows ≡ Some t → IsKept v t
kept_told true v m rows kept t e =
    let is : state_of v.seen m rows ≡ t = some_is (state_of v.seen m rows) t e in
    subst (λ (x : NodeState). IsKept v x) is (kept tt)
kept_told false v m rows kept t e = absurd (cc e)

-- a state is told where the disk tells its bytes
told_is : (b : Bool) (s : NodeState) → is_some (cond b (Some s) None) ≡ b
told_is true s = refl
told_is false s = refl

pub tells_on : (before now : Type 0) (b d : Bool) (s t : NodeState) → before ↔ T b → now ↔ T d → is_some (cond d (Some t) None) ≡ is_some (cond b (Some s) None) → before ↔ now
tells_on before now b d s t is_before is_now same =
    let e : d ≡ b = sym (told_is d t) ∙ (same ∙ told_is b s) in
    ((λ h. is_now.1 (subst T (sym e) (is_before.0 h))), (λ h. is_before.1 (subst T e (is_now.0 h))))

-- ## From the opening on
true_told : (b : Bool) → T b → b ≡ true
true_told true t = refl
true_told false t = absurd t

opened_state : (files : Files) (v : View) (m : NodeState) (rows : List SegmentRow) → v.may_leave v.seen → (is : IsOpenedNode files v m rows) → state_of v.seen m rows ≡ restarted is.state
opened_state files v m rows now is =
    state_told true v m rows (restarted is.state) (same_up _ _ is.up.held.memory) now (rows_start rows ((restarted is.state).segments, is.up.held.told)) is.up

pub opened_told : (files : Files) (b : Bool) (v : View) (m : NodeState) (rows : List SegmentRow) → T b → v.may_leave v.seen → (is : IsOpenedNode files v m rows)
    → told_state b v.seen m rows ≡ Some (restarted is.state)
opened_told files true v m rows t now is = ap (λ (s : NodeState). Some s) (opened_state files v m rows now is)
opened_told files false v m rows t now is = absurd t

-- the session from the state that the files stood for
module _ {D : Type 0} (disk : DiskUse D) (o : Served) (before now : Option (List ℕ)) (lines : List (List ℕ)) (next : Option (List ℕ)) where
  held : (v : View) (m : NodeState) (rows : List SegmentRow) (is : IsOpenedNode (disk.view disk.before).seen v m rows) (told left : Option (List ℕ)) (new : Option NodeState)
      → OutlastsCrashes disk.view disk.before disk.now (restarted is.state) lines next → AreReplied (restarted is.state) lines next o before now
      → IsSessionOf lines next o told left (Some (restarted is.state)) new before now → ((t : NodeState) → new ≡ Some t → IsKept (disk.view disk.now) t)
      → (t : NodeState) × IsKept (disk.view disk.now) t → IsNodeSessionOf disk o told left before now
  held v m rows is None left new crashes replied session kept stands = record {
    state = is.state;
    stood = is.stood;
    sound = is.up.held.sound;
    starts = is.up.held.files.starts;
    filled = is.up.held.files.filled;
    new = stands.0;
    stands = stands.1.stands;
    lines = lines;
    next = next;
    replied = replied;
    crashes = crashes;
  }
  held v m rows is (Some told) left None crashes replied session kept stands = absurd session
  held v m rows is (Some told) left (Some t) crashes replied session kept stands = record {
    state = is.state;
    stood = is.stood;
    sound = is.up.held.sound;
    starts = is.up.held.files.starts;
    filled = is.up.held.files.filled;
    new = t;
    lines = lines;
    next = next;
    session = session;
    stands = (kept t refl).stands;
    lasting = λ d m. (kept t refl).lasting (session_up lines next o told left (restarted is.state) t before now session d m);
    crashes = crashes;
  }

pub serves_opened : {D : Type 0} (disk : DiskUse D) (b : Bool) (n : NodeParts D) (source : SourceUse) (sink : SinkUse) (s : Status) (tells_now : Type 0)
    → (disk.tells disk.before → T b) → (disk.tells disk.before → disk.tells n.disk) → (disk.tells disk.before → IsSound (disk.view n.disk)) → (disk.tells disk.before → tells_now)
    → (disk.tells disk.before → IsOpenedNode (disk.view disk.before).seen (disk.view n.disk) n.memory n.rows)
    → (disk.tells disk.before → LeavesOnly (disk.view disk.before) (disk.view n.disk) (StandsAsBefore (disk.view disk.before)))
    → ServesFrom (WasAsked disk.tells disk.view n disk.now sink.before) (told_state b (disk.view n.disk).seen n.memory n.rows) tells_now (disk.view disk.now) source sink s
    → ServesNode source sink disk s
serves_opened disk b n source sink s tells_now so on sound still opens opening f = record {
  outcome = f.outcome;
  status_is = f.status_is;
  replied = f.replied;
  session = λ t.
      held disk f.outcome sink.before f.replied f.lines f.next (disk.view n.disk) n.memory n.rows (opens t) source.told source.left f.new
      (outlasts disk.tells disk.view disk.before disk.now n sink.before f.lines f.next f.outcome f.replied (on t) (sound t) (opens t) (opening t) f.trail)
      (replied_from disk.tells disk.view disk.before disk.now n sink.before f.lines f.next f.outcome f.replied (on t) (sound t) (opens t) f.trail)
      (subst (λ (x : Option NodeState). IsSessionOf f.lines f.next f.outcome source.told source.left x f.new sink.before f.replied)
      (opened_told (disk.view disk.before).seen b (disk.view n.disk) n.memory n.rows (so t) (sound t).seen_now (opens t)) f.session) f.kept
      (f.stands (still t));
  line = f.line;
  read_fault = f.read_fault;
  no_read_fault = f.no_read_fault;
  write_fault = f.write_fault;
  no_write_fault = f.no_write_fault;
  handed = f.handed;
}
