-- What is due of a source over whose script's nodes a standby boots.
use Rattle.std.proofs.Common.{◌≡◌, ℕ, ◌<◌, ◌≤◌, Bool, true, List, [], ◌∷◌, length, map, Option, None, refl, sym, ap, subst, arith, inr}
use Rattle.std.specs.Prelude.{slice_index_or}
use Rattle.std.specs.List.{AllZip}
use Rattle.std.proofs.lemmas.List.{length-map}
use Rattle.base_disk.specs.MemDisk.{disk_view}
use Rattle.base_disk.specs.declared.mem_disk.MemDisk.{MemDisk}
use Rattle.journal_core.specs.declared.node_state.NodeState.{NodeState}
use Rattle.mesh.specs.declared.whole.Mesh.{Mesh}
use Rattle.mesh.specs.Agree.{Agrees}
use Rattle.ns_tree.specs.declared.end.End.{End}
use Rattle.ns_edits.specs.Replay.{Image}
use Rattle.play_script.specs.Scripts.{ScriptView}
use Rattle.play_names.specs.ImageDisks.{HoldsOn}
use Rattle.play_standby.proofs.DiskLaws.{holds_none}
use Rattle.play_model.specs.Lines.{lines_of, ArePlayable, IsPlayable}
use Rattle.play_model.specs.Plays.{Play, mesh_of, images_in, states_after, LeavesImages}
use Rattle.play_model.specs.Laws.{OnePlay}
use Rattle.play_model.specs.Follows.{FollowsLines, FollowsScript}
use Rattle.play_laws.specs.Linear.{IsNamed, LineReplays}
use Rattle.play_laws.specs.EndReads.{EndReadsAreOnLine}
use Rattle.play_laws.specs.ImagesLeft.{ImagesAreLeft}
use Rattle.play_laws.proofs.NamedPlays.{is_named}
use Rattle.play_laws.proofs.Safeties.{epoch_order_linear}
use Rattle.play_boot.specs.Nodes.{HoldsSome, IsBootedOver}
use Rattle.play_boot.specs.declared.booted.Booted.{Booted}
use Rattle.play_boot.specs.declared.booted.Booted.TheVariants as booted
use Rattle.play_report.specs.Limit.{longest_report}
use Rattle.cli_commands.specs.declared.status.Status.TheVariants as status
use Rattle.cli_commands.specs.declared.command_fault.CommandFault.{CommandFault}
use Rattle.cli_commands.specs.declared.command_fault.CommandFault.TheVariants as fault
use Rattle.cli_commands.specs.Uses.{SourceUse}
use Rattle.qj_cli.specs.Sound.{ComeOf}
use Rattle.qj_cli.specs.Plays.{IsReportFault}
use Rattle.qj_cli.specs.Boots.{first_images, AreFirstImages, IsBooted, EndsOnLine, IsFirstDisk, MayCome, answer_text, GivesNames, BootsPlay, GivesBooted, IsBootFault}
use Rattle.qj_cli.proofs.MirrorLaws.{agreed}
use Rattle.qj_cli.proofs.BootLaws.{first_held, first_told, ends_on_line, may_come, answer_boots}

-- ## The first of some disks
pub first_none : (disks : List MemDisk) (disk : MemDisk) → length disks ≡ 0 → ((name : List ℕ) → (disk_view disk).seen name ≡ None) → IsFirstDisk disks disk
first_none [] disk none empty = holds_none (disk_view disk).seen empty
first_none (d ∷ disks) disk none empty = absurd (omega (arith, none))

pub first_one : (disks : List MemDisk) (disk : MemDisk) → 0 < length disks → disk ≡ slice_index_or disks 0 disk → IsFirstDisk disks disk
first_one [] disk some is = absurd (omega (arith, some))
first_one (d ∷ disks) disk some is = is

-- ## What a play of a script with names leaves
follows : (s : ScriptView) (m : Mesh) (ends : List End) → ComeOf s m ends → FollowsScript s m ends
follows s m ends come =
    subst (λ (x : Mesh). FollowsScript s x ends) (sym come.mesh)
    (subst (λ (es : List End). FollowsScript s (mesh_of come.play) es) (sym come.ends_are) come.sound.lists.follows)

named_mesh : (s : ScriptView) (m : Mesh) (ends : List End) → IsPlayable s → s.named ≡ true → ComeOf s m ends → IsNamed (lines_of s) m ends
named_mesh s m ends playable e come =
    is_named s.nodes (lines_of s) m ends playable.nodes (subst (λ (b : Bool). ArePlayable b s.nodes 0 (lines_of s)) e playable.lines)
    (subst (λ (b : Bool). FollowsLines b s.nodes (lines_of s) m ends) e (follows s m ends come))

-- there are as many nodes as the script says, one at least
pub some_nodes : {N : Type 0} (state : N → Option NodeState) (nodes : List N) (s : ScriptView) (m : Mesh) (ends : List End) → IsPlayable s → ComeOf s m ends
    → map state nodes ≡ states_after m.histories → 1 ≤ length nodes
some_nodes state nodes s m ends playable come states =
    let told : length (map state nodes) ≡ length nodes = length-map nodes state in
    let left : length (states_after m.histories) ≡ length m.histories = length-map m.histories _ in
    let same : length (map state nodes) ≡ length (states_after m.histories) = ap (λ (ss : List (Option NodeState)). length ss) states in
    let agrees : Agrees m = agreed s m ends come in
    let each : length m.histories ≡ m.nodes = agrees.histories in
    let all : FollowsScript s m ends = follows s m ends come in
    let many : m.nodes ≡ s.nodes = all.nodes_are in
    let some : 1 ≤ s.nodes = playable.nodes in
    omega (arith, told, left, same, each, many, some)

module _ (one_play : OnePlay) (images_left : ImagesAreLeft) (reads : EndReadsAreOnLine) (replays : LineReplays) (s : ScriptView) (m : Mesh) (ends : List End) (disks : List MemDisk)
    (disk : MemDisk) (playable : IsPlayable s) (e : s.named ≡ true) (come : ComeOf s m ends) (left : LeavesImages s.named s.nodes (lines_of s) m ends disks) (first : IsFirstDisk disks disk) where
  abbrev kept : List Image
  kept = first_images (images_in come.play)

  held_by : AllZip HoldsOn disks (images_in come.play)
  held_by = subst (λ (p : Play). AllZip HoldsOn disks (images_in p)) (one_play s left.played.play come.play left.played.plays come.sound.plays) left.images

  told : AreFirstImages m kept
  told = first_told m disks (images_in come.play) held_by (images_left s m ends disks playable left).1

  holds : HoldsOn disk kept
  holds = first_held disks (images_in come.play) disk held_by first

  pub some_held : HoldsSome disk
  some_held = (kept, holds)

  over : (states : List (Option NodeState)) (b : Booted) → states ≡ states_after m.histories → ((held : List Image) → HoldsOn disk held → IsBootedOver states held b)
      → IsBootedOver (states_after m.histories) kept b
  over states b same boots = subst (λ (ss : List (Option NodeState)). IsBootedOver ss kept b) same (boots kept holds)

  on_line : EndsOnLine m kept
  on_line =
      let agrees : Agrees m = agreed s m ends come in
      ends_on_line m ends (lines_of s) agrees (epoch_order_linear m agrees) (named_mesh s m ends playable e come) replays reads kept told.replays

  pub boots_play : (states : List (Option NodeState)) (b : Booted) → states ≡ states_after m.histories → ((held : List Image) → HoldsOn disk held → IsBootedOver states held b) → BootsPlay s b
  boots_play states b same boots = record {
    mesh = m;
    ends = ends;
    leaves = come;
    told = told;
    over = over states b same boots;
    on_line = on_line;
  }

  pub comes_so : (states : List (Option NodeState)) (b : Booted) → states ≡ states_after m.histories → ((held : List Image) → HoldsOn disk held → IsBootedOver states held b) → MayCome b
  comes_so states b same boots =
      let agrees : Agrees m = agreed s m ends come in
      may_come m ends (lines_of s) agrees (epoch_order_linear m agrees) (named_mesh s m ends playable e come) replays reads kept b told.replays (over states b same boots)

-- ## What is due of a source
module _ (source : SourceUse) (s : ScriptView) (b : Booted) (given : GivesNames source s) (boots : BootsPlay s b) (may : MayCome b) where
  booted_as : (b ≡ booted.OutOfMemory → ⊥) → IsBooted given.gives.bytes (answer_text b)
  booted_as other = record {
    script = s;
    reads = given.gives.reads;
    named = given.named;
    mesh = boots.mesh;
    ends = boots.ends;
    leaves = boots.leaves;
    told = boots.told;
    boots = answer_boots boots.mesh (first_images (images_in boots.leaves.play)) b may other boots.over boots.on_line;
  }

  pub gives_booted : (text : List ℕ) → text ≡ answer_text b → length text ≤ longest_report → (b ≡ booted.OutOfMemory → ⊥) → GivesBooted source status.Ok text
  gives_booted text is within other = record {
    good_is = refl;
    bytes = given.gives.bytes;
    read = given.gives.read;
    booted = subst (λ (t : List ℕ). IsBooted given.gives.bytes t) (sym is) (booted_as other);
    within = within;
  }

  -- lack of memory has no text that is too long
  long_other : longest_report < length (answer_text b) → b ≡ booted.OutOfMemory → ⊥
  long_other longer e =
      let none : longest_report < length (answer_text booted.OutOfMemory) = subst (λ (x : Booted). longest_report < length (answer_text x)) e longer in
      omega (arith, none)

  pub text_fault : (of : CommandFault) → IsReportFault (answer_text b) of → IsBootFault source of
  text_fault (fault.Usage place) is = absurd is
  text_fault (fault.BadScript line rule) is = absurd is
  text_fault (fault.BadReport line rule) is = absurd is
  text_fault fault.NoFile is = absurd is
  text_fault (fault.BadBytes place cause) is = absurd is
  text_fault (fault.BadImage place cause) is = absurd is
  text_fault (fault.BadFile name) is = absurd is
  text_fault fault.NoPath is = absurd is
  text_fault fault.NotJson is = absurd is
  text_fault (fault.BadEntry index) is = absurd is
  text_fault (fault.TooManyEntries number) is = absurd is
  text_fault (fault.Limit number) is =
      inr (
        is.0,
        record { bytes = given.gives.bytes; read = given.gives.read; text = answer_text b; booted = booted_as (long_other is.1); longer = is.1 },
      )
  text_fault fault.ReadFault is = absurd is
  text_fault fault.DiskFault is = absurd is
  text_fault fault.OutOfMemory is = given.gives.read.no_fault
