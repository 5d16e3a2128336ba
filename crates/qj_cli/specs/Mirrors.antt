-- How a script whose nodes are mirrored ends, and what it writes.
use Rattle.std.specs.Prelude.{ℕ, ◌≡◌, List, [], map}
use Rattle.writer_calls.specs.Logs.{MirroredBy}
use Rattle.writer_calls.specs.Mirrors.{lines_of}
use Rattle.writer_calls.specs.States.{told_at, mirror_of}
use Rattle.mesh.specs.declared.whole.Mesh.{Mesh}
use Rattle.mesh.specs.Order.{epoch_order}
use Rattle.ns_tree.specs.declared.end.End.{End}
use Rattle.play_script.specs.Scripts.{ScriptView}
use Rattle.play_script.specs.Grammar.{IsScriptText}
use Rattle.play_model.specs.Plays.{states_after}
use Rattle.play_laws.specs.Linear.{OnLine}
use Rattle.play_report.specs.Mirrored.{mirror_text}
use Rattle.cli_commands.specs.declared.status.Status.{Status}
use Rattle.cli_commands.specs.declared.status.Status.TheVariants as status
use Rattle.cli_commands.specs.Uses.{SourceUse, SinkUse}
use Rattle.cli_commands.specs.Told.{Told}
use Rattle.qj_cli.specs.Sound.{ComeOf}
use Rattle.qj_cli.specs.Plays.{IsReadWhole, IsReadingFault}

-- ## What is written of a mesh
-- Each node is as its history leaves it. A line tells for each node how many final segments hold an
-- edit, or that it is down; a line stands for each start of such a segment at a node that is up, by
-- rising start, with the end that it has at the lowest such node; no line is missing.
abbrev pub text_of_mesh : Mesh → List ℕ
text_of_mesh m = mirror_text (map told_at (states_after m.histories)) (lines_of (mirror_of (states_after m.histories))) []

-- The bytes are a script's, and the text is that of the mesh of its one play. What a mirror of its
-- nodes holds is the line's, at its txids.
pub record IsMirrored (bytes text : List ℕ) : Type 0 where
  pub script : ScriptView
  pub reads : IsScriptText bytes script
  pub mesh : Mesh
  pub ends : List End
  pub leaves : ComeOf script mesh ends
  pub printed : text ≡ text_of_mesh mesh
  pub on_line : MirroredBy (OnLine mesh (epoch_order mesh)) (mirror_of (states_after mesh.histories))

-- ## How it ended
-- with status Ok that text
pub record GivesMirrored (source : SourceUse) (good : Status) (text : List ℕ) : Type 0 where
  pub good_is : good ≡ status.Ok
  pub bytes : List ℕ
  pub read : IsReadWhole source bytes
  pub mirrored : IsMirrored bytes text

-- or why the source gives no script, or lack of memory
abbrev pub Mirrors : SourceUse → SinkUse → Status → Type 0
Mirrors source sink s = Told (GivesMirrored source) (IsReadingFault source) s sink

-- a script has one such text
abbrev pub ScriptsHaveOneMirror : Type 0
ScriptsHaveOneMirror = (bytes a b : List ℕ) → IsMirrored bytes a → IsMirrored bytes b → a ≡ b
