-- How a script ends over whose nodes a fresh standby boots, and what it writes.
use Rattle.std.specs.Prelude.{ℕ, ◌≡◌, ◌⊎◌, ◌<◌, ◌≤◌, true, List, [], ◌∷◌, length, Option, Some}
use Rattle.base_disk.specs.declared.mem_disk.MemDisk.{MemDisk}
use Rattle.mesh.specs.declared.whole.Mesh.{Mesh}
use Rattle.mesh.specs.Order.{epoch_order}
use Rattle.ns_tree.specs.declared.end.End.{End}
use Rattle.ns_edits.specs.Replay.{Image}
use Rattle.play_script.specs.Scripts.{ScriptView}
use Rattle.play_script.specs.Grammar.{IsScriptText}
use Rattle.play_script.specs.Naming.{names_fault_of}
use Rattle.play_names.specs.Holding.{Holding}
use Rattle.play_names.specs.ImageDisks.{HoldsOn}
use Rattle.play_names.specs.Tails.{TailEnd, Ends, Caught, Reached, PurgedFrom, BehindBy}
use Rattle.play_model.specs.Plays.{images_in, states_after}
use Rattle.play_laws.specs.Linear.{HoldsReplay, ImagesReplay}
use Rattle.play_laws.specs.ImagesLeft.{AreNewestTold}
use Rattle.play_boot.specs.Nodes.{begun_of, image_of, EndsAt, IsBootedOver}
use Rattle.play_boot.specs.declared.booted.Booted.{Booted}
use Rattle.play_boot.specs.declared.booted.Booted.TheVariants as booted
use Rattle.play_report.specs.Booted.{booted_text, unreachable_text, booted_behind_text}
use Rattle.play_report.specs.Limit.{longest_report}
use Rattle.cli_commands.specs.declared.status.Status.{Status}
use Rattle.cli_commands.specs.declared.status.Status.TheVariants as status
use Rattle.cli_commands.specs.declared.command_fault.CommandFault.{CommandFault}
use Rattle.cli_commands.specs.declared.command_fault.CommandFault.TheVariants as fault
use Rattle.cli_commands.specs.Uses.{SourceUse, SinkUse, AReadFailed, NoReadFailed}
use Rattle.cli_commands.specs.Told.{Told}
use Rattle.qj_cli.specs.Sound.{ComeOf}
use Rattle.qj_cli.specs.Plays.{longest_script, GivesScript, IsReadWhole, IsTooLong}

-- ## What is written
-- of where the tail ended, and of the image that it began from
abbrev pub ended_text : Option ℕ → TailEnd → Holding → List ℕ
ended_text image Caught h = booted_text image (record { position = h.position; rows = h.space.pairs })
ended_text image (PurgedFrom first) h = unreachable_text h.position first
ended_text image (BehindBy causes) h = booted_behind_text h.position causes
ended_text image Reached h = []

-- The tail of a fresh standby over nodes as the histories leave them ended so. It began with the
-- newest of these images, which are the line's, and what it holds is the replay of the line's first
-- entries.
pub record IsBootText (m : Mesh) (images : List Image) (text : List ℕ) : Type 0 where
  pub end : TailEnd
  pub holding : Holding
  pub ends : EndsAt (states_after m.histories) (begun_of images) (Ends end holding)
  pub printed : text ≡ ended_text (image_of images) end holding
  pub on_line : HoldsReplay m (epoch_order m) holding

-- what a standby holds that got somewhere is the replay of the line's first entries
abbrev pub EndsOnLine : Mesh → List Image → Type 0
EndsOnLine m images = (end : TailEnd) (holding : Holding) → EndsAt (states_after m.histories) (begun_of images) (Ends end holding) → HoldsReplay m (epoch_order m) holding

-- those of the first declared actor, if there is one
abbrev pub first_images : List (List Image) → List Image
first_images [] = []
first_images (images ∷ others) = images

-- The images are the line's, and the newest is that of the greatest txid that the first declared
-- actor told of a checkpoint.
pub record AreFirstImages (m : Mesh) (images : List Image) : Type 0 where
  pub replays : ImagesReplay m (epoch_order m) images
  pub newest : (images ≡ []) ⊎ AreNewestTold m 0 images

-- the bytes are those of a script with names, and the text is that of its one play
pub record IsBooted (bytes text : List ℕ) : Type 0 where
  pub script : ScriptView
  pub reads : IsScriptText bytes script
  pub named : script.named ≡ true
  pub mesh : Mesh
  pub ends : List End
  pub leaves : ComeOf script mesh ends
  pub told : AreFirstImages mesh (first_images (images_in leaves.play))
  pub boots : IsBootText mesh (first_images (images_in leaves.play)) text

-- ## Step by step
-- the first of these disks, or an empty one
abbrev pub IsFirstDisk : List MemDisk → MemDisk → Type 0
IsFirstDisk [] disk = HoldsOn disk []
IsFirstDisk (first ∷ others) disk = disk ≡ first

-- an answer that may come: the disks have no fault, the image is sound and every entry is admitted
abbrev pub MayCome : Booted → Type 0
MayCome (booted.Done standby image) = Unit {0}
MayCome (booted.Unreachable have first) = Unit {0}
MayCome (booted.Behind txid causes) = Unit {0}
MayCome booted.OutOfMemory = Unit {0}
MayCome _ = ⊥

-- the text of an answer
abbrev pub answer_text : Booted → List ℕ
answer_text (booted.Done standby image) = booted_text image (record { position = standby.position; rows = standby.space.pairs })
answer_text (booted.Unreachable have first) = unreachable_text have first
answer_text (booted.Behind txid causes) = booted_behind_text txid causes
answer_text _ = []

-- why bytes give no script with names
abbrev pub IsNamesFault : List ℕ → CommandFault → Type 0
IsNamesFault bytes (fault.BadScript line rule) = names_fault_of bytes ≡ Some (line, rule)
IsNamesFault bytes fault.OutOfMemory = Unit {0}
IsNamesFault bytes _ = ⊥

-- the source was read whole, and its bytes are this script's, which has names
pub record GivesNames (source : SourceUse) (script : ScriptView) : Type 0 where
  pub gives : GivesScript source script
  pub named : script.named ≡ true

-- what a play of a script with names made of a fresh standby
pub record BootsPlay (script : ScriptView) (b : Booted) : Type 0 where
  pub mesh : Mesh
  pub ends : List End
  pub leaves : ComeOf script mesh ends
  pub told : AreFirstImages mesh (first_images (images_in leaves.play))
  pub over : IsBootedOver (states_after mesh.histories) (first_images (images_in leaves.play)) b
  pub on_line : EndsOnLine mesh (first_images (images_in leaves.play))

-- ## How it ended
-- with status Ok that text
pub record GivesBooted (source : SourceUse) (good : Status) (text : List ℕ) : Type 0 where
  pub good_is : good ≡ status.Ok
  pub bytes : List ℕ
  pub read : IsReadWhole source bytes
  pub booted : IsBooted bytes text
  pub within : length text ≤ longest_report

-- a text that is longer than a report may be isn't written
pub record HasLongBoot (source : SourceUse) : Type 0 where
  pub bytes : List ℕ
  pub read : IsReadWhole source bytes
  pub text : List ℕ
  pub booted : IsBooted bytes text
  pub longer : longest_report < length text

-- why not
abbrev pub IsBootFault : SourceUse → CommandFault → Type 0
IsBootFault source (fault.BadScript line rule) = (bytes : List ℕ) × IsReadWhole source bytes × (names_fault_of bytes ≡ Some (line, rule))
IsBootFault source (fault.Limit number) = ((number ≡ longest_script) × IsTooLong source) ⊎ ((number ≡ longest_report) × HasLongBoot source)
IsBootFault source fault.ReadFault = AReadFailed source
IsBootFault source fault.OutOfMemory = NoReadFailed source
IsBootFault source _ = ⊥

abbrev pub Boots : SourceUse → SinkUse → Status → Type 0
Boots source sink s = Told (GivesBooted source) (IsBootFault source) s sink

-- a script has one such text
abbrev pub ScriptsHaveOneBoot : Type 0
ScriptsHaveOneBoot = (bytes a b : List ℕ) → IsBooted bytes a → IsBooted bytes b → a ≡ b
