-- The commands, and the words that ask for them.
use Rattle.std.specs.Prelude.{ℕ, ◌≡◌, ◌≤◌, Bool, true, false, ◌==◌, List, [], ◌∷◌, codes, decimal}
use Rattle.journal_core.specs.Limits.{max_number}
use Rattle.play_script.specs.Generated.{IsWithin}
use Rattle.cli_commands.specs.declared.tool.SegmentTool.{SegmentTool}
use Rattle.cli_commands.specs.declared.tool.SegmentTool.TheVariants as segment
use Rattle.cli_commands.specs.declared.tool.ImageTool.{ImageTool}
use Rattle.cli_commands.specs.declared.tool.ImageTool.TheVariants as image
use Rattle.cli_commands.specs.Tools.{Tool, shown}
use Rattle.cli_commands.specs.Tools as tool
use Rattle.cli_commands.specs.declared.command.Command.{Command}
use Rattle.cli_commands.specs.declared.command.Command.TheVariants as command

-- What can be asked for: a script is played, in order or by threads, whose calls may go through
-- pipes, or in order and its nodes are mirrored or a fresh standby boots over them, a node is
-- served, the disk's files are checked, a report is judged or its states are told, the script that a
-- number gives is played, with so many edits over so many nodes, or what this tool makes of the file
-- of this name is written.
pub data Asked : Type 0 where
  play : Asked
  run : Asked
  piped : Asked
  mirror : Asked
  boot : Asked
  node : Asked
  fsck : Asked
  judge : Asked
  states : Asked
  gen : (number edits nodes : ℕ) → Asked
  list : Tool → List ℕ → Asked

-- what a command of the program asks for
abbrev pub asked_in : Command → Asked
asked_in command.Play = play
asked_in command.Run = run
asked_in command.Piped = piped
asked_in command.Mirror = mirror
asked_in command.Boot = boot
asked_in command.Node = node
asked_in command.Fsck = fsck
asked_in command.Judge = judge
asked_in command.States = states
asked_in (command.Gen number edits nodes) = gen number edits nodes
asked_in (command.Listing of name) = list (shown of) name.now

-- ## The words of a tool
abbrev pub program_of : Tool → List ℕ
program_of (tool.Oev of) = codes "oev"
program_of (tool.Oiv of) = codes "oiv"
program_of (tool.Ls path) = codes "oiv"
program_of (tool.Back start epoch) = codes "oev"

abbrev pub segment_word : SegmentTool → List ℕ
segment_word segment.List = codes "list"
segment_word segment.Stats = codes "stats"
segment_word segment.Json = codes "json"

abbrev pub image_word : ImageTool → List ℕ
image_word image.Delimited = codes "delimited"
image_word image.Sizes = codes "sizes"
image_word image.Json = codes "json"

abbrev pub word_of : Tool → List ℕ
word_of (tool.Oev of) = segment_word of
word_of (tool.Oiv of) = image_word of
word_of (tool.Ls path) = codes "ls"
word_of (tool.Back start epoch) = codes "back"

-- after the name of its file
abbrev pub later_words : Tool → List (List ℕ)
later_words (tool.Oev of) = []
later_words (tool.Oiv of) = []
later_words (tool.Ls path) = path ∷ []
later_words (tool.Back start epoch) = decimal start ∷ decimal epoch ∷ []

-- ## The words of a command
abbrev pub words_of : Asked → List (List ℕ)
words_of play = codes "play" ∷ []
words_of run = codes "run" ∷ []
words_of piped = codes "piped" ∷ []
words_of mirror = codes "mirror" ∷ []
words_of boot = codes "boot" ∷ []
words_of node = codes "node" ∷ []
words_of fsck = codes "fsck" ∷ []
words_of judge = codes "judge" ∷ []
words_of states = codes "states" ∷ []
words_of (gen number edits nodes) = codes "gen" ∷ decimal number ∷ decimal edits ∷ decimal nodes ∷ []
words_of (list of name) = program_of of ∷ word_of of ∷ name ∷ later_words of

-- the start and the epoch of a segment are from 1 to 2^62
pub record AreOfSegment (start epoch : ℕ) : Type 0 where
  pub some_start : 1 ≤ start
  pub start_within : start ≤ max_number
  pub some_epoch : 1 ≤ epoch
  pub epoch_within : epoch ≤ max_number

-- the path of an inode begins with a `/`
abbrev pub is_from_root : List ℕ → Bool
is_from_root [] = false
is_from_root (b ∷ bs) = b == 47

abbrev pub IsAllowedTool : Tool → Type 0
IsAllowedTool (tool.Oev of) = Unit {0}
IsAllowedTool (tool.Oiv of) = Unit {0}
IsAllowedTool (tool.Ls path) = is_from_root path ≡ true
IsAllowedTool (tool.Back start epoch) = AreOfSegment start epoch

-- the numbers of a generated script and of a segment are within their limits, and a path begins at
-- the root
abbrev pub IsAllowed : Asked → Type 0
IsAllowed (gen number edits nodes) = IsWithin number edits nodes
IsAllowed (list of name) = IsAllowedTool of
IsAllowed _ = Unit {0}

-- the words ask for it
pub record AskFor (words : List (List ℕ)) (asked : Asked) : Type 0 where
  pub words_are : words ≡ words_of asked
  pub allowed : IsAllowed asked

abbrev pub IsCommand : List (List ℕ) → Type 0
IsCommand words = (asked : Asked) × AskFor words asked
