-- What the reader of scripts answers, and where it stands between two lines.
use Rattle.std.specs.Prelude.{ℕ, ◌≡◌, ◌<◌, ◌≤◌, ◌+◌, ◌==◌, ◌&&◌, List, [], ◌∷◌, ◌++◌, Option, Some, None, is_some, is_none, Bool, true, false, not, if◌then◌else◌, length}
use Rattle.journal_core.specs.Nodes.{PermittedNodes}
use Rattle.std.specs.List.{list_all}
use Rattle.edit_ops.specs.Records.{EditView}
use Rattle.edit_codec.specs.EditTexts.{text_of, IsText}
use Rattle.play_script.specs.declared.answer.ReadScript.{ReadScript}
use Rattle.play_script.specs.declared.answer.ReadScript.TheVariants as read
use Rattle.play_script.specs.declared.line_read.LineRead.{LineRead}
use Rattle.play_script.specs.declared.line_read.LineRead.TheVariants as line_read
use Rattle.play_script.specs.declared.script_line.ScriptLine.{ScriptLine}
use Rattle.play_script.specs.declared.kind.Kind.{Kind}
use Rattle.play_script.specs.declared.kind.Kind.TheVariants as kind
use Rattle.play_script.specs.Scripts.{ScriptView}
use Rattle.play_script.specs.Views.{SaidView, ReadingView}
use Rattle.base_words.specs.Words.{words_of}
use Rattle.play_script.specs.Words.{actor_of, name_at}
use Rattle.play_script.specs.Grammar.{is_silent, first_line, texts_of, operands, words_in, kind_in, belongs, nothing_said, said_by, said_after, HasSense, AreLines, unless_silent, lines_that_say}
use Rattle.play_script.specs.Lines.{Line, Ended, Open, is_line, is_whole, lines_of}
use Rattle.play_script.specs.Rules.{later_rule, rule_of, rule_said, said_with_line, first_fault, fault_of}

-- ## Answers
abbrev pub IfScript : ReadScript → (ScriptView → Type 0) → Type 0
IfScript (read.Script s) P = P s
IfScript (read.BadScript line rule) P = Unit {0}
IfScript read.OutOfMemory P = Unit {0}

abbrev pub IfBadScript : ReadScript → (ℕ → ℕ → Type 0) → Type 0
IfBadScript (read.Script s) P = Unit {0}
IfBadScript (read.BadScript line rule) P = P line rule
IfBadScript read.OutOfMemory P = Unit {0}

-- the answer is that script, unless memory ran out
abbrev pub Reads : ReadScript → ScriptView → Type 0
Reads (read.Script s) t = s ≡ t
Reads (read.BadScript line rule) t = ⊥
Reads read.OutOfMemory t = Unit {0}

-- ## Words
-- the word is the name of that actor
abbrev pub Names : List (List ℕ) → List ℕ → ℕ → Type 0
Names names word actor = (actor_of names word ≡ Some actor) × (name_at names actor ≡ word) × (actor < length names)

-- one more actor, unless there is one of that name: whether it was new
abbrev pub Declares : SaidView → List ℕ → Bool → SaidView → Type 0
Declares old name true now = (actor_of old.names name ≡ None) × (now ≡ said_by old kind.Declare (name ∷ []))
Declares old name false now = (is_some (actor_of old.names name) ≡ true) × (now ≡ old)

-- ## Memory
-- Memory is wanted for a line that breaks no rule, and for the edits in front of one that isn't
-- one: rule 9.
abbrev pub takes_memory : Option ℕ → Bool
takes_memory None = true
takes_memory (Some rule) = rule == 9

-- a line that is kept, or breaks a rule: neither silent nor the first that says something
abbrev pub is_later : Option SaidView → List ℕ → Bool
is_later said line = is_some said && not (is_silent line)

-- some line wants memory, and none before it breaks a rule
unfoldable pub wants_memory : Option SaidView → List Line → Bool
wants_memory said [] = false
wants_memory said (Open line ∷ lines) = false
wants_memory said (Ended line ∷ lines) =
    if is_later said line then takes_memory (rule_of said line) else is_none (rule_of said line) && wants_memory (said_with_line said line) lines

-- the edit has a text in a script
abbrev pub HasText : EditView → Type 0
HasText e = IsText (text_of false e) e

-- ## A line after the first
-- what a line of that kind with these words after the first is read as
abbrev pub IsRead : SaidView → Kind → List (List ℕ) → LineRead → Type 0
IsRead said k words (line_read.Broken rule) = later_rule said k words ≡ Some rule
IsRead said k words (line_read.Says line) =
    (later_rule said k words ≡ None) × (kind_in line ≡ k) × (operands said.names line ≡ words) × HasSense said line

-- the line breaks no rule and says that
pub record Says (said : SaidView) (text : List ℕ) (line : ScriptLine) : Type 0 where
  pub rule : rule_said (Some said) text ≡ None
  pub words : words_of text ≡ words_in said line
  pub here : belongs said.named (kind_in line) ≡ true
  pub sense : HasSense said line

-- what the lines said with one more: a line that breaks a rule says nothing
abbrev pub said_read : SaidView → LineRead → SaidView
said_read said (line_read.Broken rule) = said
said_read said (line_read.Says line) = said_after said line

abbrev pub IsLineRead : SaidView → List ℕ → LineRead → Type 0
IsLineRead said text (line_read.Broken rule) = rule_said (Some said) text ≡ Some rule
IsLineRead said text (line_read.Says line) = Says said text line

-- ## Between two lines
abbrev pub nothing_read : ReadingView
nothing_read = record { said = None; lines = [] }

abbrev pub told_if : Option SaidView → List ScriptLine → List (List ℕ)
told_if None lines = []
told_if (Some said) lines = first_line said.named said.nodes ∷ texts_of (nothing_said said.named said.nodes) lines

-- the lines so far that say something
abbrev pub lines_read : ReadingView → List (List ℕ)
lines_read r = told_if r.said r.lines

unfoldable pub all_said : SaidView → List ScriptLine → SaidView
all_said said [] = said
all_said said (line ∷ lines) = all_said (said_after said line) lines

-- these lines are a script's, and said that
pub record AreSaidBy (now : SaidView) (all : List ScriptLine) : Type 0 where
  pub permitted : PermittedNodes now.nodes
  pub said : now ≡ all_said (nothing_said now.named now.nodes) all
  pub lines : AreLines (nothing_said now.named now.nodes) all

abbrev pub IsSoundIf : Option SaidView → List ScriptLine → Type 0
IsSoundIf None lines = lines ≡ []
IsSoundIf (Some said) lines = AreSaidBy said lines

abbrev pub IsSound : ReadingView → Type 0
IsSound r = IsSoundIf r.said r.lines

-- the script, if some line said something
abbrev pub script_of : Option SaidView → List ScriptLine → Option ScriptView
script_of None lines = None
script_of (Some said) lines = Some (record { named = said.named; nodes = said.nodes; lines = lines })

-- one more line after the first, that breaks no rule
pub record Adds (before : SaidView) (read : List ScriptLine) (text : List ℕ) (now : SaidView) (all : List ScriptLine) : Type 0 where
  pub line : ScriptLine
  pub says : Says before text line
  pub said : now ≡ said_after before line
  pub lines : all ≡ read ++ line ∷ []

-- one more line that breaks no rule
pub record Takes (old : ReadingView) (text : List ℕ) (new : ReadingView) : Type 0 where
  pub whole : is_line text ≡ true
  pub rule : rule_of old.said text ≡ None
  pub behind : new.said ≡ said_with_line old.said text
  pub told : lines_read new ≡ lines_read old ++ unless_silent text []
  pub sound : IsSound new

-- The reader is after so many lines: what is told so far and what the rest says is what the text
-- says, the first fault of the rest is that of the text, and where a line of the rest wants memory
-- the text does.
pub record IsBehind (bytes : List ℕ) (count : ℕ) (r : ReadingView) (rest : List ℕ) : Type 0 where
  pub sound : IsSound r
  pub fault : first_fault (count + 1) r.said (lines_of rest) ≡ fault_of bytes
  pub whole : list_all is_whole (lines_of rest) ≡ list_all is_whole (lines_of bytes)
  pub says : lines_read r ++ lines_that_say (lines_of rest) ≡ lines_that_say (lines_of bytes)
  pub wants : wants_memory r.said (lines_of rest) ≡ true → wants_memory None (lines_of bytes) ≡ true
  pub room : count + length rest ≤ length bytes
