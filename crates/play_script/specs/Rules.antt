-- The rules of scripts, each a test of a line, in the order in which they are tried; and the first
-- line that breaks one.
use Rattle.std.specs.Prelude.{ℕ, ◌+◌, List, [], ◌∷◌, ◌++◌, Bool, true, false, not, Option, Some, None, ◌==◌, ◌&&◌, ◌||◌, nat_le, if◌then◌else◌, length, drop, is_some, is_none}
use Rattle.std.specs.List.{list_all, list_any, find, range_with_len}
use Rattle.std.specs.Str.{bytes_eq}
use Rattle.journal_core.specs.Nodes.{most_nodes}
use Rattle.play_script.specs.declared.task_word.TaskWord.TheVariants as task
use Rattle.play_script.specs.declared.standby_word.StandbyWord.TheVariants as standby
use Rattle.play_script.specs.declared.call_word.CallWord.TheVariants as call
use Rattle.play_script.specs.declared.node_word.NodeWord.TheVariants as node
use Rattle.play_script.specs.declared.kind.Kind.{Kind}
use Rattle.play_script.specs.declared.kind.Kind.TheVariants as kind
use Rattle.play_script.specs.Views.{SaidView}
use Rattle.play_script.specs.Lines.{Line, Ended, Open, lines_of, is_line}
use Rattle.base_words.specs.Words.{words_of, is_empty, first_word}
use Rattle.base_words.specs.WordNumbers.{is_number}
use Rattle.play_script.specs.Words.{word_at, is_name, actor_of, greatest, choice_of, is_body}
use Rattle.play_script.specs.Edits.{are_edits}
use Rattle.play_script.specs.Grammar.{keyword, first_line, nothing_said, said_by, most_actors, is_silent}

-- ## Rule 1: the first line
-- the number of nodes that the first line of such a script tells
unfoldable pub nodes_of : Bool → List ℕ → Option ℕ
nodes_of named line = find (λ nodes. bytes_eq line (first_line named nodes)) (range_with_len 1 most_nodes)

abbrev pub said_first_of : Bool → Option ℕ → Option SaidView → Option SaidView
said_first_of named None other = other
said_first_of named (Some nodes) other = Some (nothing_said named nodes)

-- what the first line says, if it is `raw N` or `names N`
abbrev pub said_first : List ℕ → Option SaidView
said_first line = said_first_of false (nodes_of false line) (said_first_of true (nodes_of true line) None)

-- ## Rule 2: the first word
-- in each script
abbrev pub shared_kinds : List Kind
shared_kinds =
    kind.Task task.Takeover ∷ kind.Task task.Roll ∷ kind.Task task.Close ∷ kind.Call call.Drop ∷ kind.Call call.Mute ∷ kind.Call call.Late ∷ kind.Node node.Kill ∷ kind.Node node.Restart
    ∷ kind.Stop ∷ kind.Cut ∷ []

-- in one with namespaces alone, or in one without
abbrev pub own_kinds : Bool → List Kind
own_kinds true = kind.Declare ∷ kind.Edits ∷ kind.Trim ∷ kind.Standby standby.Tail ∷ kind.Standby standby.Checkpoint ∷ kind.Standby standby.Reload ∷ []
own_kinds false = kind.Declare ∷ kind.Log ∷ kind.Purge ∷ []

unfoldable pub own_kind_of : Bool → List ℕ → Option Kind
own_kind_of named word = find (λ k. bytes_eq word (keyword named k)) (own_kinds named)

-- the kind of line that a first word begins in such a script
unfoldable pub kind_of : Bool → List ℕ → Option Kind
kind_of named word = find (λ k. bytes_eq word (keyword named k)) (shared_kinds ++ own_kinds named)

-- ## Rule 3: the number of words, none of them empty
abbrev pub has_length : Kind → ℕ → Bool
has_length kind.Declare n = n == 2
has_length (kind.Task t) n = n == 2
has_length kind.Log n = nat_le 3 n
has_length kind.Edits n = nat_le 3 n
has_length kind.Purge n = n == 3
has_length kind.Trim n = n == 3
has_length (kind.Standby w) n = n == 2
has_length (kind.Call c) n = n == 4
has_length (kind.Node t) n = n == 2
has_length kind.Stop n = n == 4
has_length kind.Cut n = n == 5

abbrev pub bad_spacing : Kind → List (List ℕ) → Bool
bad_spacing k words = list_any is_empty words || not (has_length k (length words))

-- ## The later rules, of the words after the first
abbrev pub declares : Kind → Bool
declares kind.Declare = true
declares _ = false

-- rule 4: the name in a declaration
abbrev pub bad_name : Kind → List (List ℕ) → Bool
bad_name k words = declares k && not (is_name (word_at words 0))

-- rule 11: one actor too many
abbrev pub too_many : SaidView → Kind → Bool
too_many said k = declares k && nat_le most_actors (length said.names)

-- rule 6: an actor that was declared before
abbrev pub declared_again : SaidView → Kind → List (List ℕ) → Bool
declared_again said k words = declares k && is_some (actor_of said.names (word_at words 0))

abbrev pub names_actor : Kind → Bool
names_actor (kind.Task t) = true
names_actor kind.Log = true
names_actor kind.Edits = true
names_actor kind.Purge = true
names_actor kind.Trim = true
names_actor (kind.Standby w) = true
names_actor (kind.Call c) = true
names_actor _ = false

-- rule 5: an actor that was not declared before
abbrev pub bad_actor : SaidView → Kind → List (List ℕ) → Bool
bad_actor said k words = names_actor k && is_none (actor_of said.names (word_at words 0))

-- rule 7: the numbers, those of nodes among them, and the choices
abbrev pub bad_number : SaidView → Kind → List (List ℕ) → Bool
bad_number said kind.Purge (name ∷ min ∷ []) = not (is_number 0 greatest min)
bad_number said kind.Trim (name ∷ extra ∷ []) = not (is_number 0 greatest extra)
bad_number said (kind.Call c) (name ∷ i ∷ k ∷ []) = not (is_number 1 said.nodes i && is_number 1 greatest k)
bad_number said (kind.Node t) (i ∷ []) = not (is_number 1 said.nodes i)
bad_number said kind.Stop (i ∷ calls ∷ keep ∷ []) = not (is_number 1 said.nodes i && is_number 1 greatest calls && is_number 0 greatest keep)
bad_number said kind.Cut (i ∷ calls ∷ made ∷ choice ∷ []) =
    not (is_number 1 said.nodes i && is_number 1 greatest calls && is_number 0 greatest made && is_some (choice_of choice))
bad_number said _ words = false

-- rule 8: the bodies
abbrev pub bad_body : Kind → List (List ℕ) → Bool
bad_body kind.Log (name ∷ bodies) = not (list_all is_body bodies)
bad_body _ words = false

-- rule 9: the edits
abbrev pub bad_edits : Kind → List (List ℕ) → Bool
bad_edits kind.Edits (name ∷ words) = not (are_edits words)
bad_edits _ words = false

abbrev pub later_rule : SaidView → Kind → List (List ℕ) → Option ℕ
later_rule said k words =
    if bad_name k words then Some 4
    else if too_many said k then Some 11
    else if declared_again said k words then Some 6
    else if bad_actor said k words then Some 5
    else if bad_number said k words then Some 7
    else if bad_body k words then Some 8
    else if bad_edits k words then Some 9
    else None

-- ## The rules in order
-- after the first line that says something; 2 is the first word's rule
unfoldable pub rule_in : SaidView → Option Kind → List (List ℕ) → Option ℕ
rule_in said None words = Some 2
rule_in said (Some k) words = if bad_spacing k words then Some 3 else later_rule said k (drop 1 words)

-- the rule that a line breaks which says something; 1 is the rule of the first such line
unfoldable pub rule_said : Option SaidView → List ℕ → Option ℕ
rule_said None line = if is_none (said_first line) then Some 1 else None
rule_said (Some said) line = rule_in said (kind_of said.named (first_word (words_of line))) (words_of line)

-- the rule that a line breaks; 10 is the rule of all lines
unfoldable pub rule_of : Option SaidView → List ℕ → Option ℕ
rule_of said line = if not (is_line line) then Some 10 else if is_silent line then None else rule_said said line

-- ## What the lines said after one more that breaks no rule
abbrev pub said_in : SaidView → Option Kind → List (List ℕ) → SaidView
said_in said None words = said
said_in said (Some k) words = said_by said k words

abbrev pub said_next : Option SaidView → List ℕ → Option SaidView
said_next None line = said_first line
said_next (Some said) line = Some (said_in said (kind_of said.named (first_word (words_of line))) (drop 1 (words_of line)))

unfoldable pub said_with_line : Option SaidView → List ℕ → Option SaidView
said_with_line said line = if is_silent line then said else said_next said line

-- ## The first line that breaks a rule, and the rule
abbrev pub or_later : ℕ → Option ℕ → Option (ℕ × ℕ) → Option (ℕ × ℕ)
or_later number (Some rule) later = Some (number, rule)
or_later number None later = later

-- where no line says anything, the first breaks rule 1
abbrev pub fault_at_end : Option SaidView → Option (ℕ × ℕ)
fault_at_end None = Some (1, 1)
fault_at_end (Some said) = None

unfoldable pub first_fault : ℕ → Option SaidView → List Line → Option (ℕ × ℕ)
first_fault number said [] = fault_at_end said
first_fault number said (Ended line ∷ lines) = or_later number (rule_of said line) (first_fault (number + 1) (said_with_line said line) lines)
first_fault number said (Open line ∷ lines) = Some (number, 10)

-- the first line that breaks a rule, from 1, and the rule
unfoldable pub fault_of : List ℕ → Option (ℕ × ℕ)
fault_of bytes = first_fault 1 None (lines_of bytes)
