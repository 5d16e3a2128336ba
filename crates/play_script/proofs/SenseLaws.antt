-- A line that makes sense: its words are words, break no rule, and are of no other line.
use Rattle.std.proofs.Common.{ℕ, ◌≡◌, ◌≢◌, ◌<◌, ◌≤◌, List, [], ◌∷◌, ◌++◌, length, Some, None, Bool, true, false, inl, inr, refl, ap, arith, ◌∙◌, nat_le, map, codes, decimal}
use Rattle.std.specs.List.{list_all, list_any, AllByRecursion}
use Rattle.std.proofs.lemmas.Bool.Decides.{nat_tests, leb_tells}
use Rattle.journal_core.specs.Nodes.{most_nodes}
use Rattle.base_words.specs.Hex.{hex_text}
use Rattle.journal_core.specs.declared.cut.Cut.{Cut}
use Rattle.journal_core.specs.declared.cut.Cut.TheVariants as choice
use Rattle.journal_history.specs.declared.stop.Stop.TheVariants as stop
use Rattle.play_script.specs.declared.task_word.TaskWord.TheVariants as task
use Rattle.play_script.specs.declared.standby_word.StandbyWord.TheVariants as standby
use Rattle.play_script.specs.declared.call_word.CallWord.TheVariants as call
use Rattle.play_script.specs.declared.node_word.NodeWord.TheVariants as node
use Rattle.play_script.specs.declared.kind.Kind.{Kind}
use Rattle.play_script.specs.declared.kind.Kind.TheVariants as kind
use Rattle.play_script.specs.declared.script_line.ScriptLine.{ScriptLine}
use Rattle.play_script.specs.declared.script_line.ScriptLine.TheVariants as line
use Rattle.play_script.specs.Views.{SaidView}
use Rattle.base_words.specs.Words.{joined, words_of, is_empty, first_word}
use Rattle.journal_text.specs.Lines.{IsBody}
use Rattle.base_words.specs.WordNumbers.{is_number}
use Rattle.play_script.specs.Words.{actor_of, name_at, greatest, choice_word, is_body}
use Rattle.play_script.specs.Edits.{edits_text}
use Rattle.play_script.specs.Grammar.{belongs, keyword, kind_in, operands, words_in, line_text, said_after, most_actors, IsActor, IsNode, IsCount, HasSense, is_silent}
use Rattle.play_script.specs.Rules.{kind_of, has_length, bad_spacing, later_rule, rule_in, rule_said}
use Rattle.play_script.specs.Reading.{Says}
use Rattle.play_script.proofs.BodyLaws.{IsWord, words_again, name_is_word, body_is_word, body_again}
use Rattle.play_script.proofs.NumberLaws.{number_is, number_is_word, choice_again}
use Rattle.play_script.proofs.NameLaws.{AreKnown, known_push, name_good}
use Rattle.base_words.proofs.WordLaws.{words_some}
use Rattle.play_script.proofs.EditLaws.{edits_full, are_edits_again}
use Rattle.play_script.proofs.KindLaws.{kind_is}

-- ## Its words
keyword_is_word : (named : Bool) (k : Kind) → IsWord (keyword named k)
keyword_is_word true kind.Declare = refl
keyword_is_word false kind.Declare = refl
keyword_is_word named (kind.Task task.Takeover) = refl
keyword_is_word named (kind.Task task.Roll) = refl
keyword_is_word named (kind.Task task.Close) = refl
keyword_is_word named kind.Log = refl
keyword_is_word named kind.Edits = refl
keyword_is_word named kind.Purge = refl
keyword_is_word named kind.Trim = refl
keyword_is_word named (kind.Standby standby.Tail) = refl
keyword_is_word named (kind.Standby standby.Checkpoint) = refl
keyword_is_word named (kind.Standby standby.Reload) = refl
keyword_is_word named (kind.Call call.Drop) = refl
keyword_is_word named (kind.Call call.Mute) = refl
keyword_is_word named (kind.Call call.Late) = refl
keyword_is_word named (kind.Node node.Kill) = refl
keyword_is_word named (kind.Node node.Restart) = refl
keyword_is_word named kind.Stop = refl
keyword_is_word named kind.Cut = refl

-- a word that isn't empty
abbrev IsFull : List ℕ → Type 0
IsFull word = IsWord word × (is_empty word ≡ false)

abbrev AreFull : List (List ℕ) → Type 0
AreFull words = AllByRecursion IsWord words × (list_any is_empty words ≡ false)

none_full : AreFull []
none_full = (tt, refl)

more_full : (word : List ℕ) (words : List (List ℕ)) → IsFull word → AreFull words → AreFull (word ∷ words)
more_full word words h k = ((h.0, k.0), rw h.1 k.1)

one_full : (a : List ℕ) → IsFull a → AreFull (a ∷ [])
one_full a h = more_full a [] h none_full

two_full : (a b : List ℕ) → IsFull a → IsFull b → AreFull (a ∷ b ∷ [])
two_full a b h k = more_full a (b ∷ []) h (one_full b k)

three_full : (a b c : List ℕ) → IsFull a → IsFull b → IsFull c → AreFull (a ∷ b ∷ c ∷ [])
three_full a b c h k l = more_full a (b ∷ c ∷ []) h (two_full b c k l)

hex_full : (bodies : List (List ℕ)) → AllByRecursion IsBody bodies → AreFull (map hex_text bodies)
hex_full [] h = none_full
hex_full (b ∷ bs) h = more_full (hex_text b) (map hex_text bs) (body_is_word b h.0) (hex_full bs h.1)

hex_are_bodies : (bodies : List (List ℕ)) → AllByRecursion IsBody bodies → list_all is_body (map hex_text bodies) ≡ true
hex_are_bodies [] h = refl
hex_are_bodies (b ∷ bs) h = rw (body_again b h.0) (hex_are_bodies bs h.1)

actor_full : (names : List (List ℕ)) (actor : ℕ) → AreKnown names → actor < length names → IsFull (name_at names actor)
actor_full names actor k l = name_is_word (name_at names actor) (name_good names actor k.good l)

-- the number of a node is no greater than any other
abbrev pub AreFew : SaidView → Type 0
AreFew said = said.nodes ≤ most_nodes

node_full : (said : SaidView) (i : ℕ) → AreFew said → IsNode said i → IsFull (decimal i)
node_full said i f n = number_is_word i (omega (arith, n.1))

call_full : (said : SaidView) (actor i k : ℕ) → AreKnown said.names → AreFew said → IsActor said actor × IsNode said i × IsCount k → AreFull (name_at said.names actor ∷ decimal i ∷ decimal k ∷ [])
call_full said actor i k known f s =
    three_full (name_at said.names actor) (decimal i) (decimal k) (actor_full said.names actor known s.0) (node_full said i f s.1) (number_is_word k s.2.1)

choice_full : (choice : Cut) → IsFull (choice_word choice)
choice_full choice.Old = (refl, refl)
choice_full choice.New = (refl, refl)
choice_full choice.A5 = (refl, refl)

pub operands_full : (said : SaidView) (l : ScriptLine) → AreKnown said.names → AreFew said → HasSense said l
    → AllByRecursion IsWord (operands said.names l) × (list_any is_empty (operands said.names l) ≡ false)
operands_full said (line.Declare name) k f s = one_full name (name_is_word name s.0)
operands_full said (line.Takeover actor) k f s = one_full (name_at said.names actor) (actor_full said.names actor k s)
operands_full said (line.Roll actor) k f s = one_full (name_at said.names actor) (actor_full said.names actor k s)
operands_full said (line.Close actor) k f s = one_full (name_at said.names actor) (actor_full said.names actor k s)
operands_full said (line.Log actor bodies) k f s = more_full (name_at said.names actor) (map hex_text bodies) (actor_full said.names actor k s.0) (hex_full bodies s.2)
operands_full said (line.Edits actor edits) k f s = more_full (name_at said.names actor) (words_of (edits_text edits)) (actor_full said.names actor k s.0) (edits_full edits s.1 s.2)
operands_full said (line.Trim actor extra) k f s = two_full (name_at said.names actor) (decimal extra) (actor_full said.names actor k s.0) (number_is_word extra s.1)
operands_full said (line.Tail actor) k f s = one_full (name_at said.names actor) (actor_full said.names actor k s)
operands_full said (line.Checkpoint actor) k f s = one_full (name_at said.names actor) (actor_full said.names actor k s)
operands_full said (line.Reload actor) k f s = one_full (name_at said.names actor) (actor_full said.names actor k s)
operands_full said (line.Purge actor min) k f s = two_full (name_at said.names actor) (decimal min) (actor_full said.names actor k s.0) (number_is_word min s.1)
operands_full said (line.Drop actor i n) k f s = call_full said actor i n k f s
operands_full said (line.Mute actor i n) k f s = call_full said actor i n k f s
operands_full said (line.Late actor i n) k f s = call_full said actor i n k f s
operands_full said (line.Kill i) k f s = one_full (decimal i) (node_full said i f s)
operands_full said (line.Restart i) k f s = one_full (decimal i) (node_full said i f s)
operands_full said (line.Arm i calls (stop.Effects keep)) k f s =
    three_full (decimal i) (decimal calls) (decimal keep) (node_full said i f s.0) (number_is_word calls s.1.1) (number_is_word keep s.2)
operands_full said (line.Arm i calls (stop.DiskCalls made choice)) k f s =
    more_full (decimal i) (decimal calls ∷ decimal made ∷ choice_word choice ∷ []) (node_full said i f s.0)
    (three_full (decimal calls) (decimal made) (choice_word choice) (number_is_word calls s.1.1) (number_is_word made s.2) (choice_full choice))

pub words_are_words : (said : SaidView) (l : ScriptLine) → AreKnown said.names → AreFew said → HasSense said l → AllByRecursion IsWord (words_in said l)
words_are_words said l k f s = (keyword_is_word said.named (kind_in l), (operands_full said l k f s).0)

pub words_back : (said : SaidView) (l : ScriptLine) → AreKnown said.names → AreFew said → HasSense said l → words_of (line_text said l) ≡ words_in said l
words_back said l k f s = words_again (keyword said.named (kind_in l)) (operands said.names l) (words_are_words said l k f s)

-- ## How many there are
some_bodies : (bodies : List (List ℕ)) (word name : List ℕ) → bodies ≢ [] → nat_le 3 (length (word ∷ name ∷ map hex_text bodies)) ≡ true
some_bodies [] word name n = absurd (n refl)
some_bodies (b ∷ bs) word name n = grind (arith, nat_tests)

some_words : (words : List (List ℕ)) (word name : List ℕ) → words ≢ [] → nat_le 3 (length (word ∷ name ∷ words)) ≡ true
some_words [] word name n = absurd (n refl)
some_words (w ∷ ws) word name n = grind (arith, nat_tests)

counted : (said : SaidView) (l : ScriptLine) → HasSense said l → has_length (kind_in l) (length (words_in said l)) ≡ true
counted said (line.Declare name) s = refl
counted said (line.Takeover actor) s = refl
counted said (line.Roll actor) s = refl
counted said (line.Close actor) s = refl
counted said (line.Log actor bodies) s = some_bodies bodies (codes "log") (name_at said.names actor) s.1
counted said (line.Edits actor edits) s = some_words (words_of (edits_text edits)) (codes "log") (name_at said.names actor) (words_some (edits_text edits))
counted said (line.Purge actor min) s = refl
counted said (line.Trim actor extra) s = refl
counted said (line.Tail actor) s = refl
counted said (line.Checkpoint actor) s = refl
counted said (line.Reload actor) s = refl
counted said (line.Drop actor i n) s = refl
counted said (line.Mute actor i n) s = refl
counted said (line.Late actor i n) s = refl
counted said (line.Kill i) s = refl
counted said (line.Restart i) s = refl
counted said (line.Arm i calls (stop.Effects keep)) s = refl
counted said (line.Arm i calls (stop.DiskCalls made choice)) s = refl

keyword_full : (named : Bool) (k : Kind) → is_empty (keyword named k) ≡ false
keyword_full true kind.Declare = refl
keyword_full false kind.Declare = refl
keyword_full named (kind.Task task.Takeover) = refl
keyword_full named (kind.Task task.Roll) = refl
keyword_full named (kind.Task task.Close) = refl
keyword_full named kind.Log = refl
keyword_full named kind.Edits = refl
keyword_full named kind.Purge = refl
keyword_full named kind.Trim = refl
keyword_full named (kind.Standby standby.Tail) = refl
keyword_full named (kind.Standby standby.Checkpoint) = refl
keyword_full named (kind.Standby standby.Reload) = refl
keyword_full named (kind.Call call.Drop) = refl
keyword_full named (kind.Call call.Mute) = refl
keyword_full named (kind.Call call.Late) = refl
keyword_full named (kind.Node node.Kill) = refl
keyword_full named (kind.Node node.Restart) = refl
keyword_full named kind.Stop = refl
keyword_full named kind.Cut = refl

spacing_good : (said : SaidView) (l : ScriptLine) → AreKnown said.names → AreFew said → HasSense said l → bad_spacing (kind_in l) (words_in said l) ≡ false
spacing_good said l k f s =
    let a : is_empty (keyword said.named (kind_in l)) ≡ false = keyword_full said.named (kind_in l) in
    let b : list_any is_empty (operands said.names l) ≡ false = (operands_full said l k f s).1 in
    let c : has_length (kind_in l) (length (words_in said l)) ≡ true = counted said l s in
    rw (a, b, c) refl

-- ## The later rules
few_actors : (said : SaidView) → length said.names < most_actors → nat_le most_actors (length said.names) ≡ false
few_actors said l = elim (leb_tells most_actors (length said.names)) [ inl p ↦ absurd (omega (arith, p.1)) | inr p ↦ p.0 ]

node_number : (said : SaidView) (i : ℕ) → AreFew said → IsNode said i → is_number 1 said.nodes (decimal i) ≡ true
node_number said i f n = number_is 1 said.nodes i (omega arith) n.0 n.1

count_number : (k : ℕ) → IsCount k → is_number 1 greatest (decimal k) ≡ true
count_number k c = number_is 1 greatest k (omega arith) c.0 c.1

any_number : (n : ℕ) → n ≤ greatest → is_number 0 greatest (decimal n) ≡ true
any_number n l = number_is 0 greatest n (omega arith) (omega arith) l

actor_rule : (said : SaidView) (actor : ℕ) → AreKnown said.names → IsActor said actor → actor_of said.names (name_at said.names actor) ≡ Some actor
actor_rule said actor k l = k.found actor l

rule_none : (said : SaidView) (l : ScriptLine) → AreKnown said.names → AreFew said → HasSense said l → later_rule said (kind_in l) (operands said.names l) ≡ None
rule_none said (line.Declare name) k f s = rw (s.0, few_actors said s.1, s.2) refl
rule_none said (line.Takeover actor) k f s = rw (actor_rule said actor k s) refl
rule_none said (line.Roll actor) k f s = rw (actor_rule said actor k s) refl
rule_none said (line.Close actor) k f s = rw (actor_rule said actor k s) refl
rule_none said (line.Log actor bodies) k f s = rw (actor_rule said actor k s.0, hex_are_bodies bodies s.2) refl
rule_none said (line.Edits actor edits) k f s = rw (actor_rule said actor k s.0, are_edits_again edits s.1 s.2) refl
rule_none said (line.Trim actor extra) k f s = rw (actor_rule said actor k s.0, any_number extra s.1) refl
rule_none said (line.Tail actor) k f s = rw (actor_rule said actor k s) refl
rule_none said (line.Checkpoint actor) k f s = rw (actor_rule said actor k s) refl
rule_none said (line.Reload actor) k f s = rw (actor_rule said actor k s) refl
rule_none said (line.Purge actor min) k f s = rw (actor_rule said actor k s.0, any_number min s.1) refl
rule_none said (line.Drop actor i n) k f s = rw (actor_rule said actor k s.0, node_number said i f s.1, count_number n s.2) refl
rule_none said (line.Mute actor i n) k f s = rw (actor_rule said actor k s.0, node_number said i f s.1, count_number n s.2) refl
rule_none said (line.Late actor i n) k f s = rw (actor_rule said actor k s.0, node_number said i f s.1, count_number n s.2) refl
rule_none said (line.Kill i) k f s = rw (node_number said i f s) refl
rule_none said (line.Restart i) k f s = rw (node_number said i f s) refl
rule_none said (line.Arm i calls (stop.Effects keep)) k f s = rw (node_number said i f s.0, count_number calls s.1, any_number keep s.2) refl
rule_none said (line.Arm i calls (stop.DiskCalls made choice)) k f s = rw (node_number said i f s.0, count_number calls s.1, any_number made s.2, choice_again choice) refl

first_keyword : (named : Bool) (k : Kind) (words : List (List ℕ)) → first_word (keyword named k ∷ words) ≡ keyword named k
first_keyword true kind.Declare words = refl
first_keyword false kind.Declare words = refl
first_keyword named (kind.Task task.Takeover) words = refl
first_keyword named (kind.Task task.Roll) words = refl
first_keyword named (kind.Task task.Close) words = refl
first_keyword named kind.Log words = refl
first_keyword named kind.Edits words = refl
first_keyword named kind.Purge words = refl
first_keyword named kind.Trim words = refl
first_keyword named (kind.Standby standby.Tail) words = refl
first_keyword named (kind.Standby standby.Checkpoint) words = refl
first_keyword named (kind.Standby standby.Reload) words = refl
first_keyword named (kind.Call call.Drop) words = refl
first_keyword named (kind.Call call.Mute) words = refl
first_keyword named (kind.Call call.Late) words = refl
first_keyword named (kind.Node node.Kill) words = refl
first_keyword named (kind.Node node.Restart) words = refl
first_keyword named kind.Stop words = refl
first_keyword named kind.Cut words = refl

pub kind_of_words : (said : SaidView) (l : ScriptLine) → belongs said.named (kind_in l) ≡ true → kind_of said.named (first_word (words_in said l)) ≡ Some (kind_in l)
kind_of_words said l h = ap (kind_of said.named) (first_keyword said.named (kind_in l) (operands said.names l)) ∙ kind_is said.named (kind_in l) h

rule_in_none : (said : SaidView) (l : ScriptLine) → AreKnown said.names → AreFew said → HasSense said l → rule_in said (Some (kind_in l)) (words_in said l) ≡ None
unfolding rule_in
rule_in_none said l k f s = rw (spacing_good said l k f s) (rule_none said l k f s)

pub says_it : (said : SaidView) (l : ScriptLine) → AreKnown said.names → AreFew said → belongs said.named (kind_in l) ≡ true → HasSense said l → Says said (line_text said l) l
unfolding rule_said
says_it said l k f h s =
    let words = words_back said l k f s in
    record {
      rule =
          ap (λ ws. rule_in said (kind_of said.named (first_word ws)) ws) words ∙ ap (λ o. rule_in said o (words_in said l)) (kind_of_words said l h)
          ∙ rule_in_none said l k f s;
      words = words;
      here = h;
      sense = s;
    }

pub known_after : (said : SaidView) (l : ScriptLine) → AreKnown said.names → HasSense said l → AreKnown (said_after said l).names
known_after said (line.Declare name) k s = known_push said.names name k s.0 s.2
known_after said (line.Takeover actor) k s = k
known_after said (line.Roll actor) k s = k
known_after said (line.Close actor) k s = k
known_after said (line.Log actor bodies) k s = k
known_after said (line.Purge actor min) k s = k
known_after said (line.Edits actor edits) k s = k
known_after said (line.Trim actor extra) k s = k
known_after said (line.Tail actor) k s = k
known_after said (line.Checkpoint actor) k s = k
known_after said (line.Reload actor) k s = k
known_after said (line.Drop actor i n) k s = k
known_after said (line.Mute actor i n) k s = k
known_after said (line.Late actor i n) k s = k
known_after said (line.Kill i) k s = k
known_after said (line.Restart i) k s = k
known_after said (line.Arm i calls (stop.Effects keep)) k s = k
known_after said (line.Arm i calls (stop.DiskCalls made choice)) k s = k

pub nodes_after : (said : SaidView) (l : ScriptLine) → (said_after said l).nodes ≡ said.nodes
nodes_after said (line.Declare name) = refl
nodes_after said (line.Takeover actor) = refl
nodes_after said (line.Roll actor) = refl
nodes_after said (line.Close actor) = refl
nodes_after said (line.Log actor bodies) = refl
nodes_after said (line.Purge actor min) = refl
nodes_after said (line.Edits actor edits) = refl
nodes_after said (line.Trim actor extra) = refl
nodes_after said (line.Tail actor) = refl
nodes_after said (line.Checkpoint actor) = refl
nodes_after said (line.Reload actor) = refl
nodes_after said (line.Drop actor i n) = refl
nodes_after said (line.Mute actor i n) = refl
nodes_after said (line.Late actor i n) = refl
nodes_after said (line.Kill i) = refl
nodes_after said (line.Restart i) = refl
nodes_after said (line.Arm i calls (stop.Effects keep)) = refl
nodes_after said (line.Arm i calls (stop.DiskCalls made choice)) = refl

pub named_after : (said : SaidView) (l : ScriptLine) → (said_after said l).named ≡ said.named
named_after said (line.Declare name) = refl
named_after said (line.Takeover actor) = refl
named_after said (line.Roll actor) = refl
named_after said (line.Close actor) = refl
named_after said (line.Log actor bodies) = refl
named_after said (line.Purge actor min) = refl
named_after said (line.Edits actor edits) = refl
named_after said (line.Trim actor extra) = refl
named_after said (line.Tail actor) = refl
named_after said (line.Checkpoint actor) = refl
named_after said (line.Reload actor) = refl
named_after said (line.Drop actor i n) = refl
named_after said (line.Mute actor i n) = refl
named_after said (line.Late actor i n) = refl
named_after said (line.Kill i) = refl
named_after said (line.Restart i) = refl
named_after said (line.Arm i calls (stop.Effects keep)) = refl
named_after said (line.Arm i calls (stop.DiskCalls made choice)) = refl

-- a line that declares nobody leaves what was said
pub said_same : (said : SaidView) (l : ScriptLine) → ((name : List ℕ) → l ≡ line.Declare name → ⊥) → said ≡ said_after said l
said_same said (line.Declare name) h = absurd (h name refl)
said_same said (line.Takeover actor) h = refl
said_same said (line.Roll actor) h = refl
said_same said (line.Close actor) h = refl
said_same said (line.Log actor bodies) h = refl
said_same said (line.Purge actor min) h = refl
said_same said (line.Edits actor edits) h = refl
said_same said (line.Trim actor extra) h = refl
said_same said (line.Tail actor) h = refl
said_same said (line.Checkpoint actor) h = refl
said_same said (line.Reload actor) h = refl
said_same said (line.Drop actor i n) h = refl
said_same said (line.Mute actor i n) h = refl
said_same said (line.Late actor i n) h = refl
said_same said (line.Kill i) h = refl
said_same said (line.Restart i) h = refl
said_same said (line.Arm i calls (stop.Effects keep)) h = refl
said_same said (line.Arm i calls (stop.DiskCalls made choice)) h = refl

speaks : (named : Bool) (k : Kind) (words : List (List ℕ)) → is_silent (joined (keyword named k ∷ words)) ≡ false
speaks named k [] = first_speaks named k
  where
    first_speaks : (named : Bool) (k : Kind) → is_silent (keyword named k) ≡ false
    first_speaks true kind.Declare = refl
    first_speaks false kind.Declare = refl
    first_speaks named (kind.Task task.Takeover) = refl
    first_speaks named (kind.Task task.Roll) = refl
    first_speaks named (kind.Task task.Close) = refl
    first_speaks named kind.Log = refl
    first_speaks named kind.Edits = refl
    first_speaks named kind.Purge = refl
    first_speaks named kind.Trim = refl
    first_speaks named (kind.Standby standby.Tail) = refl
    first_speaks named (kind.Standby standby.Checkpoint) = refl
    first_speaks named (kind.Standby standby.Reload) = refl
    first_speaks named (kind.Call call.Drop) = refl
    first_speaks named (kind.Call call.Mute) = refl
    first_speaks named (kind.Call call.Late) = refl
    first_speaks named (kind.Node node.Kill) = refl
    first_speaks named (kind.Node node.Restart) = refl
    first_speaks named kind.Stop = refl
    first_speaks named kind.Cut = refl
speaks named k (w ∷ ws) = more_speaks named k (32 ∷ joined (w ∷ ws))
  where
    more_speaks : (named : Bool) (k : Kind) (rest : List ℕ) → is_silent (keyword named k ++ rest) ≡ false
    more_speaks true kind.Declare rest = refl
    more_speaks false kind.Declare rest = refl
    more_speaks named (kind.Task task.Takeover) rest = refl
    more_speaks named (kind.Task task.Roll) rest = refl
    more_speaks named (kind.Task task.Close) rest = refl
    more_speaks named kind.Log rest = refl
    more_speaks named kind.Edits rest = refl
    more_speaks named kind.Purge rest = refl
    more_speaks named kind.Trim rest = refl
    more_speaks named (kind.Standby standby.Tail) rest = refl
    more_speaks named (kind.Standby standby.Checkpoint) rest = refl
    more_speaks named (kind.Standby standby.Reload) rest = refl
    more_speaks named (kind.Call call.Drop) rest = refl
    more_speaks named (kind.Call call.Mute) rest = refl
    more_speaks named (kind.Call call.Late) rest = refl
    more_speaks named (kind.Node node.Kill) rest = refl
    more_speaks named (kind.Node node.Restart) rest = refl
    more_speaks named kind.Stop rest = refl
    more_speaks named kind.Cut rest = refl

pub not_silent : (said : SaidView) (l : ScriptLine) → is_silent (line_text said l) ≡ false
not_silent said l = speaks said.named (kind_in l) (operands said.names l)
