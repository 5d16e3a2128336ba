-- Which lines of a script take memory, and that none is taken before the first that says something.
use Rattle.std.proofs.Common.{ℕ, ◌≡◌, ◌≤◌, ◌+◌, List, [], ◌∷◌, length, drop, Option, Some, None, Bool, true, false, not, refl, sym, ap, arith, ◌∙◌, nat_le, cond}
use Rattle.std.specs.Prelude.{Result, Ok, Err, OnErr, is_some, is_none}
use Rattle.play_script.specs.declared.kind.Kind.{Kind}
use Rattle.play_script.specs.declared.kind.Kind.TheVariants as kind
use Rattle.play_script.specs.declared.line_read.LineRead.{LineRead}
use Rattle.play_script.specs.declared.script_line.ScriptLine.{ScriptLine}
use Rattle.play_script.specs.Views.{SaidView, ReadingView}
use Rattle.play_script.specs.Lines.{Line, Ended, Open, lines_of, is_line}
use Rattle.base_words.specs.Words.{words_of, first_word}
use Rattle.std.specs.List.{list_all}
use Rattle.journal_text.specs.Reading.{bodies_in}
use Rattle.play_script.specs.Words.{is_name, actor_of, is_body}
use Rattle.play_script.proofs.BodyLaws.{bodies_test}
use Rattle.play_script.specs.Grammar.{most_actors, is_silent}
use Rattle.play_script.specs.Rules.{kind_of, bad_spacing, bad_name, too_many, declared_again, bad_actor, bad_number, bad_body, bad_edits, later_rule}
use Rattle.play_script.specs.Rules.{rule_in, rule_said, rule_of, said_in, said_with_line, or_later, first_fault, fault_of}
use Rattle.play_script.specs.Reading.{Names, Says, IsBehind, takes_memory}
use Rattle.play_script.proofs.KindLaws.{rule_later}

-- ## Kind by kind
edit_test : (b : Bool) → takes_memory (cond b (Some 9) None) ≡ true
edit_test true = refl
edit_test false = refl

all_bodies : (bodies : List (List ℕ)) → is_some (bodies_in bodies) ≡ true → list_all is_body bodies ≡ true
all_bodies bodies h = bodies_test bodies ∙ h

pub log_takes : (said : SaidView) (name : List ℕ) (bodies : List (List ℕ)) (actor : ℕ) → Names said.names name actor
    → is_some (bodies_in bodies) ≡ true → takes_memory (later_rule said kind.Log (name ∷ bodies)) ≡ true
log_takes said name bodies actor n some =
    ap (λ o. takes_memory (cond (is_none o) (Some 5) (cond (bad_body kind.Log (name ∷ bodies)) (Some 8) None))) n.0 ∙ ap (λ b. takes_memory (cond (not b) (Some 8) None)) (all_bodies bodies some)

pub edits_take : (said : SaidView) (name : List ℕ) (words : List (List ℕ)) (actor : ℕ) → Names said.names name actor → takes_memory (later_rule said kind.Edits (name ∷ words)) ≡ true
edits_take said name words actor n =
    ap (λ o. takes_memory (cond (is_none o) (Some 5) (cond (bad_edits kind.Edits (name ∷ words)) (Some 9) None))) n.0 ∙ edit_test (bad_edits kind.Edits (name ∷ words))

pub declared_takes : (said : SaidView) (name : List ℕ) → is_name name ≡ true → nat_le most_actors (length said.names) ≡ false → actor_of said.names name ≡ None
    → takes_memory (later_rule said kind.Declare (name ∷ [])) ≡ true
declared_takes said name a b c =
    ap (λ x. takes_memory (cond (not x) (Some 4) (cond (nat_le most_actors (length said.names)) (Some 11) (cond (is_some (actor_of said.names name)) (Some 6) None)))) a
    ∙ ap (λ x. takes_memory (cond x (Some 11) (cond (is_some (actor_of said.names name)) (Some 6) None))) b
    ∙ ap (λ o. takes_memory (cond (is_some o) (Some 6) None)) c

-- ## A line
pub line_takes : {E : Type 0} (said : SaidView) (text : List ℕ) (k : Kind) (words : List (List ℕ)) (r : Result LineRead E) → kind_of said.named (first_word (words_of text)) ≡ Some k
    → bad_spacing k (words_of text) ≡ false → words_of text ≡ first_word (words_of text) ∷ words → OnErr r (takes_memory (later_rule said k words) ≡ true)
    → OnErr r (takes_memory (rule_said (Some said) text) ≡ true)
line_takes said text k words (Ok x) e b s h = h
line_takes said text k words (Err x) e b s h = ap takes_memory (rule_later said text k words e b s) ∙ h

pub says_takes : (said : SaidView) (text : List ℕ) (line : ScriptLine) → Says said text line → takes_memory (rule_said (Some said) text) ≡ true
says_takes said text line s = ap takes_memory s.rule

-- ## After the first line that says something no line breaks rule 1
abbrev Later : Option ℕ → Type 0
Later None = Unit {0}
Later (Some rule) = 2 ≤ rule

record IsLater (o : Option ℕ) : Type 0 where
  later : Later o

none : IsLater None
none = record { later = tt }

test : (b : Bool) (rule : ℕ) (o : Option ℕ) → 2 ≤ rule → IsLater o → IsLater (cond b (Some rule) o)
test true rule o h k = record { later = h }
test false rule o h k = k

unless_silent : (b : Bool) (o : Option ℕ) → IsLater o → IsLater (cond b None o)
unless_silent true o k = none
unless_silent false o k = k

words_later : (said : SaidView) (k : Kind) (words : List (List ℕ)) → IsLater (later_rule said k words)
words_later said k words =
    test (bad_name k words) 4 _ (omega arith)
    (test (too_many said k) 11 _ (omega arith)
    (test (declared_again said k words) 6 _ (omega arith)
    (test (bad_actor said k words) 5 _ (omega arith)
    (test (bad_number said k words) 7 _ (omega arith)
    (test (bad_body k words) 8 _ (omega arith)
    (test (bad_edits k words) 9 None (omega arith) none))))))

kind_later : (said : SaidView) (o : Option Kind) (words : List (List ℕ)) → IsLater (rule_in said o words)
unfolding rule_in
kind_later said None words = record { later = omega arith }
kind_later said (Some k) words = test (bad_spacing k words) 3 _ (omega arith) (words_later said k (drop 1 words))

line_later : (said : SaidView) (text : List ℕ) → IsLater (rule_of (Some said) text)
unfolding rule_of rule_said
line_later said text =
    test (not (is_line text)) 10 _ (omega arith)
    (unless_silent (is_silent text) _ (kind_later said (kind_of said.named (first_word (words_of text))) (words_of text)))

behind_is : (b : Bool) (s t : SaidView) → (v : SaidView) × (cond b (Some s) (Some t) ≡ Some v)
behind_is true s t = (s, refl)
behind_is false s t = (t, refl)

after_some : (said : SaidView) (text : List ℕ) → (v : SaidView) × (said_with_line (Some said) text ≡ Some v)
unfolding said_with_line
after_some said text = behind_is (is_silent text) said (said_in said (kind_of said.named (first_word (words_of text))) (drop 1 (words_of text)))

abbrev rule_at : Option (ℕ × ℕ) → ℕ
rule_at None = 0
rule_at (Some p) = p.1

later_not_one : (number line : ℕ) (o : Option ℕ) (later : Option (ℕ × ℕ)) → IsLater o → (later ≡ Some (line, 1) → ⊥) → or_later number o later ≡ Some (line, 1) → ⊥
later_not_one number line (Some rule) later k h e =
    let l : 2 ≤ rule = k.later in
    let one : rule ≡ 1 = ap rule_at e in
    omega (arith, l, one)
later_not_one number line None later k h e = h e

faults_later : (number line : ℕ) (said : SaidView) (ls : List Line) → first_fault number (Some said) ls ≡ Some (line, 1) → ⊥
unfolding first_fault
faults_later number line said [] e = cc
faults_later number line said (Ended text ∷ ls) e =
    let v = after_some said text in
    later_not_one number line (rule_of (Some said) text) (first_fault (number + 1) (said_with_line (Some said) text) ls) (line_later said text)
    (λ h. faults_later (number + 1) line v.0 ls (sym (ap (λ o. first_fault (number + 1) o ls) v.1) ∙ h)) e
faults_later number line said (Open text ∷ ls) e =
    let ten : 10 ≡ 1 = ap rule_at e in
    omega (arith, ten)

-- once a line said something, the text's fault isn't that of its first line
pub first_was_right : (bytes : List ℕ) (count line : ℕ) (r : ReadingView) (rest : List ℕ) → IsBehind bytes count r rest → (r.said ≡ None → ⊥) → fault_of bytes ≡ Some (line, 1) → ⊥
first_was_right bytes count line r rest b some e = by r.said some (b.fault ∙ e)
  where
    by : (o : Option SaidView) → (o ≡ None → ⊥) → first_fault (count + 1) o (lines_of rest) ≡ Some (line, 1) → ⊥
    by None h f = h refl
    by (Some v) h f = faults_later (count + 1) line v (lines_of rest) f
