-- A text that breaks no rule is a script's.
use Rattle.std.proofs.Common.{ℕ, ◌≡◌, ◌≤◌, ◌+◌, List, [], ◌∷◌, ◌++◌, length, Option, Some, None, Bool, true, false, not, ◌⊎◌, inl, inr, refl, sym, ap, ◌∙◌, subst, cond}
use Rattle.std.specs.Prelude.{is_none}
use Rattle.std.specs.List.{list_all, AllByRecursion}
use Rattle.std.proofs.lemmas.Bool.{false≢true}
use Rattle.std.proofs.lemmas.Bool.Decides.{eqb_tells}
use Rattle.play_script.specs.declared.kind.Kind.{Kind}
use Rattle.play_script.specs.declared.line_read.LineRead.TheVariants as line_read
use Rattle.play_script.specs.declared.script_line.ScriptLine.{ScriptLine}
use Rattle.play_script.specs.Scripts.{ScriptView}
use Rattle.play_script.specs.Views.{SaidView}
use Rattle.play_script.specs.Lines.{Line, Ended, Open, lines_of, is_line, is_whole, Lacks, longest_line}
use Rattle.base_words.specs.Words.{words_of, first_word}
use Rattle.play_script.specs.Grammar.{line_text, words_in, said_after, first_line, nothing_said, texts_of, MaySay, AreLines, is_silent, lines_that_say, script_lines, IsScript, IsScriptText}
use Rattle.play_script.specs.Rules.{kind_of, bad_spacing, rule_said, rule_of, said_first, said_with_line, said_next, or_later, first_fault, fault_of}
use Rattle.play_script.specs.Reading.{Says}
use Rattle.base_words.proofs.WordLaws.{text_is}
use Rattle.play_script.proofs.WordLaws.{words_more, words_all}
use Rattle.play_script.proofs.KindLaws.{first_is, too_few, count_after, no_kind, ill_spaced, rule_later, line_read_as}
use Rattle.play_script.proofs.EditLaws.{words_lack}
use Rattle.play_script.proofs.MeansLaws.{means_kind}
use Rattle.play_script.proofs.FirstLaws.{first_tells}
use Rattle.play_script.proofs.ReadLaws.{line_fits, said_is}

bool_is : (b : Bool) → (b ≡ true) ⊎ (b ≡ false)
bool_is true = inl refl
bool_is false = inr refl

option_is : {A : Type 0} (o : Option A) → (o ≡ None) ⊎ ((x : A) × (o ≡ Some x))
option_is None = inl refl
option_is (Some x) = inr (x, refl)

none_some : {A : Type 0} {x : A} (o : Option A) → o ≡ None → o ≡ Some x → ⊥
none_some o e f = cc

-- ## A text's first word, and the rest
abbrev Cut : List ℕ → Type 0
Cut text = (word : List ℕ) × (rest : List ℕ) × (text ≡ word ++ 32 ∷ rest) × Lacks 32 word

cut : (text : List ℕ) → Lacks 32 text ⊎ Cut text
cut [] = inl tt
cut (b ∷ bs) =
    elim (eqb_tells b 32) [
      | inl p ↦ inr ([], bs, ap (λ c. c ∷ bs) p.1, tt)
      | inr p ↦ elim (cut bs) [ inl l ↦ inl (p.1, l) | inr (word, rest, e, l) ↦ inr (b ∷ word, rest, ap (λ xs. b ∷ xs) e, (p.1, l)) ]
    ]

-- ## A line that breaks no rule says something
abbrev Meaning : SaidView → List ℕ → Type 0
Meaning said text = (line : ScriptLine) × Says said text line

means_words : (said : SaidView) (text : List ℕ) (k : Kind) (words : List (List ℕ)) → AllByRecursion (Lacks 32) words
    → kind_of said.named (first_word (words_of text)) ≡ Some k → bad_spacing k (words_of text) ≡ false
    → words_of text ≡ first_word (words_of text) ∷ words → rule_said (Some said) text ≡ None → Meaning said text
means_words said text k words a f b w e =
    let m = means_kind said k words a (count_after k (words_of text) (first_word (words_of text)) words b w) (sym (rule_later said text k words f b w) ∙ e) in
    (m.0, line_read_as said text k words (line_read.Says m.0) f b w m.1)

means_kind_of : (said : SaidView) (text : List ℕ) (k : Kind) → kind_of said.named (first_word (words_of text)) ≡ Some k
    → bad_spacing k (words_of text) ≡ false → rule_said (Some said) text ≡ None → Meaning said text
means_kind_of said text k f b e =
    elim (cut text) [
      | inl l ↦ absurd (false≢true (sym b ∙ too_few k (words_of text) text (words_all text l)))
      | inr (word, rest, t, l) ↦ means_words said text k (words_of rest) (words_lack rest) f b (first_is k (words_of text) word (words_of rest) b (words_more text word rest t l)) e
    ]

means : (said : SaidView) (text : List ℕ) → rule_said (Some said) text ≡ None → Meaning said text
means said text e =
    elim (option_is (kind_of said.named (first_word (words_of text)))) [
      | inl n ↦ absurd (none_some (rule_said (Some said) text) e (no_kind said text n))
      | inr (k, f) ↦ elim (bool_is (bad_spacing k (words_of text))) [
        | inl b ↦ absurd (none_some (rule_said (Some said) text) e (ill_spaced said text k f b))
        | inr b ↦ means_kind_of said text k f b e
      ]
    ]

-- ## All lines
later_none : (number : ℕ) (rule : Option ℕ) (later : Option (ℕ × ℕ)) → or_later number rule later ≡ None → (rule ≡ None) × (later ≡ None)
later_none number (Some rule) later e = cc
later_none number None later e = (refl, e)

fault_next : (number : ℕ) (said : Option SaidView) (text : List ℕ) (ls : List Line) → first_fault number said (Ended text ∷ ls) ≡ None
    → (rule_of said text ≡ None) × (first_fault (number + 1) (said_with_line said text) ls ≡ None)
unfolding first_fault
fault_next number said text ls e = later_none number (rule_of said text) (first_fault (number + 1) (said_with_line said text) ls) e

open_faults : (number : ℕ) (said : Option SaidView) (text : List ℕ) (ls : List Line) → first_fault number said (Open text ∷ ls) ≡ None → ⊥
unfolding first_fault
open_faults number said text ls e = cc

line_good : (said : Option SaidView) (text : List ℕ) → rule_of said text ≡ None → is_line text ≡ true
unfolding rule_of
line_good said text e = by (is_line text) e
  where
    by : (b : Bool) → cond (not b) (Some 10) (cond (is_silent text) None (rule_said said text)) ≡ None → b ≡ true
    by true h = refl
    by false h = cc

said_good : (said : Option SaidView) (text : List ℕ) → rule_of said text ≡ None → is_line text ≡ true → is_silent text ≡ false → rule_said said text ≡ None
unfolding rule_of
said_good said text e w q = rw (w, q) at e

after_silent : (said : Option SaidView) (text : List ℕ) → is_silent text ≡ true → said_with_line said text ≡ said
unfolding said_with_line
after_silent said text q = rw q refl

after_loud : (said : Option SaidView) (text : List ℕ) → is_silent text ≡ false → said_with_line said text ≡ said_next said text
unfolding said_with_line
after_loud said text q = rw q refl

pub telling_silent : (text : List ℕ) (lines : List Line) → is_silent text ≡ true → lines_that_say (Ended text ∷ lines) ≡ lines_that_say lines
telling_silent text lines q = rw q refl

pub telling_loud : (text : List ℕ) (lines : List Line) → is_silent text ≡ false → lines_that_say (Ended text ∷ lines) ≡ text ∷ lines_that_say lines
telling_loud text lines q = rw q refl

-- the lines say this script's lines
pub record AreSaid (said : SaidView) (ls : List Line) (script : List ScriptLine) : Type 0 where
  pub whole : list_all is_whole ls ≡ true
  pub says : lines_that_say ls ≡ texts_of said script
  pub lines : AreLines said script

nothing_left : (said : SaidView) → AreSaid said [] []
unfolding texts_of AreLines
nothing_left said = record { whole = refl; says = refl; lines = tt }

said_silent : (said : SaidView) (text : List ℕ) (ls : List Line) (lines : List ScriptLine) → is_line text ≡ true → is_silent text ≡ true → AreSaid said ls lines → AreSaid said (Ended text ∷ ls) lines
said_silent said text ls lines w q a = record { whole = rw w a.whole; says = telling_silent text ls q ∙ a.says; lines = a.lines }

said_loud : (said : SaidView) (text : List ℕ) (ls : List Line) (line : ScriptLine) (lines : List ScriptLine) → is_line text ≡ true → is_silent text ≡ false → Says said text line
    → AreSaid (said_after said line) ls lines → AreSaid said (Ended text ∷ ls) (line ∷ lines)
unfolding texts_of AreLines
said_loud said text ls line lines w q s a =
    let same : text ≡ line_text said line = text_is text (words_in said line) s.words in
    let may : MaySay said line = record { here = s.here; sense = s.sense; fits = subst (λ (t : List ℕ). length t ≤ longest_line) same (line_fits text w) } in
    record {
      whole = rw w a.whole;
      says = telling_loud text ls q ∙ ap (λ t. t ∷ lines_that_say ls) same ∙ ap (λ ts. line_text said line ∷ ts) a.says;
      lines = (may, a.lines);
    }

lines_said : (number : ℕ) (said : SaidView) (ls : List Line) → first_fault number (Some said) ls ≡ None → (lines : List ScriptLine) × AreSaid said ls lines
lines_said number said [] e = ([], nothing_left said)
lines_said number said (Open text ∷ ls) e = absurd (open_faults number (Some said) text ls e)
lines_said number said (Ended text ∷ ls) e =
    let f = fault_next number (Some said) text ls e in
    let w = line_good (Some said) text f.0 in
    elim (bool_is (is_silent text)) [
      | inl q ↦ let rest = lines_said (number + 1) said ls (ap (λ s. first_fault (number + 1) s ls) (sym (after_silent (Some said) text q)) ∙ f.1)
          in (rest.0, said_silent said text ls rest.0 w q rest.1)
      | inr q ↦
          let m = means said text (said_good (Some said) text f.0 w q) in
          let next : said_with_line (Some said) text ≡ Some (said_after said m.0) = after_loud (Some said) text q ∙ said_is said text m.0 m.1.here m.1.words in
          let rest = lines_said (number + 1) (said_after said m.0) ls (ap (λ s. first_fault (number + 1) s ls) (sym next) ∙ f.1) in
          (m.0 ∷ rest.0, said_loud said text ls m.0 rest.0 w q m.1 rest.1)
    ]

-- the lines are a script's, from the first that says something on
pub record AreScript (ls : List Line) (s : ScriptView) : Type 0 where
  pub whole : list_all is_whole ls ≡ true
  pub says : lines_that_say ls ≡ script_lines s
  pub script : IsScript s

end_faults : (number : ℕ) → first_fault number None [] ≡ None → ⊥
unfolding first_fault
end_faults number e = cc

first_good : (text : List ℕ) → rule_said None text ≡ None → (said : SaidView) × (said_first text ≡ Some said)
unfolding rule_said
first_good text e = by (said_first text) refl e
  where
    by : (o : Option SaidView) → said_first text ≡ o → cond {A = Option ℕ} (is_none o) (Some 1) None ≡ None → (said : SaidView) × (said_first text ≡ Some said)
    by None h k = cc
    by (Some said) h k = (said, h)

script_said : (number : ℕ) (ls : List Line) → first_fault number None ls ≡ None → (s : ScriptView) × AreScript ls s
script_said number [] e = absurd (end_faults number e)
script_said number (Open text ∷ ls) e = absurd (open_faults number None text ls e)
script_said number (Ended text ∷ ls) e =
    let f = fault_next number None text ls e in
    let w = line_good None text f.0 in
    elim (bool_is (is_silent text)) [
      | inl q ↦
          let rest = script_said (number + 1) ls (ap (λ s. first_fault (number + 1) s ls) (sym (after_silent None text q)) ∙ f.1) in
          (rest.0, record { whole = rw w rest.1.whole; says = telling_silent text ls q ∙ rest.1.says; script = rest.1.script })
      | inr q ↦
          let first = first_good text (said_good None text f.0 w q) in
          let told = first_tells text first.0 first.1 in
          let next : said_with_line None text ≡ Some (nothing_said first.0.named first.0.nodes) = after_loud None text q ∙ first.1 ∙ ap (λ (v : SaidView). Some v) told.begins in
          let rest = lines_said (number + 1) (nothing_said first.0.named first.0.nodes) ls (ap (λ s. first_fault (number + 1) s ls) (sym next) ∙ f.1) in
          let s : ScriptView = record { named = first.0.named; nodes = first.0.nodes; lines = rest.0 } in (
            s,
            record {
              whole = rw w rest.1.whole;
              says = telling_loud text ls q ∙ ap (λ t. t ∷ lines_that_say ls) told.spelled ∙ ap (λ ts. first_line first.0.named first.0.nodes ∷ ts) rest.1.says;
              script = record { permitted = told.permitted; lines = rest.1.lines };
            },
          )
    ]

pub else_broken : (bytes : List ℕ) → fault_of bytes ≡ None → (s : ScriptView) × IsScriptText bytes s
unfolding fault_of
else_broken bytes e =
    let found = script_said 1 (lines_of bytes) e in
    (found.0, record { whole = found.1.whole; says = found.1.says; script = found.1.script })
