-- What is printed is read again.
use Rattle.std.proofs.Common.{ℕ, ◌≡◌, ◌<◌, ◌≤◌, List, [], ◌∷◌, ◌++◌, length, true, false, refl, sym, ap, arith, ◌∙◌, append_assoc, append-nil, nat_le, map, zero, suc, subst, Bool}
use Rattle.std.specs.List.{list_all, AllByRecursion, flat_map}
use Rattle.std.specs.Fmt.{digits}
use Rattle.std.proofs.lemmas.Bool.Decides.{nat_tests}
use Rattle.std.proofs.lemmas.Bool.{and_parts}
use Rattle.journal_core.specs.Nodes.{most_nodes}
use Rattle.play_script.specs.declared.script_line.ScriptLine.{ScriptLine}
use Rattle.play_script.specs.Scripts.{ScriptView}
use Rattle.play_script.specs.Views.{SaidView}
use Rattle.play_script.specs.Lines.{Ended, lines_of, ended, Lacks, is_plain, is_line, is_whole, longest_line}
use Rattle.play_script.specs.Grammar.{words_in, line_text, first_line, nothing_said, said_after, texts_of, MaySay, AreLines, IsScript, IsScriptText}
use Rattle.play_script.specs.Grammar.{script_lines, script_text, is_silent, lines_that_say}
use Rattle.play_script.proofs.LineLaws.{line_first, no_lines}
use Rattle.play_script.proofs.BodyLaws.{between_from, joined_plain}
use Rattle.play_script.proofs.NameLaws.{AreKnown, none_known}
use Rattle.play_script.proofs.SenseLaws.{AreFew, known_after, nodes_after, words_are_words, not_silent}

-- ## Texts of lines
plain_lacks : (line : List ℕ) → list_all is_plain line ≡ true → Lacks 10 line
plain_lacks [] h = tt
plain_lacks (b ∷ bs) h =
    let t : (is_plain b ≡ true) × (list_all is_plain bs ≡ true) = and_parts (is_plain b) (list_all is_plain bs) h in
    let r : (32 ≤ b) × (b ≤ 126) = between_from 32 126 b t.0 in
    ((λ e. absurd (omega (arith, r.0, e))), plain_lacks bs t.1)

-- what a line that is printed has
pub record IsPrinted (line : List ℕ) : Type 0 where
  pub whole : is_line line ≡ true
  pub loud : is_silent line ≡ false

printed_lacks : (line : List ℕ) → is_line line ≡ true → Lacks 10 line
unfolding is_line
printed_lacks line h = plain_lacks line (and_parts (list_all is_plain line) (nat_le (length line) longest_line) h).0

le_true : (m n : ℕ) → m ≤ n → nat_le m n ≡ true
le_true m n l = grind (arith, nat_tests)

line_is : (line : List ℕ) → list_all is_plain line ≡ true → length line ≤ longest_line → is_line line ≡ true
unfolding is_line
line_is line p l = let t : nat_le (length line) longest_line ≡ true = le_true (length line) longest_line l in rw (p, t) refl

pub ended_first : (line : List ℕ) (lines : List (List ℕ)) → ended (line ∷ lines) ≡ line ++ 10 ∷ ended lines
unfolding ended
ended_first line lines = append_assoc line (10 ∷ []) (flat_map (λ l. l ++ 10 ∷ []) lines)

ended_none : lines_of (ended []) ≡ []
unfolding ended
ended_none = no_lines [] refl

lines_again : (lines : List (List ℕ)) → AllByRecursion IsPrinted lines → lines_of (ended lines) ≡ map Ended lines
lines_again [] h = ended_none
lines_again (line ∷ lines) h =
    line_first (ended (line ∷ lines)) line (ended lines) (ended_first line lines) (printed_lacks line h.0.whole) ∙ ap (λ ls. Ended line ∷ ls) (lines_again lines h.1)

all_whole : (lines : List (List ℕ)) → AllByRecursion IsPrinted lines → list_all is_whole (map Ended lines) ≡ true
all_whole [] h = refl
all_whole (line ∷ lines) h = rw h.0.whole (all_whole lines h.1)

all_told : (lines : List (List ℕ)) → AllByRecursion IsPrinted lines → lines_that_say (map Ended lines) ≡ lines
all_told [] h = refl
all_told (line ∷ lines) h = rw h.0.loud (ap (λ ls. line ∷ ls) (all_told lines h.1))

-- ## A script's lines
line_printed : (said : SaidView) (line : ScriptLine) → AreKnown said.names → AreFew said → MaySay said line → IsPrinted (line_text said line)
line_printed said line k f m =
    record {
      whole = line_is (line_text said line) (joined_plain (words_in said line) (words_are_words said line k f m.sense)) m.fits;
      loud = not_silent said line;
    }

few_after : (said : SaidView) (line : ScriptLine) → AreFew said → AreFew (said_after said line)
few_after said line f = subst (λ (n : ℕ). n ≤ most_nodes) (sym (nodes_after said line)) f

lines_printed : (said : SaidView) (lines : List ScriptLine) → AreKnown said.names → AreFew said → AreLines said lines → AllByRecursion IsPrinted (texts_of said lines)
unfolding texts_of AreLines
lines_printed said [] k f a = tt
lines_printed said (line ∷ lines) k f a = (line_printed said line k f a.0, lines_printed (said_after said line) lines (known_after said line k a.0.sense) (few_after said line f) a.1)

first_printed : (named : Bool) (nodes : ℕ) → 0 < nodes → nodes ≤ most_nodes → IsPrinted (first_line named nodes)
unfolding is_line digits
first_printed named zero s l = absurd (omega arith)
first_printed true (suc zero) s l = record { whole = refl; loud = refl }
first_printed true (suc (suc zero)) s l = record { whole = refl; loud = refl }
first_printed true (suc (suc (suc zero))) s l = record { whole = refl; loud = refl }
first_printed true (suc (suc (suc (suc zero)))) s l = record { whole = refl; loud = refl }
first_printed true (suc (suc (suc (suc (suc zero))))) s l = record { whole = refl; loud = refl }
first_printed true (suc (suc (suc (suc (suc (suc zero)))))) s l = record { whole = refl; loud = refl }
first_printed true (suc (suc (suc (suc (suc (suc (suc zero))))))) s l = record { whole = refl; loud = refl }
first_printed true (suc (suc (suc (suc (suc (suc (suc (suc zero)))))))) s l = record { whole = refl; loud = refl }
first_printed true (suc (suc (suc (suc (suc (suc (suc (suc (suc zero))))))))) s l = record { whole = refl; loud = refl }
first_printed true (suc (suc (suc (suc (suc (suc (suc (suc (suc (suc zero)))))))))) s l = record { whole = refl; loud = refl }
first_printed true (suc (suc (suc (suc (suc (suc (suc (suc (suc (suc (suc zero))))))))))) s l = record { whole = refl; loud = refl }
first_printed true (suc (suc (suc (suc (suc (suc (suc (suc (suc (suc (suc (suc zero)))))))))))) s l = record { whole = refl; loud = refl }
first_printed true (suc (suc (suc (suc (suc (suc (suc (suc (suc (suc (suc (suc (suc zero))))))))))))) s l = record { whole = refl; loud = refl }
first_printed true (suc (suc (suc (suc (suc (suc (suc (suc (suc (suc (suc (suc (suc (suc zero)))))))))))))) s l = record { whole = refl; loud = refl }
first_printed true (suc (suc (suc (suc (suc (suc (suc (suc (suc (suc (suc (suc (suc (suc (suc zero))))))))))))))) s l = record { whole = refl; loud = refl }
first_printed false (suc zero) s l = record { whole = refl; loud = refl }
first_printed false (suc (suc zero)) s l = record { whole = refl; loud = refl }
first_printed false (suc (suc (suc zero))) s l = record { whole = refl; loud = refl }
first_printed false (suc (suc (suc (suc zero)))) s l = record { whole = refl; loud = refl }
first_printed false (suc (suc (suc (suc (suc zero))))) s l = record { whole = refl; loud = refl }
first_printed false (suc (suc (suc (suc (suc (suc zero)))))) s l = record { whole = refl; loud = refl }
first_printed false (suc (suc (suc (suc (suc (suc (suc zero))))))) s l = record { whole = refl; loud = refl }
first_printed false (suc (suc (suc (suc (suc (suc (suc (suc zero)))))))) s l = record { whole = refl; loud = refl }
first_printed false (suc (suc (suc (suc (suc (suc (suc (suc (suc zero))))))))) s l = record { whole = refl; loud = refl }
first_printed false (suc (suc (suc (suc (suc (suc (suc (suc (suc (suc zero)))))))))) s l = record { whole = refl; loud = refl }
first_printed false (suc (suc (suc (suc (suc (suc (suc (suc (suc (suc (suc zero))))))))))) s l = record { whole = refl; loud = refl }
first_printed false (suc (suc (suc (suc (suc (suc (suc (suc (suc (suc (suc (suc zero)))))))))))) s l = record { whole = refl; loud = refl }
first_printed false (suc (suc (suc (suc (suc (suc (suc (suc (suc (suc (suc (suc (suc zero))))))))))))) s l = record { whole = refl; loud = refl }
first_printed false (suc (suc (suc (suc (suc (suc (suc (suc (suc (suc (suc (suc (suc (suc zero)))))))))))))) s l = record { whole = refl; loud = refl }
first_printed false (suc (suc (suc (suc (suc (suc (suc (suc (suc (suc (suc (suc (suc (suc (suc zero))))))))))))))) s l = record { whole = refl; loud = refl }
first_printed named (suc (suc (suc (suc (suc (suc (suc (suc (suc (suc (suc (suc (suc (suc (suc (suc n)))))))))))))))) s l = absurd (omega arith)

pub has_its_text : (s : ScriptView) → IsScript s → IsScriptText (script_text s) s
has_its_text s h =
    let printed : AllByRecursion IsPrinted (script_lines s) = (first_printed s.named s.nodes h.permitted.0 h.permitted.1, lines_printed (nothing_said s.named s.nodes) s.lines none_known h.permitted.1 h.lines) in
    let again : lines_of (script_text s) ≡ map Ended (script_lines s) = lines_again (script_lines s) printed in
    record {
      whole = ap (list_all is_whole) again ∙ all_whole (script_lines s) printed;
      says = ap lines_that_say again ∙ all_told (script_lines s) printed;
      script = h;
    }

-- ## Printed line by line
-- what is written, and what is left to write
pub record IsWritten (out : List ℕ) (said : SaidView) (left : List ScriptLine) (all : List ℕ) : Type 0 where
  pub text : out ++ ended (texts_of said left) ≡ all
  pub lines : AreLines said left

ended_none_text : (out : List ℕ) → out ++ ended [] ≡ out
unfolding ended
ended_none_text out = append-nil out

pub texts_first : (said : SaidView) (line : ScriptLine) (lines : List ScriptLine) → texts_of said (line ∷ lines) ≡ line_text said line ∷ texts_of (said_after said line) lines
unfolding texts_of
texts_first said line lines = refl

texts_none : (said : SaidView) → texts_of said [] ≡ []
unfolding texts_of
texts_none said = refl

pub lines_first : (said : SaidView) (line : ScriptLine) (lines : List ScriptLine) → AreLines said (line ∷ lines) → MaySay said line × AreLines (said_after said line) lines
unfolding AreLines
lines_first said line lines h = h

-- before the first of these lines
pub written_start : (out : List ℕ) (s : ScriptView) (said : SaidView) → said ≡ nothing_said s.named s.nodes → IsScript s
    → out ≡ first_line s.named s.nodes ++ 10 ∷ [] → IsWritten out said s.lines (script_text s)
written_start out s said e h o =
    let P : SaidView → Type 0 = λ v. IsWritten out v s.lines (script_text s) in
    subst P (sym e) (record {
      text =
          ap (λ t. t ++ ended (texts_of (nothing_said s.named s.nodes) s.lines)) o ∙ append_assoc (first_line s.named s.nodes) (10 ∷ []) (ended (texts_of (nothing_said s.named s.nodes) s.lines))
          ∙ sym (ended_first (first_line s.named s.nodes) (texts_of (nothing_said s.named s.nodes) s.lines));
      lines = h.lines;
    })

pub written_may : (out : List ℕ) (said : SaidView) (line : ScriptLine) (lines : List ScriptLine) (left : List ScriptLine) (all : List ℕ)
    → IsWritten out said left all → left ≡ line ∷ lines → MaySay said line
written_may out said line lines left all w e = (lines_first said line lines (subst (AreLines said) e w.lines)).0

-- one more line
pub written_more : (out text new : List ℕ) (said next : SaidView) (line : ScriptLine) (lines left : List ScriptLine) (all : List ℕ) → IsWritten out said left all → left ≡ line ∷ lines
    → text ≡ out ++ line_text said line → new ≡ text ++ 10 ∷ [] → next ≡ said_after said line → IsWritten new next lines all
written_more out text new said next line lines left all w e t n s =
    let P : SaidView → Type 0 = λ v. IsWritten new v lines all in
    let rest : List ℕ = ended (texts_of (said_after said line) lines) in
    subst P (sym s) (record {
      text =
          ap (λ x. x ++ rest) (n ∙ ap (λ x. x ++ 10 ∷ []) t) ∙ append_assoc (out ++ line_text said line) (10 ∷ []) rest ∙ append_assoc out (line_text said line) (10 ∷ rest)
          ∙ ap (λ x. out ++ x) (sym (ended_first (line_text said line) (texts_of (said_after said line) lines))
          ∙ ap ended (sym (texts_first said line lines)) ∙ ap (λ ls. ended (texts_of said ls)) (sym e)) ∙ w.text;
      lines = (lines_first said line lines (subst (AreLines said) e w.lines)).1;
    })

pub written_all : (out : List ℕ) (said : SaidView) (left : List ScriptLine) (all : List ℕ) → IsWritten out said left all → left ≡ [] → out ≡ all
written_all out said left all w e =
    sym (ended_none_text out) ∙ ap (λ ls. out ++ ended ls) (sym (texts_none said)) ∙ ap (λ ls. out ++ ended (texts_of said ls)) (sym e) ∙ w.text
