-- A script's text breaks no rule, and is of one script.
use Rattle.std.proofs.Common.{ℕ, ◌≡◌, ◌≤◌, ◌<◌, ◌+◌, List, [], ◌∷◌, Option, Some, None, Bool, true, false, ◌⊎◌, inl, inr, refl, sym, ap, arith, ◌∙◌, subst, zero, suc}
use Rattle.std.specs.List.{list_all}
use Rattle.std.specs.Fmt.{digits}
use Rattle.std.proofs.lemmas.Bool.{false≢true, and_parts}
use Rattle.journal_core.specs.Nodes.{most_nodes}
use Rattle.play_script.specs.declared.script_line.ScriptLine.{ScriptLine}
use Rattle.play_script.specs.Scripts.{ScriptView}
use Rattle.play_script.specs.Views.{SaidView}
use Rattle.play_script.specs.Lines.{Line, Ended, Open, lines_of, is_line, is_whole}
use Rattle.base_words.specs.Words.{words_of}
use Rattle.play_script.specs.Grammar.{words_in, line_text, nothing_said, said_after, first_line, texts_of, AreLines, is_silent, lines_that_say, script_lines, IsScriptText}
use Rattle.play_script.specs.Rules.{nodes_of, rule_said, rule_of, said_first, said_with_line, said_next, or_later, first_fault, fault_of}
use Rattle.play_script.proofs.NameLaws.{AreKnown, none_known}
use Rattle.play_script.proofs.SenseLaws.{AreFew, words_back, says_it, known_after, nodes_after}
use Rattle.play_script.proofs.MadeLaws.{same_line}
use Rattle.play_script.proofs.ReadLaws.{said_is}
use Rattle.play_script.proofs.PrintLaws.{texts_first, lines_first}
use Rattle.play_script.proofs.FaultLaws.{telling_loud, telling_silent}

-- ## No rule is broken
pub told_all : (named : Bool) (nodes : ℕ) → 0 < nodes → nodes ≤ most_nodes → said_first (first_line named nodes) ≡ Some (nothing_said named nodes)
unfolding nodes_of digits
told_all named zero s l = absurd (omega arith)
told_all true (suc zero) s l = refl
told_all true (suc (suc zero)) s l = refl
told_all true (suc (suc (suc zero))) s l = refl
told_all true (suc (suc (suc (suc zero)))) s l = refl
told_all true (suc (suc (suc (suc (suc zero))))) s l = refl
told_all true (suc (suc (suc (suc (suc (suc zero)))))) s l = refl
told_all true (suc (suc (suc (suc (suc (suc (suc zero))))))) s l = refl
told_all true (suc (suc (suc (suc (suc (suc (suc (suc zero)))))))) s l = refl
told_all true (suc (suc (suc (suc (suc (suc (suc (suc (suc zero))))))))) s l = refl
told_all true (suc (suc (suc (suc (suc (suc (suc (suc (suc (suc zero)))))))))) s l = refl
told_all true (suc (suc (suc (suc (suc (suc (suc (suc (suc (suc (suc zero))))))))))) s l = refl
told_all true (suc (suc (suc (suc (suc (suc (suc (suc (suc (suc (suc (suc zero)))))))))))) s l = refl
told_all true (suc (suc (suc (suc (suc (suc (suc (suc (suc (suc (suc (suc (suc zero))))))))))))) s l = refl
told_all true (suc (suc (suc (suc (suc (suc (suc (suc (suc (suc (suc (suc (suc (suc zero)))))))))))))) s l = refl
told_all true (suc (suc (suc (suc (suc (suc (suc (suc (suc (suc (suc (suc (suc (suc (suc zero))))))))))))))) s l = refl
told_all false (suc zero) s l = refl
told_all false (suc (suc zero)) s l = refl
told_all false (suc (suc (suc zero))) s l = refl
told_all false (suc (suc (suc (suc zero)))) s l = refl
told_all false (suc (suc (suc (suc (suc zero))))) s l = refl
told_all false (suc (suc (suc (suc (suc (suc zero)))))) s l = refl
told_all false (suc (suc (suc (suc (suc (suc (suc zero))))))) s l = refl
told_all false (suc (suc (suc (suc (suc (suc (suc (suc zero)))))))) s l = refl
told_all false (suc (suc (suc (suc (suc (suc (suc (suc (suc zero))))))))) s l = refl
told_all false (suc (suc (suc (suc (suc (suc (suc (suc (suc (suc zero)))))))))) s l = refl
told_all false (suc (suc (suc (suc (suc (suc (suc (suc (suc (suc (suc zero))))))))))) s l = refl
told_all false (suc (suc (suc (suc (suc (suc (suc (suc (suc (suc (suc (suc zero)))))))))))) s l = refl
told_all false (suc (suc (suc (suc (suc (suc (suc (suc (suc (suc (suc (suc (suc zero))))))))))))) s l = refl
told_all false (suc (suc (suc (suc (suc (suc (suc (suc (suc (suc (suc (suc (suc (suc zero)))))))))))))) s l = refl
told_all false (suc (suc (suc (suc (suc (suc (suc (suc (suc (suc (suc (suc (suc (suc (suc zero))))))))))))))) s l = refl
told_all named (suc (suc (suc (suc (suc (suc (suc (suc (suc (suc (suc (suc (suc (suc (suc (suc n)))))))))))))))) s l = absurd (omega arith)

silent_rule : (said : Option SaidView) (text : List ℕ) → is_line text ≡ true → is_silent text ≡ true → (rule_of said text ≡ None) × (said_with_line said text ≡ said)
unfolding rule_of said_with_line
silent_rule said text w q = (rw (w, q) refl, rw q refl)

telling_rule : (said : Option SaidView) (text : List ℕ) → is_line text ≡ true → is_silent text ≡ false → (rule_of said text ≡ rule_said said text) × (said_with_line said text ≡ said_next said text)
unfolding rule_of said_with_line
telling_rule said text w q = (rw (w, q) refl, rw q refl)

fault_more : (number : ℕ) (said next : Option SaidView) (text : List ℕ) (lines : List Line) → rule_of said text ≡ None → said_with_line said text ≡ next
    → first_fault number said (Ended text ∷ lines) ≡ first_fault (number + 1) next lines
unfolding first_fault
fault_more number said next text lines r b =
    ap (λ o. or_later number o (first_fault (number + 1) (said_with_line said text) lines)) r ∙ ap (λ s. first_fault (number + 1) s lines) b

fault_end : (number : ℕ) (said : SaidView) → first_fault number (Some said) [] ≡ None
unfolding first_fault
fault_end number said = refl

texts_none : (said : SaidView) → texts_of said [] ≡ []
unfolding texts_of
texts_none said = refl

bool_is : (b : Bool) → (b ≡ true) ⊎ (b ≡ false)
bool_is true = inl refl
bool_is false = inr refl

cons_nil : (x : List ℕ) (xs : List (List ℕ)) → x ∷ xs ≡ [] → ⊥
cons_nil x xs e = cc

few_after : (said : SaidView) (line : ScriptLine) → AreFew said → AreFew (said_after said line)
few_after said line f = subst (λ (n : ℕ). n ≤ most_nodes) (sym (nodes_after said line)) f

pub no_fault : (number : ℕ) (said : SaidView) (ls : List Line) (lines : List ScriptLine) → AreKnown said.names → AreFew said
    → list_all is_whole ls ≡ true → lines_that_say ls ≡ texts_of said lines → AreLines said lines
    → first_fault number (Some said) ls ≡ None
no_fault number said [] lines k f w t a = fault_end number said
no_fault number said (Open text ∷ ls) lines k f w t a = absurd (false≢true w)
no_fault number said (Ended text ∷ ls) lines k f w t a =
    let good = and_parts (is_line text) (list_all is_whole ls) w in
    elim (bool_is (is_silent text)) [
      | inl q ↦
          let rule = silent_rule (Some said) text good.0 q in
          fault_more number (Some said) (Some said) text ls rule.0 rule.1 ∙ no_fault (number + 1) said ls lines k f good.1 (sym (telling_silent text ls q) ∙ t) a
      | inr q ↦ loud number said text ls lines k f good.0 (λ n next rest known few e b. no_fault n next ls rest known few good.1 e b) q (sym (telling_loud text ls q) ∙ t) a
    ]
  where
    loud : (number : ℕ) (said : SaidView) (text : List ℕ) (ls : List Line) (lines : List ScriptLine) → AreKnown said.names → AreFew said → is_line text ≡ true
        → ((n : ℕ) (next : SaidView) (rest : List ScriptLine) → AreKnown next.names → AreFew next → lines_that_say ls ≡ texts_of next rest → AreLines next rest → first_fault n (Some next) ls ≡ None)
        → is_silent text ≡ false → text ∷ lines_that_say ls ≡ texts_of said lines → AreLines said lines → first_fault number (Some said) (Ended text ∷ ls) ≡ None
    loud number said text ls [] k f w later q t a = absurd (cons_nil text (lines_that_say ls) (t ∙ texts_none said))
    loud number said text ls (line ∷ lines) k f w later q t a =
        let both_are : text ∷ lines_that_say ls ≡ line_text said line ∷ texts_of (said_after said line) lines = t ∙ texts_first said line lines in
        let same : text ≡ line_text said line = cc in
        let rest : lines_that_say ls ≡ texts_of (said_after said line) lines = cc in
        let may = lines_first said line lines a in
        let says = says_it said line k f may.0.here may.0.sense in
        let rule = telling_rule (Some said) text w q in
        let said_none : rule_said (Some said) text ≡ None = ap (rule_said (Some said)) same ∙ says.rule in
        let next : said_next (Some said) text ≡ Some (said_after said line) = ap (said_next (Some said)) same ∙ said_is said (line_text said line) line may.0.here says.words in
        fault_more number (Some said) (Some (said_after said line)) text ls (rule.0 ∙ said_none) (rule.1 ∙ next)
        ∙ later (number + 1) (said_after said line) lines (known_after said line k may.0.sense) (few_after said line f) rest may.1

first_said : (text : List ℕ) (said : SaidView) → said_first text ≡ Some said → rule_said None text ≡ None
unfolding rule_said
first_said text said e = rw e refl

no_fault_yet : (number : ℕ) (ls : List Line) (named : Bool) (nodes : ℕ) (lines : List ScriptLine) → 0 < nodes → nodes ≤ most_nodes → list_all is_whole ls ≡ true
    → lines_that_say ls ≡ first_line named nodes ∷ texts_of (nothing_said named nodes) lines → AreLines (nothing_said named nodes) lines → first_fault number None ls ≡ None
no_fault_yet number [] named nodes lines s l w t a = cc
no_fault_yet number (Open text ∷ ls) named nodes lines s l w t a = absurd (false≢true w)
no_fault_yet number (Ended text ∷ ls) named nodes lines s l w t a =
    let good = and_parts (is_line text) (list_all is_whole ls) w in
    elim (bool_is (is_silent text)) [
      | inl q ↦
          let rule = silent_rule None text good.0 q in
          fault_more number None None text ls rule.0 rule.1 ∙ no_fault_yet (number + 1) ls named nodes lines s l good.1 (sym (telling_silent text ls q) ∙ t) a
      | inr q ↦
          let both_are : text ∷ lines_that_say ls ≡ first_line named nodes ∷ texts_of (nothing_said named nodes) lines = sym (telling_loud text ls q) ∙ t in
          let same : text ≡ first_line named nodes = cc in
          let rest : lines_that_say ls ≡ texts_of (nothing_said named nodes) lines = cc in
          let rule = telling_rule None text good.0 q in
          let told : said_first text ≡ Some (nothing_said named nodes) = ap said_first same ∙ told_all named nodes s l in
          fault_more number None (Some (nothing_said named nodes)) text ls (rule.0 ∙ first_said text (nothing_said named nodes) told) (rule.1 ∙ told)
          ∙ no_fault (number + 1) (nothing_said named nodes) ls lines none_known l good.1 rest a
    ]

pub breaks_no_rule : (bytes : List ℕ) (s : ScriptView) → IsScriptText bytes s → fault_of bytes ≡ None
unfolding fault_of
breaks_no_rule bytes s h = no_fault_yet 1 (lines_of bytes) s.named s.nodes s.lines h.script.permitted.0 h.script.permitted.1 h.whole h.says h.script.lines

-- ## One script
pub same_lines_of : (said : SaidView) (xs ys : List ScriptLine) → AreKnown said.names → AreFew said → AreLines said xs → AreLines said ys → texts_of said xs ≡ texts_of said ys → xs ≡ ys
unfolding texts_of AreLines
same_lines_of said [] [] k f a b e = refl
same_lines_of said [] (y ∷ ys) k f a b e = cc
same_lines_of said (x ∷ xs) [] k f a b e = cc
same_lines_of said (x ∷ xs) (y ∷ ys) k f a b e =
    let text : line_text said x ≡ line_text said y = heads (line_text said x) (line_text said y) _ _ e in
    let rest : texts_of (said_after said x) xs ≡ texts_of (said_after said y) ys = tails (line_text said x) (line_text said y) _ _ e in
    let words : words_in said x ≡ words_in said y = sym (words_back said x k f a.0.sense) ∙ ap words_of text ∙ words_back said y k f b.0.sense in
    let same : x ≡ y = same_line said k f x y a.0.here b.0.here a.0.sense b.0.sense words in
    let others : texts_of (said_after said x) xs ≡ texts_of (said_after said x) ys = rest ∙ ap (λ z. texts_of (said_after said z) ys) (sym same) in
    let tail : xs ≡ ys = same_lines_of (said_after said x) xs ys (known_after said x k a.0.sense) (few_after said x f) a.1
    (subst (λ (z : ScriptLine). AreLines (said_after said z) ys) (sym same) b.1) others in
    ap (λ z. z ∷ xs) same ∙ ap (λ zs. y ∷ zs) tail
  where
    heads : (u v : List ℕ) (us vs : List (List ℕ)) → u ∷ us ≡ v ∷ vs → u ≡ v
    heads u v us vs e = cc

    tails : (u v : List ℕ) (us vs : List (List ℕ)) → u ∷ us ≡ v ∷ vs → us ≡ vs
    tails u v us vs e = cc

pub one_script : (bytes : List ℕ) (s t : ScriptView) → IsScriptText bytes s → IsScriptText bytes t → s ≡ t
one_script bytes s t h k =
    let both_are : script_lines s ≡ script_lines t = sym h.says ∙ k.says in
    let first : first_line s.named s.nodes ≡ first_line t.named t.nodes = heads (first_line s.named s.nodes) (first_line t.named t.nodes) _ _ both_are in
    let rest : texts_of (nothing_said s.named s.nodes) s.lines ≡ texts_of (nothing_said t.named t.nodes) t.lines = tails (first_line s.named s.nodes) (first_line t.named t.nodes) _ _ both_are in
    let told : Some (nothing_said s.named s.nodes) ≡ Some (nothing_said t.named t.nodes) =
    sym (told_all s.named s.nodes h.script.permitted.0 h.script.permitted.1) ∙ ap said_first first ∙ told_all t.named t.nodes k.script.permitted.0 k.script.permitted.1 in
    let begins : nothing_said s.named s.nodes ≡ nothing_said t.named t.nodes = some_same (nothing_said s.named s.nodes) (nothing_said t.named t.nodes) told in
    let again : texts_of (nothing_said s.named s.nodes) s.lines ≡ texts_of (nothing_said s.named s.nodes) t.lines = rest ∙ ap (λ (v : SaidView). texts_of v t.lines) (sym begins) in
    let others : AreLines (nothing_said s.named s.nodes) t.lines = subst (λ (v : SaidView). AreLines v t.lines) (sym begins) k.script.lines in
    let lines : s.lines ≡ t.lines = same_lines_of (nothing_said s.named s.nodes) s.lines t.lines none_known h.script.permitted.1 h.script.lines others again in
    (λ i. record { named = (begins i).named; nodes = (begins i).nodes; lines = lines i })
  where
    heads : (u v : List ℕ) (us vs : List (List ℕ)) → u ∷ us ≡ v ∷ vs → u ≡ v
    heads u v us vs e = cc

    tails : (u v : List ℕ) (us vs : List (List ℕ)) → u ∷ us ≡ v ∷ vs → us ≡ vs
    tails u v us vs e = cc

    some_same : (a b : SaidView) → Some a ≡ Some b → a ≡ b
    some_same a b e = cc
