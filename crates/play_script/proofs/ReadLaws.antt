-- The reader, one line on.
use Rattle.std.proofs.Common.{ℕ, ◌≡◌, ◌<◌, ◌≤◌, ◌+◌, List, [], ◌∷◌, ◌++◌, length, drop, Option, Some, None, Bool, true, false, ◌&&◌, refl, sym, ap}
use Rattle.std.proofs.Common.{arith, ◌∙◌, append_assoc, append-nil, nat_le, cond, subst}
use Rattle.std.specs.Prelude.{Result, Ok, Err, IfOk, IfSome, IfNone, OnErr, is_none}
use Rattle.std.specs.List.{list_all}
use Rattle.std.proofs.lemmas.Bool.{and_parts}
use Rattle.std.proofs.lemmas.Bool.Decides.{nat_tests}
use Rattle.journal_core.specs.Nodes.{PermittedNodes}
use Rattle.play_script.specs.declared.script_line.ScriptLine.{ScriptLine}
use Rattle.play_script.specs.Scripts.{ScriptView}
use Rattle.play_script.specs.Views.{SaidView, ReadingView}
use Rattle.play_script.specs.Lines.{Line, Ended, lines_of, is_plain, is_line, is_whole, Lacks, longest_line}
use Rattle.base_words.specs.Words.{words_of, first_word}
use Rattle.play_script.specs.Grammar.{belongs, kind_in, words_in, operands, line_text, first_line, texts_of, nothing_said, said_after, MaySay}
use Rattle.play_script.specs.Grammar.{AreLines, IsScript, script_lines, IsScriptText, is_silent, unless_silent, lines_that_say}
use Rattle.play_script.specs.Rules.{kind_of, rule_said, rule_of, said_in, said_first, said_next, said_with_line, or_later, fault_at_end, first_fault, fault_of}
use Rattle.play_script.specs.Reading.{Says, told_if, lines_read, all_said, AreSaidBy, IsSoundIf, IsSound, script_of, Adds, Takes, IsBehind, nothing_read, takes_memory, is_later, wants_memory}
use Rattle.play_script.proofs.LineLaws.{line_first, line_open, no_lines}
use Rattle.base_words.proofs.WordLaws.{text_is}
use Rattle.play_script.proofs.FirstLaws.{FirstTells, first_tells}
use Rattle.play_script.proofs.SenseLaws.{kind_of_words, named_after, nodes_after}

-- ## Lists of lines, one longer
pub texts_push : (said : SaidView) (lines : List ScriptLine) (line : ScriptLine) → texts_of said (lines ++ line ∷ []) ≡ texts_of said lines ++ line_text (all_said said lines) line ∷ []
unfolding texts_of all_said
texts_push said [] line = refl
texts_push said (l ∷ lines) line = ap (λ ts. line_text said l ∷ ts) (texts_push (said_after said l) lines line)

pub said_push : (said : SaidView) (lines : List ScriptLine) (line : ScriptLine) → all_said said (lines ++ line ∷ []) ≡ said_after (all_said said lines) line
unfolding all_said
said_push said [] line = refl
said_push said (l ∷ lines) line = said_push (said_after said l) lines line

pub lines_push : (said : SaidView) (lines : List ScriptLine) (line : ScriptLine) → AreLines said lines → MaySay (all_said said lines) line → AreLines said (lines ++ line ∷ [])
unfolding AreLines all_said
lines_push said [] line h m = (m, tt)
lines_push said (l ∷ lines) line h m = (h.0, lines_push (said_after said l) lines line h.1 m)

-- ## What a line says
-- what a line says is what its words say
pub said_is : (said : SaidView) (text : List ℕ) (line : ScriptLine) → belongs said.named (kind_in line) ≡ true → words_of text ≡ words_in said line
    → said_next (Some said) text ≡ Some (said_after said line)
said_is said text line h e =
    ap (λ ws. Some (said_in said (kind_of said.named (first_word ws)) (drop 1 ws))) e ∙ ap (λ k. Some (said_in said k (operands said.names line))) (kind_of_words said line h)

le_from : (m n : ℕ) → nat_le m n ≡ true → m ≤ n
le_from m n e = grind (arith, nat_tests)

pub line_fits : (text : List ℕ) → is_line text ≡ true → length text ≤ longest_line
unfolding is_line
line_fits text e = le_from (length text) longest_line (and_parts (list_all is_plain text) (nat_le (length text) longest_line) e).1

-- ## Any line
pub bad_line : (r : ReadingView) (text : List ℕ) → is_line text ≡ false → rule_of r.said text ≡ Some 10
unfolding rule_of
bad_line r text e = rw e refl

pub takes_silent : (r : ReadingView) (text : List ℕ) → IsSound r → is_line text ≡ true → is_silent text ≡ true → Takes r text r
unfolding rule_of said_with_line
takes_silent r text s w q =
    record {
      whole = w;
      rule = rw (w, q) refl;
      behind = rw q refl;
      told = rw q (sym (append-nil (lines_read r)));
      sound = s;
    }

-- ## The first line
first_rule : (text : List ℕ) (o : Option SaidView) → is_line text ≡ true → is_silent text ≡ false → said_first text ≡ o → rule_of None text ≡ cond (is_none o) (Some 1) None
unfolding rule_of rule_said
first_rule text o w q e = rw (w, q, e) refl

first_after : (text : List ℕ) (o : Option SaidView) → is_silent text ≡ false → said_first text ≡ o → said_with_line None text ≡ o
unfolding said_with_line
first_after text o q e = rw (q, e) refl

pub first_broken : (r : ReadingView) (text : List ℕ) → r.said ≡ None → is_line text ≡ true → is_silent text ≡ false → said_first text ≡ None → rule_of r.said text ≡ Some 1
first_broken r text n w q e = ap (λ o. rule_of o text) n ∙ first_rule text None w q e

said_nothing : (v : SaidView) (text : List ℕ) → FirstTells text v → AreSaidBy v []
unfolding all_said AreLines
said_nothing v text t = record { permitted = t.permitted; said = t.begins; lines = tt }

texts_nothing : (v : SaidView) → texts_of v [] ≡ []
unfolding texts_of
texts_nothing v = refl

begun : (said : Option SaidView) (lines : List ScriptLine) (text : List ℕ) (v : SaidView) → said ≡ None → IsSoundIf said lines → is_line text ≡ true → is_silent text ≡ false → said_first text ≡ Some v
    → Takes (record { said = said; lines = lines }) text (record { said = Some v; lines = lines })
begun (Some u) lines text v n s w q e = cc
begun None (l ∷ lines) text v n s w q e = absurd (cons_nil l lines s)
  where
    cons_nil : (l : ScriptLine) (lines : List ScriptLine) → l ∷ lines ≡ [] → ⊥
    cons_nil l lines e = cc
begun None [] text v n s w q e =
    let t = first_tells text v e in
    record {
      whole = w;
      rule = first_rule text (Some v) w q e;
      behind = sym (first_after text (Some v) q e);
      told = rw q (ap (λ ts. first_line v.named v.nodes ∷ ts) (texts_nothing (nothing_said v.named v.nodes)) ∙ ap (λ t. t ∷ []) (sym t.spelled));
      sound = said_nothing v text t;
    }

abbrev pub reading : Option SaidView → List ScriptLine → ReadingView
reading said lines = record { said = said; lines = lines }

pub first_taken : (r : ReadingView) (o : Option SaidView) (read : List ScriptLine) (v : SaidView) (text : List ℕ) → reading o read ≡ r → o ≡ None → IsSound r
    → is_line text ≡ true → is_silent text ≡ false → said_first text ≡ Some v → Takes r text (reading (Some v) read)
first_taken r o read v text is n s w q t =
    let P : ReadingView → Type 0 = λ x. Takes x text (reading (Some v) read) in
    subst P is (begun o read text v n (subst (λ (x : ReadingView). IsSound x) (sym is) s) w q t)

-- ## A later line
later_rule_of : (said : SaidView) (text : List ℕ) → is_line text ≡ true → is_silent text ≡ false → rule_of (Some said) text ≡ rule_said (Some said) text
unfolding rule_of
later_rule_of said text w q = rw (w, q) refl

later_after : (said : SaidView) (text : List ℕ) → is_silent text ≡ false → said_with_line (Some said) text ≡ said_next (Some said) text
unfolding said_with_line
later_after said text q = rw q refl

gone_on : (said : SaidView) (lines : List ScriptLine) (text : List ℕ) (line : ScriptLine) → AreSaidBy said lines → is_line text ≡ true → is_silent text ≡ false → Says said text line
    → Takes (record { said = Some said; lines = lines }) text (record { said = Some (said_after said line); lines = lines ++ line ∷ [] })
gone_on said lines text line s w q e =
    let same : text ≡ line_text said line = text_is text (words_in said line) e.words in
    let may : MaySay said line = record { here = e.here; sense = e.sense; fits = subst (λ (t : List ℕ). length t ≤ longest_line) same (line_fits text w) } in
    let first : SaidView = nothing_said said.named said.nodes in
    let named : (said_after said line).named ≡ said.named = named_after said line in
    let nodes : (said_after said line).nodes ≡ said.nodes = nodes_after said line in
    let begins : nothing_said (said_after said line).named (said_after said line).nodes ≡ nothing_said said.named said.nodes = (λ i. nothing_said (named i) (nodes i)) in
    let more : texts_of first (lines ++ line ∷ []) ≡ texts_of first lines ++ text ∷ [] =
    texts_push first lines line ∙ ap (λ (v : SaidView). texts_of first lines ++ line_text v line ∷ []) (sym s.said) ∙ ap (λ t. texts_of first lines ++ t ∷ []) (sym same) in
    record {
      whole = w;
      rule = later_rule_of said text w q ∙ e.rule;
      behind = sym (later_after said text q ∙ said_is said text line e.here e.words);
      told = rw q ((λ i. first_line (named i) (nodes i) ∷ texts_of (begins i) (lines ++ line ∷ [])) ∙ ap (λ ts. first_line said.named said.nodes ∷ ts) more);
      sound =
          record {
            permitted = subst (λ n. PermittedNodes n) (sym nodes) s.permitted;
            said = ap (λ v. said_after v line) s.said ∙ sym (said_push first lines line) ∙ ap (λ (v : SaidView). all_said v (lines ++ line ∷ [])) (sym begins);
            lines = subst (λ (v : SaidView). AreLines v (lines ++ line ∷ [])) (sym begins) (lines_push first lines line s.lines (subst (λ (v : SaidView). MaySay v line) s.said may));
          };
    }

added : (said now : SaidView) (read all : List ScriptLine) (text : List ℕ) → AreSaidBy said read → is_line text ≡ true → is_silent text ≡ false → Adds said read text now all
    → Takes (reading (Some said) read) text (reading (Some now) all)
added said now read all text s w q a =
    let P : SaidView → Type 0 = λ v. Takes (reading (Some said) read) text (reading (Some v) all) in
    let Q : List ScriptLine → Type 0 = λ ls. Takes (reading (Some said) read) text (reading (Some (said_after said a.line)) ls) in
    subst P (sym a.said) (subst Q (sym a.lines) (gone_on said read text a.line s w q a.says))

pub later_taken : {E : Type 0} (r : ReadingView) (o : Option SaidView) (read all : List ScriptLine) (said now : SaidView) (text : List ℕ)
    (res : Result (Option ℕ) E) → reading o read ≡ r → o ≡ Some said → IsSound r
    → is_line text ≡ true → is_silent text ≡ false → IfOk res (λ x. IfNone x (Adds said read text now all)) → IfOk res (λ x. IfNone x (Takes r text (reading (Some now) all)))
later_taken r o read all said now text (Ok None) is n s w q h =
    let P : ReadingView → Type 0 = λ x. Takes x text (reading (Some now) all) in
    let same : reading (Some said) read ≡ r = ap (λ v. reading v read) (sym n) ∙ is in
    subst P same (added said now read all text (subst (λ (x : ReadingView). IsSound x) (sym same) s) w q h)
later_taken r o read all said now text (Ok (Some rule)) is n s w q h = h
later_taken r o read all said now text (Err e) is n s w q h = h

pub later_broken : {E : Type 0} (r : ReadingView) (o : Option SaidView) (read : List ScriptLine) (said : SaidView) (text : List ℕ) (res : Result (Option ℕ) E) → reading o read ≡ r → o ≡ Some said
    → is_line text ≡ true → is_silent text ≡ false → IfOk res (λ x. IfSome x (λ rule. rule_said (Some said) text ≡ Some rule)) → IfOk res (λ x. IfSome x (λ rule. rule_of r.said text ≡ Some rule))
later_broken r o read said text (Ok None) is n w q h = h
later_broken r o read said text (Ok (Some rule)) is n w q h =
    let same : r.said ≡ Some said = ap (λ (x : ReadingView). x.said) (sym is) ∙ n in
    ap (λ v. rule_of v text) same ∙ later_rule_of said text w q ∙ h
later_broken r o read said text (Err e) is n w q h = h

pub later_takes : {E : Type 0} (r : ReadingView) (o : Option SaidView) (read : List ScriptLine) (said : SaidView) (text : List ℕ) (res : Result (Option ℕ) E) → reading o read ≡ r → o ≡ Some said
    → is_line text ≡ true → is_silent text ≡ false → OnErr res (takes_memory (rule_said (Some said) text) ≡ true) → OnErr res (takes_memory (rule_of r.said text) ≡ true)
later_takes r o read said text (Ok x) is n w q h = h
later_takes r o read said text (Err e) is n w q h =
    let same : r.said ≡ Some said = ap (λ (x : ReadingView). x.said) (sym is) ∙ n in
    ap (λ v. takes_memory (rule_of v text)) same ∙ ap takes_memory (later_rule_of said text w q) ∙ h

-- something was said
pub said_some : (r : ReadingView) (o : Option SaidView) (read : List ScriptLine) (said : SaidView) → reading o read ≡ r → o ≡ Some said → r.said ≡ None → ⊥
said_some r o read said is n e =
    let same : Some said ≡ None = sym n ∙ ap (λ (x : ReadingView). x.said) is ∙ e in
    cc

pub ruleset takes = (bad_line, takes_silent, first_broken)

-- ## All lines
pub behind_none : (bytes : List ℕ) (r : ReadingView) → IsSound r → r.said ≡ None → lines_read r ≡ [] → IsBehind bytes 0 r bytes
unfolding fault_of
behind_none bytes r s n t =
    record {
      sound = s;
      fault = ap (λ o. first_fault 1 o (lines_of bytes)) n;
      whole = refl;
      says = ap (λ ts. ts ++ lines_that_say (lines_of bytes)) t;
      wants = subst (λ (o : Option SaidView). wants_memory o (lines_of bytes) ≡ true → wants_memory None (lines_of bytes) ≡ true) (sym n) (λ h. h);
      room = omega arith;
    }

pub after_start : (bytes : List ℕ) → IsBehind bytes 0 nothing_read bytes
after_start bytes = behind_none bytes nothing_read refl refl refl

says_more : (before text : List (List ℕ)) (line : List ℕ) → (before ++ unless_silent line []) ++ text ≡ before ++ unless_silent line text
says_more before text line = by (is_silent line)
  where
    by : (b : Bool) → (before ++ cond b [] (line ∷ [])) ++ text ≡ before ++ cond b text (line ∷ text)
    by true = ap (λ ts. ts ++ text) (append-nil before)
    by false = append_assoc before (line ∷ []) text

-- a line that breaks no rule, and memory that is wanted after it
wants_more : (said : Option SaidView) (line : List ℕ) (lines : List Line) → rule_of said line ≡ None
    → wants_memory (said_with_line said line) lines ≡ true → wants_memory said (Ended line ∷ lines) ≡ true
unfolding wants_memory
wants_more said line lines e h = by (is_later said line) (rule_of said line) (wants_memory (said_with_line said line) lines) e h
  where
    by : (b : Bool) (rule : Option ℕ) (later : Bool) → rule ≡ None → later ≡ true → cond b (takes_memory rule) (is_none rule && later) ≡ true
    by true rule later e h = ap takes_memory e
    by false rule later e h = rw (e, h) refl

wants_here : (said : Option SaidView) (line : List ℕ) (lines : List Line) → (said ≡ None → ⊥) → is_silent line ≡ false
    → takes_memory (rule_of said line) ≡ true → wants_memory said (Ended line ∷ lines) ≡ true
unfolding wants_memory
wants_here None line lines n q t = absurd (n refl)
wants_here (Some said) line lines n q t = rw q t

-- a line for which memory is wanted
pub after_wants : (bytes : List ℕ) (count : ℕ) (r : ReadingView) (rest line others : List ℕ) → IsBehind bytes count r rest → rest ≡ line ++ 10 ∷ others → Lacks 10 line
    → (r.said ≡ None → ⊥) → (is_silent line ≡ true → ⊥) → takes_memory (rule_of r.said line) ≡ true → wants_memory None (lines_of bytes) ≡ true
after_wants bytes count r rest line others b e l some said t =
    b.wants (ap (wants_memory r.said) (line_first rest line others e l) ∙ wants_here r.said line (lines_of others) some (by (is_silent line) said) t)
  where
    by : (x : Bool) → (x ≡ true → ⊥) → x ≡ false
    by true h = absurd (h refl)
    by false h = refl

pub behind_more : (bytes : List ℕ) (count : ℕ) (r : ReadingView) (rest line others : List ℕ) (new : ReadingView) → IsBehind bytes count r rest → rest ≡ line ++ 10 ∷ others → Lacks 10 line
    → length others < length rest → Takes r line new → IsBehind bytes (count + 1) new others
unfolding first_fault
behind_more bytes count r rest line others new b e l n t =
    let at : lines_of rest ≡ Ended line ∷ lines_of others = line_first rest line others e l in
    let room : count + length rest ≤ length bytes = b.room in
    record {
      sound = t.sound;
      fault =
          ap (λ o. first_fault (count + 1 + 1) o (lines_of others)) t.behind
          ∙ sym (ap (λ o. or_later (count + 1) o (first_fault (count + 1 + 1) (said_with_line (r.said) line) (lines_of others))) t.rule)
          ∙ sym (ap (first_fault (count + 1) (r.said)) at) ∙ b.fault;
      whole = sym (ap (λ w. w && list_all is_whole (lines_of others)) t.whole) ∙ sym (ap (list_all is_whole) at) ∙ b.whole;
      says =
          ap (λ ts. ts ++ lines_that_say (lines_of others)) t.told ∙ says_more (lines_read r) (lines_that_say (lines_of others)) line
          ∙ sym (ap (λ ls. lines_read r ++ lines_that_say ls) at) ∙ b.says;
      wants =
          λ h. b.wants (ap (wants_memory r.said) at ∙ wants_more r.said line (lines_of others) t.rule (ap (λ o. wants_memory o (lines_of others)) (sym t.behind) ∙ h));
      room = omega arith;
    }

pub behind_open : (bytes : List ℕ) (count : ℕ) (r : ReadingView) (rest : List ℕ) → IsBehind bytes count r rest → Lacks 10 rest → 0 < length rest → fault_of bytes ≡ Some (count + 1, 10)
unfolding first_fault
behind_open bytes count r rest b l n = sym b.fault ∙ ap (first_fault (count + 1) (r.said)) (line_open rest l n)

pub after_broken : (bytes : List ℕ) (count : ℕ) (r : ReadingView) (rest line others : List ℕ) (rule : ℕ) → IsBehind bytes count r rest → rest ≡ line ++ 10 ∷ others → Lacks 10 line
    → rule_of (r.said) line ≡ Some rule → fault_of bytes ≡ Some (count + 1, rule)
unfolding first_fault
after_broken bytes count r rest line others rule b e l f =
    sym b.fault ∙ ap (first_fault (count + 1) (r.said)) (line_first rest line others e l)
    ∙ ap (λ o. or_later (count + 1) o (first_fault (count + 1 + 1) (said_with_line (r.said) line) (lines_of others))) f

pub after_nothing : (bytes : List ℕ) (count : ℕ) (r : ReadingView) (rest : List ℕ) → IsBehind bytes count r rest → rest ≡ [] → None ≡ script_of r.said r.lines → fault_of bytes ≡ Some (1, 1)
unfolding first_fault
after_nothing bytes count r rest b e n =
    sym b.fault ∙ ap (first_fault (count + 1) r.said) (no_lines rest e) ∙ ap fault_at_end (no_script r.said r.lines n)
  where
    no_script : (said : Option SaidView) (lines : List ScriptLine) → None ≡ script_of said lines → said ≡ None
    no_script None lines e = refl
    no_script (Some v) lines e = cc

all_told : (said : Option SaidView) (lines : List ScriptLine) (s : ScriptView) → Some s ≡ script_of said lines → IsSoundIf said lines → (told_if said lines ≡ script_lines s) × IsScript s
all_told None lines s e h = cc
all_told (Some v) lines s e h =
    let t : ScriptView = record { named = v.named; nodes = v.nodes; lines = lines } in
    let same : t ≡ s = cc in
    subst (λ (x : ScriptView). (told_if (Some v) lines ≡ script_lines x) × IsScript x) same (refl, record { permitted = h.permitted; lines = h.lines })

pub after_all : (bytes : List ℕ) (count : ℕ) (r : ReadingView) (rest : List ℕ) (s : ScriptView) → IsBehind bytes count r rest → rest ≡ [] → Some s ≡ script_of r.said r.lines → IsScriptText bytes s
after_all bytes count r rest s b e n =
    let none : lines_of rest ≡ [] = no_lines rest e in
    let all = all_told r.said r.lines s n b.sound in
    record {
      whole = sym b.whole ∙ ap (list_all is_whole) none;
      says = sym b.says ∙ ap (λ ls. lines_read r ++ lines_that_say ls) none ∙ append-nil (lines_read r) ∙ all.0;
      script = all.1;
    }
