-- Where a script without names begins.
use Rattle.std.proofs.Common.{◌≡◌, ◌≤◌, ℕ, ◌+◌, ◌<◌, List, [], ◌∷◌, ◌++◌, Bool, true, false, ◌&&◌, Option, Some, None, if◌then◌else◌, refl, sym, ap, ◌∙◌, arith}
use Rattle.std.specs.Prelude.{is_some}
use Rattle.std.specs.List.{list_all}
use Rattle.journal_core.specs.Nodes.{most_nodes}
use Rattle.play_script.specs.Scripts.{ScriptView}
use Rattle.play_script.specs.Views.{SaidView}
use Rattle.play_script.specs.Grammar.{IsScript, IsScriptText, is_silent, first_line, nothing_said, script_lines, lines_that_say}
use Rattle.play_script.specs.Lines.{Line, Ended, Open, lines_of, is_line, is_whole, Lacks}
use Rattle.play_script.specs.Rules.{nodes_of, said_first_of, fault_of}
use Rattle.play_script.specs.Laws.{ScriptBreaksNoRule}
use Rattle.play_script.specs.Naming.{raw_from, fault_or, names_fault_of, OthersHaveNames}
use Rattle.play_script.proofs.LineLaws.{line_first, line_open, no_lines}
use Rattle.play_script.proofs.ScriptLaws.{told_all}

-- ## Line by line
module _ (number : ℕ) (rest line others : List ℕ) (e : rest ≡ line ++ 10 ∷ others) (l : Lacks 10 line) where
  here : raw_from number (lines_of rest) ≡ raw_from number (Ended line ∷ lines_of others)
  here = ap (raw_from number) (line_first rest line others e l)

  pub raw_bad : is_line line ≡ false → raw_from number (lines_of rest) ≡ None
  unfolding raw_from
  raw_bad bad = here ∙ rw bad refl

  pub raw_silent : is_line line ≡ true → is_silent line ≡ true → raw_from number (lines_of rest) ≡ raw_from (number + 1) (lines_of others)
  unfolding raw_from
  raw_silent good silent = here ∙ rw (good, silent) refl

  pub raw_here : is_line line ≡ true → is_silent line ≡ false → raw_from number (lines_of rest) ≡ (if is_some (nodes_of false line) then Some number else None)
  unfolding raw_from
  raw_here good loud = here ∙ rw (good, loud) refl

  pub raw_told_here : (told : Option ℕ) (nodes : ℕ) → is_line line ≡ true → is_silent line ≡ false → told ≡ nodes_of false line → told ≡ Some nodes → raw_from number (lines_of rest) ≡ Some number
  raw_told_here told nodes good loud is some = raw_here good loud ∙ ap (λ (o : Option ℕ). if is_some o then Some number else None) (sym is ∙ some)

  pub raw_untold_here : (told : Option ℕ) → is_line line ≡ true → is_silent line ≡ false → told ≡ nodes_of false line → told ≡ None → raw_from number (lines_of rest) ≡ None
  raw_untold_here told good loud is none = raw_here good loud ∙ ap (λ (o : Option ℕ). if is_some o then Some number else None) (sym is ∙ none)

-- after the last line feed
pub raw_none : (number : ℕ) (rest : List ℕ) → Lacks 10 rest → raw_from number (lines_of rest) ≡ None
unfolding raw_from
raw_none number [] l = ap (raw_from number) (no_lines [] refl)
raw_none number (b ∷ bs) l = ap (raw_from number) (line_open (b ∷ bs) l (omega arith))

pub ruleset raw_lines = (raw_bad, raw_silent, raw_told_here, raw_untold_here, raw_none)

-- ## Scripts
named_in : Option SaidView → Bool
named_in None = true
named_in (Some v) = v.named

raw_told : (n : ℕ) → 0 < n → n ≤ most_nodes → is_some (nodes_of false (first_line false n)) ≡ true
unfolding named_in
raw_told n some most = by (nodes_of false (first_line false n)) (nodes_of true (first_line false n)) (told_all false n some most)
  where
    by : (o p : Option ℕ) → said_first_of false o (said_first_of true p None) ≡ Some (nothing_said false n) → is_some o ≡ true
    by (Some k) p e = refl
    by None None e = absurd (cc e)
    by None (Some k) e = let wrong : true ≡ false = ap named_in e in absurd (cc wrong)

named_lines : (lines : List Line) (number : ℕ) (s : ScriptView) → list_all is_whole lines ≡ true → lines_that_say lines ≡ script_lines s → IsScript s → raw_from number lines ≡ None → s.named ≡ true
unfolding raw_from
named_lines [] number s whole says is none = absurd (cc says)
named_lines (Open line ∷ lines) number s whole says is none = absurd (cc whole)
named_lines (Ended line ∷ lines) number s whole says is none = by (λ a b d. named_lines lines (number + 1) s a b is d) (is_line line) refl (is_silent line) refl
  where
    rest : (a b : Bool) → (a && b) ≡ true → (a ≡ true) × (b ≡ true)
    rest true b e = (refl, e)
    rest false b e = absurd (cc e)

    loud : (named : Bool) → s.named ≡ named → is_line line ≡ true → is_silent line ≡ false → s.named ≡ true
    loud true e good told = e
    loud false e good told =
        let says_it : line ∷ lines_that_say lines ≡ script_lines s = sym (ap (λ (b : Bool). if b then lines_that_say lines else line ∷ lines_that_say lines) told) ∙ says in
        let first : line ≡ first_line s.named s.nodes = cc says_it in
        let raw : is_some (nodes_of false line) ≡ true =
        ap (λ (l : List ℕ). is_some (nodes_of false l)) (first ∙ ap (λ (b : Bool). first_line b s.nodes) e) ∙ raw_told s.nodes is.permitted.0 is.permitted.1 in
        let found : raw_from number (Ended line ∷ lines) ≡ Some number = rw (good, told, raw) refl in
        let wrong : None ≡ Some number = sym none ∙ found in
        absurd (cc wrong)

    by : (list_all is_whole lines ≡ true → lines_that_say lines ≡ script_lines s → raw_from (number + 1) lines ≡ None → s.named ≡ true)
        → (good : Bool) → is_line line ≡ good → (silent : Bool) → is_silent line ≡ silent → s.named ≡ true
    by later false g silent q = let e : is_line line ≡ true = (rest (is_line line) (list_all is_whole lines) whole).0 in absurd (cc (e, g))
    by later true g true q =
        let same : raw_from number (Ended line ∷ lines) ≡ raw_from (number + 1) lines = rw (g, q) refl in
        later (rest (is_line line) (list_all is_whole lines) whole).1
        (sym (ap (λ (b : Bool). if b then lines_that_say lines else line ∷ lines_that_say lines) q) ∙ says) (sym same ∙ none)
    by later true g false q = loud s.named refl g q

pub others_have_names : OthersHaveNames
others_have_names bytes s is none = named_lines (lines_of bytes) 1 s is.whole is.says is.script none

-- ## A script with names breaks no rule of such scripts
raw_never : (n : ℕ) → 0 < n → n ≤ most_nodes → is_some (nodes_of false (first_line true n)) ≡ false
unfolding named_in
raw_never n some most = by (nodes_of false (first_line true n)) (nodes_of true (first_line true n)) (told_all true n some most)
  where
    by : (o p : Option ℕ) → said_first_of false o (said_first_of true p None) ≡ Some (nothing_said true n) → is_some o ≡ false
    by None p e = refl
    by (Some k) p e = let wrong : false ≡ true = ap named_in e in absurd (cc wrong)

raw_in : (lines : List Line) (number : ℕ) (s : ScriptView) → lines_that_say lines ≡ script_lines s → IsScript s → s.named ≡ true → raw_from number lines ≡ None
unfolding raw_from
raw_in [] number s says is named = refl
raw_in (Open line ∷ lines) number s says is named = refl
raw_in (Ended line ∷ lines) number s says is named = by (λ e. raw_in lines (number + 1) s e is named) (is_line line) refl (is_silent line) refl
  where
    by : (lines_that_say lines ≡ script_lines s → raw_from (number + 1) lines ≡ None) → (good : Bool) → is_line line ≡ good → (silent : Bool) → is_silent line ≡ silent
        → raw_from number (Ended line ∷ lines) ≡ None
    by later false g silent q = rw g refl
    by later true g true q = rw (g, q) (later (sym (ap (λ (b : Bool). if b then lines_that_say lines else line ∷ lines_that_say lines) q) ∙ says))
    by later true g false q =
        let says_it : line ∷ lines_that_say lines ≡ script_lines s = sym (ap (λ (b : Bool). if b then lines_that_say lines else line ∷ lines_that_say lines) q) ∙ says in
        let first : line ≡ first_line s.named s.nodes = cc says_it in
        let never : is_some (nodes_of false line) ≡ false =
        ap (λ (l : List ℕ). is_some (nodes_of false l)) (first ∙ ap (λ (b : Bool). first_line b s.nodes) named) ∙ raw_never s.nodes is.permitted.0 is.permitted.1 in
        rw (g, q, never) refl

pub names_break_no_rule : (bytes : List ℕ) (s : ScriptView) → ScriptBreaksNoRule → IsScriptText bytes s → s.named ≡ true → names_fault_of bytes ≡ None
names_break_no_rule bytes s law is named = ap (λ (o : Option ℕ). fault_or o (fault_of bytes)) (raw_in (lines_of bytes) 1 s is.says is.script named) ∙ law bytes s is
