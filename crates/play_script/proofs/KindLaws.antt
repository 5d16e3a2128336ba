-- Lines by their kinds: the first tests.
use Rattle.std.proofs.Common.{ℕ, ◌≡◌, ◌≤◌, ◌+◌, List, [], ◌∷◌, ◌++◌, length, drop, Some, None, Bool, true, false, not, ◌==◌, ◌||◌, refl, sym, ap, arith, ◌∙◌, nat_le, cond, subst}
use Rattle.std.specs.Prelude.{Result, Ok, Err, IfOk}
use Rattle.std.specs.List.{list_any, find, AllByRecursion}
use Rattle.std.specs.Str.{bytes_eq}
use Rattle.std.proofs.lemmas.Slice.Eq.{bytes_eq-Decides}
use Rattle.std.proofs.lemmas.Bool.{false≢true, or_parts}
use Rattle.std.proofs.lemmas.Bool.Decides.{nat_tests}
use Rattle.play_script.specs.declared.task_word.TaskWord.TheVariants as task
use Rattle.play_script.specs.declared.standby_word.StandbyWord.TheVariants as standby
use Rattle.play_script.specs.declared.call_word.CallWord.TheVariants as call
use Rattle.play_script.specs.declared.node_word.NodeWord.TheVariants as node
use Rattle.play_script.specs.declared.kind.Kind.{Kind}
use Rattle.play_script.specs.declared.kind.Kind.TheVariants as kind
use Rattle.play_script.specs.declared.line_read.LineRead.{LineRead}
use Rattle.play_script.specs.declared.line_read.LineRead.TheVariants as line_read
use Rattle.play_script.specs.Views.{SaidView}
use Rattle.base_words.specs.Words.{words_of, is_empty, first_word}
use Rattle.play_script.specs.Grammar.{keyword, belongs, kind_in}
use Rattle.play_script.specs.Rules.{shared_kinds, own_kinds, kind_of, has_length, bad_spacing, later_rule, rule_in, rule_said}
use Rattle.play_script.specs.Reading.{IsRead, IsLineRead}
use Rattle.base_words.proofs.WordLaws.{one_word, first_first}

-- ## First words
pub kind_is : (named : Bool) (k : Kind) → belongs named k ≡ true → kind_of named (keyword named k) ≡ Some k
unfolding kind_of
kind_is true kind.Declare h = refl
kind_is false kind.Declare h = refl
kind_is true (kind.Task task.Takeover) h = refl
kind_is false (kind.Task task.Takeover) h = refl
kind_is true (kind.Task task.Roll) h = refl
kind_is false (kind.Task task.Roll) h = refl
kind_is true (kind.Task task.Close) h = refl
kind_is false (kind.Task task.Close) h = refl
kind_is true kind.Log h = absurd (false≢true h)
kind_is false kind.Log h = refl
kind_is true kind.Edits h = refl
kind_is false kind.Edits h = absurd (false≢true h)
kind_is true kind.Purge h = absurd (false≢true h)
kind_is false kind.Purge h = refl
kind_is true kind.Trim h = refl
kind_is false kind.Trim h = absurd (false≢true h)
kind_is true (kind.Standby standby.Tail) h = refl
kind_is false (kind.Standby standby.Tail) h = absurd (false≢true h)
kind_is true (kind.Standby standby.Checkpoint) h = refl
kind_is false (kind.Standby standby.Checkpoint) h = absurd (false≢true h)
kind_is true (kind.Standby standby.Reload) h = refl
kind_is false (kind.Standby standby.Reload) h = absurd (false≢true h)
kind_is true (kind.Call call.Drop) h = refl
kind_is false (kind.Call call.Drop) h = refl
kind_is true (kind.Call call.Mute) h = refl
kind_is false (kind.Call call.Mute) h = refl
kind_is true (kind.Call call.Late) h = refl
kind_is false (kind.Call call.Late) h = refl
kind_is true (kind.Node node.Kill) h = refl
kind_is false (kind.Node node.Kill) h = refl
kind_is true (kind.Node node.Restart) h = refl
kind_is false (kind.Node node.Restart) h = refl
kind_is true kind.Stop h = refl
kind_is false kind.Stop h = refl
kind_is true kind.Cut h = refl
kind_is false kind.Cut h = refl

-- the word is the kind's, which stands in such a script
abbrev IsFirst : Bool → List ℕ → Kind → Type 0
IsFirst named word k = (bytes_eq word (keyword named k) ≡ true) × (belongs named k ≡ true)

all_belong : (named : Bool) → AllByRecursion (λ (k : Kind). belongs named k ≡ true) (shared_kinds ++ own_kinds named)
all_belong true = (refl, (refl, (refl, (refl, (refl, (refl, (refl, (refl, (refl, (refl, (refl, (refl, (refl, (refl, (refl, (refl, tt))))))))))))))))
all_belong false = (refl, (refl, (refl, (refl, (refl, (refl, (refl, (refl, (refl, (refl, (refl, (refl, (refl, tt)))))))))))))

find_here : (named : Bool) (word : List ℕ) (x : Kind) (xs : List Kind) (k : Kind) (b : Bool) → bytes_eq word (keyword named x) ≡ b → belongs named x ≡ true
    → (find (λ j. bytes_eq word (keyword named j)) xs ≡ Some k → IsFirst named word k) → cond b (Some x) (find (λ j. bytes_eq word (keyword named j)) xs) ≡ Some k → IsFirst named word k
find_here named word x xs k true h m rest e = let same : x ≡ k = cc in subst (IsFirst named word) same (h, m)
find_here named word x xs k false h m rest e = rest e

found : (named : Bool) (word : List ℕ) (ks : List Kind) (k : Kind) → AllByRecursion (λ (j : Kind). belongs named j ≡ true) ks
    → find (λ j. bytes_eq word (keyword named j)) ks ≡ Some k → IsFirst named word k
found named word [] k m e = cc
found named word (x ∷ xs) k m e = find_here named word x xs k (bytes_eq word (keyword named x)) refl m.0 (found named word xs k m.1) e

pub keyword_is : (named : Bool) (word : List ℕ) (k : Kind) → kind_of named word ≡ Some k → (word ≡ keyword named k) × (belongs named k ≡ true)
unfolding kind_of
keyword_is named word k e =
    let f = found named word (shared_kinds ++ own_kinds named) k (all_belong named) e in
    ((bytes_eq-Decides word (keyword named k)).0 f.0, f.1)

-- ## The number of words
or_true : (b : Bool) → (b || true) ≡ true
or_true true = refl
or_true false = refl

pub not_false : (a : Bool) → not a ≡ false → a ≡ true
not_false true e = refl
not_false false e = absurd (false≢true (sym e))

-- the first of several words that aren't empty
pub first_is : (k : Kind) (words : List (List ℕ)) (w : List ℕ) (ws : List (List ℕ)) → bad_spacing k words ≡ false → words ≡ w ∷ ws → words ≡ first_word words ∷ ws
first_is k words w ws e s =
    let f : bad_spacing k (w ∷ ws) ≡ false = ap (bad_spacing k) (sym s) ∙ e in
    let n : is_empty w ≡ false = (or_parts (is_empty w) (list_any is_empty ws) (or_parts (list_any is_empty (w ∷ ws)) (not (has_length k (length (w ∷ ws)))) f).0).0 in
    s ∙ ap (λ v. v ∷ ws) (sym (first_first w ws n) ∙ ap first_word (sym s))

few : (k : Kind) → has_length k 1 ≡ false
few kind.Declare = refl
few (kind.Task t) = refl
few kind.Log = refl
few kind.Edits = refl
few kind.Purge = refl
few kind.Trim = refl
few (kind.Standby w) = refl
few (kind.Call c) = refl
few (kind.Node n) = refl
few kind.Stop = refl
few kind.Cut = refl

-- one word alone is too few
pub too_few : (k : Kind) (words : List (List ℕ)) (w : List ℕ) → words ≡ w ∷ [] → bad_spacing k words ≡ true
too_few k words w s = ap (bad_spacing k) s ∙ ap (λ b. list_any is_empty (w ∷ []) || not b) (few k) ∙ or_true (list_any is_empty (w ∷ []))

pub ruleset spacings = (first_is, too_few)

pub count_after : (k : Kind) (words : List (List ℕ)) (w : List ℕ) (ws : List (List ℕ)) → bad_spacing k words ≡ false → words ≡ w ∷ ws → has_length k (length ws + 1) ≡ true
count_after k words w ws e s =
    let n : length words ≡ length ws + 1 = ap length s ∙ omega arith in
    ap (has_length k) (sym n) ∙ not_false (has_length k (length words)) (or_parts (list_any is_empty words) (not (has_length k (length words))) e).1

pub after_one : (n : ℕ) → ((n + 1) == 2) ≡ true → n ≡ 1
after_one n e = grind (arith, nat_tests)

pub behind_two : (n : ℕ) → ((n + 1) == 3) ≡ true → n ≡ 2
behind_two n e = grind (arith, nat_tests)

pub after_three : (n : ℕ) → ((n + 1) == 4) ≡ true → n ≡ 3
after_three n e = grind (arith, nat_tests)

pub after_four : (n : ℕ) → ((n + 1) == 5) ≡ true → n ≡ 4
after_four n e = grind (arith, nat_tests)

pub after_some : (n : ℕ) → nat_le 3 (n + 1) ≡ true → 2 ≤ n
after_some n e = grind (arith, nat_tests)

pub one_operand : (text : List ℕ) → ((length (words_of text) + 1) == 2) ≡ true → words_of text ≡ text ∷ []
one_operand text e = one_word text (after_one (length (words_of text)) e)

pub no_bodies : (text : List ℕ) → nat_le 3 (length (words_of text) + 1) ≡ true → words_of text ≡ text ∷ [] → ⊥
no_bodies text e s =
    let n : 2 ≤ length (words_of text) = after_some (length (words_of text)) e in
    let m : length (words_of text) ≡ 1 = ap length s in
    omega arith

pub ruleset arities = (behind_two, after_three, after_four, one_operand)

-- ## The first tests
pub no_kind : (said : SaidView) (text : List ℕ) → kind_of said.named (first_word (words_of text)) ≡ None → rule_said (Some said) text ≡ Some 2
unfolding rule_said rule_in
no_kind said text e = rw e refl

pub ill_spaced : (said : SaidView) (text : List ℕ) (k : Kind) → kind_of said.named (first_word (words_of text)) ≡ Some k → bad_spacing k (words_of text) ≡ true → rule_said (Some said) text ≡ Some 3
unfolding rule_said rule_in
ill_spaced said text k e b = rw e (rw b refl)

pub ruleset first_tests = (no_kind, ill_spaced)

-- ## The later rules
pub rule_later : (said : SaidView) (text : List ℕ) (k : Kind) (words : List (List ℕ)) → kind_of said.named (first_word (words_of text)) ≡ Some k → bad_spacing k (words_of text) ≡ false
    → words_of text ≡ first_word (words_of text) ∷ words → rule_said (Some said) text ≡ later_rule said k words
unfolding rule_said rule_in
rule_later said text k words e b s = ap (λ o. rule_in said o (words_of text)) e ∙ rw b (ap (λ ws. later_rule said k (drop 1 ws)) s)

pub line_read_as : (said : SaidView) (text : List ℕ) (k : Kind) (words : List (List ℕ)) (r : LineRead)
    → kind_of said.named (first_word (words_of text)) ≡ Some k → bad_spacing k (words_of text) ≡ false
    → words_of text ≡ first_word (words_of text) ∷ words → IsRead said k words r → IsLineRead said text r
line_read_as said text k words (line_read.Broken rule) e b s h = rule_later said text k words e b s ∙ h
line_read_as said text k words (line_read.Says line) e b s h =
    record {
      rule = rule_later said text k words e b s ∙ h.0;
      words =
          s ∙ ap (λ w. w ∷ words) ((keyword_is said.named (first_word (words_of text)) k e).0 ∙ ap (keyword said.named) (sym h.1))
          ∙ ap (λ ws. keyword said.named (kind_in line) ∷ ws) (sym h.2);
      here = ap (belongs said.named) h.1 ∙ (keyword_is said.named (first_word (words_of text)) k e).1;
      sense = h.3;
    }

pub line_reads : {E : Type 0} (said : SaidView) (text : List ℕ) (k : Kind) (words : List (List ℕ)) (r : Result LineRead E)
    → kind_of said.named (first_word (words_of text)) ≡ Some k → bad_spacing k (words_of text) ≡ false
    → words_of text ≡ first_word (words_of text) ∷ words → IfOk r (IsRead said k words) → IfOk r (IsLineRead said text)
line_reads said text k words (Ok x) e b s h = line_read_as said text k words x e b s h
line_reads said text k words (Err x) e b s h = h

pub read_with : (said : SaidView) (j k : Kind) (us ws : List (List ℕ)) (r : LineRead) → j ≡ k → us ≡ ws → IsRead said k ws r → IsRead said j us r
read_with said j k us ws r e f h = subst (λ (i : Kind). IsRead said i us r) (sym e) (subst (λ (vs : List (List ℕ)). IsRead said k vs r) (sym f) h)
