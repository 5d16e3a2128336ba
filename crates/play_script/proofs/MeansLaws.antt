-- A line that breaks no rule says something.
use Rattle.std.proofs.Common.{ℕ, ◌≡◌, ◌≢◌, ◌<◌, ◌≤◌, ◌+◌, List, [], ◌∷◌, length, Option, Some, None, Bool, true, false, not, ◌&&◌, inl, inr, refl}
use Rattle.std.proofs.Common.{sym, ap, arith, ◌∙◌, nat_le, cond, map, subst, decimal}
use Rattle.std.specs.Prelude.{is_some, is_none}
use Rattle.std.specs.List.{list_all, AllByRecursion}
use Rattle.std.specs.Str.Parse.{digits_value}
use Rattle.std.proofs.lemmas.Bool.{false≢true, and_parts}
use Rattle.std.proofs.lemmas.Bool.Decides.{leb_tells}
use Rattle.base_words.specs.Hex.{hex_text}
use Rattle.journal_core.specs.declared.cut.Cut.{Cut}
use Rattle.journal_history.specs.declared.stop.Stop.TheVariants as stop
use Rattle.play_script.specs.declared.task_word.TaskWord.{TaskWord}
use Rattle.play_script.specs.declared.task_word.TaskWord.TheVariants as task
use Rattle.play_script.specs.declared.standby_word.StandbyWord.{StandbyWord}
use Rattle.play_script.specs.declared.standby_word.StandbyWord.TheVariants as standby
use Rattle.play_script.specs.declared.call_word.CallWord.{CallWord}
use Rattle.play_script.specs.declared.call_word.CallWord.TheVariants as call
use Rattle.play_script.specs.declared.node_word.NodeWord.{NodeWord}
use Rattle.play_script.specs.declared.node_word.NodeWord.TheVariants as node
use Rattle.play_script.specs.declared.kind.Kind.{Kind}
use Rattle.play_script.specs.declared.kind.Kind.TheVariants as kind
use Rattle.play_script.specs.declared.script_line.ScriptLine.{ScriptLine}
use Rattle.play_script.specs.declared.script_line.ScriptLine.TheVariants as line
use Rattle.play_script.specs.declared.line_read.LineRead.TheVariants as line_read
use Rattle.play_script.specs.Views.{SaidView}
use Rattle.edit_ops.specs.Records.{EditView}
use Rattle.edit_codec.specs.EditTexts.{text_of}
use Rattle.play_script.specs.Lines.{Lacks}
use Rattle.play_script.specs.Edits.{texts_between, are_edits, edits_text}
use Rattle.base_words.specs.Words.{words_of}
use Rattle.base_words.specs.WordNumbers.{is_number, Tells}
use Rattle.play_script.specs.Words.{is_name, actor_of, choice_word, choice_of, is_body, greatest}
use Rattle.play_script.specs.Grammar.{most_actors}
use Rattle.play_script.specs.Rules.{has_length, later_rule}
use Rattle.play_script.specs.Reading.{IsRead, Names, HasText}
use Rattle.journal_text.specs.Reading.{bodies_in}
use Rattle.journal_text.proofs.BodyLaws.{bodies_found}
use Rattle.play_script.proofs.BodyLaws.{bodies_of, bodies_test}
use Rattle.play_script.proofs.EditLaws.{edits_told, said_by_texts}
use Rattle.base_words.proofs.NumberLaws.{told_number}
use Rattle.play_script.proofs.NumberLaws.{chosen}
use Rattle.play_script.proofs.NameLaws.{named}
use Rattle.play_script.proofs.KindLaws.{not_false, after_one, behind_two, after_three, after_four, after_some}

-- ## Lists of so many words
one_of : (ws : List (List ℕ)) → length ws ≡ 1 → (a : List ℕ) × (ws ≡ a ∷ [])
one_of [] n = absurd (omega arith)
one_of (a ∷ []) n = (a, refl)
one_of (a ∷ b ∷ ws) n = absurd (omega arith)

two_of : (ws : List (List ℕ)) → length ws ≡ 2 → (a b : List ℕ) × (ws ≡ a ∷ b ∷ [])
two_of [] n = absurd (omega arith)
two_of (a ∷ ws) n = let rest = one_of ws (omega arith) in (a, rest.0, ap (λ xs. a ∷ xs) rest.1)

three_of : (ws : List (List ℕ)) → length ws ≡ 3 → (a b c : List ℕ) × (ws ≡ a ∷ b ∷ c ∷ [])
three_of [] n = absurd (omega arith)
three_of (a ∷ ws) n = let rest = two_of ws (omega arith) in (a, rest.0, rest.1, ap (λ xs. a ∷ xs) rest.2)

four_of : (ws : List (List ℕ)) → length ws ≡ 4 → (a b c d : List ℕ) × (ws ≡ a ∷ b ∷ c ∷ d ∷ [])
four_of [] n = absurd (omega arith)
four_of (a ∷ ws) n = let rest = three_of ws (omega arith) in (a, rest.0, rest.1, rest.2, ap (λ xs. a ∷ xs) rest.3)

more_of : (ws : List (List ℕ)) → 2 ≤ length ws → (a : List ℕ) × (rest : List (List ℕ)) × (rest ≢ []) × (ws ≡ a ∷ rest)
more_of [] n = absurd (omega arith)
more_of (a ∷ []) n = absurd (omega arith)
more_of (a ∷ b ∷ ws) n = (a, b ∷ ws, cons_some b ws, refl)
  where
    cons_some : (b : List ℕ) (ws : List (List ℕ)) → b ∷ ws ≢ []
    cons_some b ws e = cc

-- ## Tests that failed to break a rule
unless : (b : Bool) (rule : ℕ) (later : Option ℕ) → cond b (Some rule) later ≡ None → (b ≡ false) × (later ≡ None)
unless true rule later e = cc
unless false rule later e = (refl, e)

none_is : (o : Option ℕ) → is_some o ≡ false → o ≡ None
none_is None e = refl
none_is (Some x) e = absurd (false≢true (sym e))

some_is : (o : Option ℕ) → is_none o ≡ false → (x : ℕ) × (o ≡ Some x)
some_is None e = absurd (false≢true (sym e))
some_is (Some x) e = (x, refl)

below_is : (m n : ℕ) → nat_le m n ≡ false → n < m
below_is m n e = elim (leb_tells m n) [ inl p ↦ absurd (false≢true (sym e ∙ p.0)) | inr p ↦ p.1 ]

actor_is : (names : List (List ℕ)) (name : List ℕ) → is_none (actor_of names name) ≡ false → (actor : ℕ) × Names names name actor
actor_is names name e = let found = some_is (actor_of names name) e in (found.0, named names name found.0 found.1)

-- ## Kind by kind
-- a line of that kind with these words after the first
abbrev Meaning : SaidView → Kind → List (List ℕ) → Type 0
Meaning said k words = (l : ScriptLine) × IsRead said k words (line_read.Says l)

means_declaration : (said : SaidView) (name : List ℕ) → later_rule said kind.Declare (name ∷ []) ≡ None → Meaning said kind.Declare (name ∷ [])
means_declaration said name e =
    let a = unless (not (is_name name)) 4 _ e in
    let b = unless (nat_le most_actors (length said.names)) 11 _ a.1 in
    let c = unless (is_some (actor_of said.names name)) 6 _ b.1 in
    (line.Declare name, (e, refl, refl, (not_false (is_name name) a.0, below_is most_actors (length said.names) b.0, none_is (actor_of said.names name) c.0)))

means_task : (said : SaidView) (t : TaskWord) (name : List ℕ) (actor : ℕ) → Names said.names name actor → later_rule said (kind.Task t) (name ∷ []) ≡ None → Meaning said (kind.Task t) (name ∷ [])
means_task said task.Takeover name actor n e = (line.Takeover actor, (e, refl, ap (λ w. w ∷ []) n.1, n.2))
means_task said task.Roll name actor n e = (line.Roll actor, (e, refl, ap (λ w. w ∷ []) n.1, n.2))
means_task said task.Close name actor n e = (line.Close actor, (e, refl, ap (λ w. w ∷ []) n.1, n.2))

means_log : (said : SaidView) (name : List ℕ) (bodies : List (List ℕ)) → bodies ≢ [] → later_rule said kind.Log (name ∷ bodies) ≡ None → Meaning said kind.Log (name ∷ bodies)
means_log said name bodies some e =
    let a = unless (is_none (actor_of said.names name)) 5 _ e in
    let b = unless (not (list_all is_body bodies)) 8 _ a.1 in
    let n = actor_is said.names name a.0 in
    let list = bodies_of bodies (not_false (list_all is_body bodies) b.0) in
    (line.Log n.0 list.0, (e, refl, ap (λ w. w ∷ map hex_text list.0) n.1.1 ∙ ap (λ ws. name ∷ ws) list.1, (n.1.2, (λ none. some (sym list.1 ∙ ap (map hex_text) none)), list.2)))

means_standby : (said : SaidView) (w : StandbyWord) (name : List ℕ) (actor : ℕ) → Names said.names name actor
    → later_rule said (kind.Standby w) (name ∷ []) ≡ None → Meaning said (kind.Standby w) (name ∷ [])
means_standby said standby.Tail name actor n e = (line.Tail actor, (e, refl, ap (λ w. w ∷ []) n.1, n.2))
means_standby said standby.Checkpoint name actor n e = (line.Checkpoint actor, (e, refl, ap (λ w. w ∷ []) n.1, n.2))
means_standby said standby.Reload name actor n e = (line.Reload actor, (e, refl, ap (λ w. w ∷ []) n.1, n.2))

means_edits : (said : SaidView) (name : List ℕ) (words : List (List ℕ)) → AllByRecursion (Lacks 32) words → later_rule said kind.Edits (name ∷ words) ≡ None → Meaning said kind.Edits (name ∷ words)
means_edits said name words l e =
    let a = unless (is_none (actor_of said.names name)) 5 _ e in
    let b = unless (not (are_edits words)) 9 _ a.1 in
    let n = actor_is said.names name a.0 in
    let list = edits_told (texts_between words) (not_false (are_edits words) b.0) in
    let s = said_by_texts list.0 words l list.1 list.2 in
    (line.Edits n.0 list.0, (e, refl, ap (λ w. w ∷ words_of (edits_text list.0)) n.1.1 ∙ ap (λ ws. name ∷ ws) s.words_are, (n.1.2, s.some, s.said)))

means_trim : (said : SaidView) (name extra : List ℕ) → later_rule said kind.Trim (name ∷ extra ∷ []) ≡ None → Meaning said kind.Trim (name ∷ extra ∷ [])
means_trim said name extra e =
    let a = unless (is_none (actor_of said.names name)) 5 _ e in
    let b = unless (not (is_number 0 greatest extra)) 7 _ a.1 in
    let n = actor_is said.names name a.0 in
    let m = told_number 0 greatest extra (not_false (is_number 0 greatest extra) b.0) in
    let rest : decimal (digits_value 10 extra) ≡ extra = m.1 in
    (line.Trim n.0 (digits_value 10 extra), (e, refl, ap (λ w. w ∷ decimal (digits_value 10 extra) ∷ []) n.1.1 ∙ ap (λ w. name ∷ w ∷ []) rest, (n.1.2, m.3)))

means_purge : (said : SaidView) (name min : List ℕ) → later_rule said kind.Purge (name ∷ min ∷ []) ≡ None → Meaning said kind.Purge (name ∷ min ∷ [])
means_purge said name min e =
    let a = unless (is_none (actor_of said.names name)) 5 _ e in
    let b = unless (not (is_number 0 greatest min)) 7 _ a.1 in
    let n = actor_is said.names name a.0 in
    let m = told_number 0 greatest min (not_false (is_number 0 greatest min) b.0) in
    let rest : decimal (digits_value 10 min) ≡ min = m.1 in
    (line.Purge n.0 (digits_value 10 min), (e, refl, ap (λ w. w ∷ decimal (digits_value 10 min) ∷ []) n.1.1 ∙ ap (λ w. name ∷ w ∷ []) rest, (n.1.2, m.3)))

means_call : (said : SaidView) (c : CallWord) (name i k : List ℕ) (actor x y : ℕ) → Names said.names name actor → Tells 1 said.nodes i x → Tells 1 greatest k y
    → later_rule said (kind.Call c) (name ∷ i ∷ k ∷ []) ≡ None → Meaning said (kind.Call c) (name ∷ i ∷ k ∷ [])
means_call said call.Drop name i k actor x y n t u e = (line.Drop actor x y, (e, refl, cc, (n.2, (t.2, t.3), (u.2, u.3))))
means_call said call.Mute name i k actor x y n t u e = (line.Mute actor x y, (e, refl, cc, (n.2, (t.2, t.3), (u.2, u.3))))
means_call said call.Late name i k actor x y n t u e = (line.Late actor x y, (e, refl, cc, (n.2, (t.2, t.3), (u.2, u.3))))

means_node : (said : SaidView) (t : NodeWord) (i : List ℕ) (x : ℕ) → Tells 1 said.nodes i x → later_rule said (kind.Node t) (i ∷ []) ≡ None → Meaning said (kind.Node t) (i ∷ [])
means_node said node.Kill i x t e = (line.Kill x, (e, refl, ap (λ w. w ∷ []) t.1, (t.2, t.3)))
means_node said node.Restart i x t e = (line.Restart x, (e, refl, ap (λ w. w ∷ []) t.1, (t.2, t.3)))

means_stop : (said : SaidView) (i calls keep : List ℕ) (x y z : ℕ) → Tells 1 said.nodes i x → Tells 1 greatest calls y → Tells 0 greatest keep z
    → later_rule said kind.Stop (i ∷ calls ∷ keep ∷ []) ≡ None → Meaning said kind.Stop (i ∷ calls ∷ keep ∷ [])
means_stop said i calls keep x y z t u v e = (line.Arm x y (stop.Effects z), (e, refl, cc, ((t.2, t.3), (u.2, u.3), v.3)))

means_cut : (said : SaidView) (i calls made word : List ℕ) (x y z : ℕ) (c : Cut) → Tells 1 said.nodes i x → Tells 1 greatest calls y → Tells 0 greatest made z → choice_of word ≡ Some c
    → later_rule said kind.Cut (i ∷ calls ∷ made ∷ word ∷ []) ≡ None → Meaning said kind.Cut (i ∷ calls ∷ made ∷ word ∷ [])
means_cut said i calls made word x y z c t u v w e =
    let same : choice_word c ≡ word = chosen word c w in
    (line.Arm x y (stop.DiskCalls z c), (e, refl, cc, ((t.2, t.3), (u.2, u.3), v.3)))

choice_is : (o : Option Cut) → is_some o ≡ true → (c : Cut) × (o ≡ Some c)
choice_is None e = absurd (false≢true e)
choice_is (Some c) e = (c, refl)

-- ## Any kind
abbrev Words : SaidView → Kind → List (List ℕ) → Type 0
Words said k words = later_rule said k words ≡ None → Meaning said k words

with_words : (said : SaidView) (k : Kind) (us ws : List (List ℕ)) → us ≡ ws → Words said k ws → Words said k us
with_words said k us ws e h = subst (λ (vs : List (List ℕ)). Words said k vs) (sym e) h

task_words : (said : SaidView) (t : TaskWord) (name : List ℕ) → Words said (kind.Task t) (name ∷ [])
task_words said t name e =
    let a = unless (is_none (actor_of said.names name)) 5 _ e in
    let n = actor_is said.names name a.0 in
    means_task said t name n.0 n.1 e

standby_words : (said : SaidView) (w : StandbyWord) (name : List ℕ) → Words said (kind.Standby w) (name ∷ [])
standby_words said w name e =
    let a = unless (is_none (actor_of said.names name)) 5 _ e in
    let n = actor_is said.names name a.0 in
    means_standby said w name n.0 n.1 e

call_words : (said : SaidView) (c : CallWord) (name i k : List ℕ) → Words said (kind.Call c) (name ∷ i ∷ k ∷ [])
call_words said c name i k e =
    let a = unless (is_none (actor_of said.names name)) 5 _ e in
    let b = unless (not (is_number 1 said.nodes i && is_number 1 greatest k)) 7 _ a.1 in
    let n = actor_is said.names name a.0 in
    let t = and_parts (is_number 1 said.nodes i) (is_number 1 greatest k) (not_false (is_number 1 said.nodes i && is_number 1 greatest k) b.0) in
    means_call said c name i k n.0 _ _ n.1 (told_number 1 said.nodes i t.0) (told_number 1 greatest k t.1) e

node_words : (said : SaidView) (t : NodeWord) (i : List ℕ) → Words said (kind.Node t) (i ∷ [])
node_words said t i e =
    let a = unless (not (is_number 1 said.nodes i)) 7 _ e in
    means_node said t i _ (told_number 1 said.nodes i (not_false (is_number 1 said.nodes i) a.0)) e

stop_words : (said : SaidView) (i calls keep : List ℕ) → Words said kind.Stop (i ∷ calls ∷ keep ∷ [])
stop_words said i calls keep e =
    let a = unless (not (is_number 1 said.nodes i && is_number 1 greatest calls && is_number 0 greatest keep)) 7 _ e in
    let t = and_parts (is_number 1 said.nodes i && is_number 1 greatest calls) (is_number 0 greatest keep)
    (not_false (is_number 1 said.nodes i && is_number 1 greatest calls && is_number 0 greatest keep) a.0) in
    let u = and_parts (is_number 1 said.nodes i) (is_number 1 greatest calls) t.0 in
    means_stop said i calls keep _ _ _ (told_number 1 said.nodes i u.0) (told_number 1 greatest calls u.1) (told_number 0 greatest keep t.1) e

cut_words : (said : SaidView) (i calls made word : List ℕ) → Words said kind.Cut (i ∷ calls ∷ made ∷ word ∷ [])
cut_words said i calls made word e =
    let all : Bool = is_number 1 said.nodes i && is_number 1 greatest calls && is_number 0 greatest made && is_some (choice_of word) in
    let a = unless (not all) 7 _ e in
    let h = and_parts (is_number 1 said.nodes i && is_number 1 greatest calls && is_number 0 greatest made) (is_some (choice_of word)) (not_false all a.0) in
    let t = and_parts (is_number 1 said.nodes i && is_number 1 greatest calls) (is_number 0 greatest made) h.0 in
    let u = and_parts (is_number 1 said.nodes i) (is_number 1 greatest calls) t.0 in
    let c = choice_is (choice_of word) h.1 in
    means_cut said i calls made word _ _ _ c.0 (told_number 1 said.nodes i u.0) (told_number 1 greatest calls u.1) (told_number 0 greatest made t.1) c.1 e

pub means_kind : (said : SaidView) (k : Kind) (words : List (List ℕ)) → AllByRecursion (Lacks 32) words → has_length k (length words + 1) ≡ true
    → later_rule said k words ≡ None → (l : ScriptLine) × IsRead said k words (line_read.Says l)
means_kind said kind.Declare words l n =
    let w = one_of words (after_one (length words) n) in
    with_words said kind.Declare words (w.0 ∷ []) w.1 (means_declaration said w.0)
means_kind said (kind.Task t) words l n =
    let w = one_of words (after_one (length words) n) in
    with_words said (kind.Task t) words (w.0 ∷ []) w.1 (task_words said t w.0)
means_kind said kind.Log words l n =
    let w = more_of words (after_some (length words) n) in
    with_words said kind.Log words (w.0 ∷ w.1) w.3 (means_log said w.0 w.1 w.2)
means_kind said kind.Edits words l n =
    let w = more_of words (after_some (length words) n) in
    let lacks = subst (AllByRecursion (Lacks 32)) w.3 l in
    with_words said kind.Edits words (w.0 ∷ w.1) w.3 (means_edits said w.0 w.1 lacks.1)
means_kind said kind.Trim words l n =
    let w = two_of words (behind_two (length words) n) in
    with_words said kind.Trim words (w.0 ∷ w.1 ∷ []) w.2 (means_trim said w.0 w.1)
means_kind said (kind.Standby t) words l n =
    let w = one_of words (after_one (length words) n) in
    with_words said (kind.Standby t) words (w.0 ∷ []) w.1 (standby_words said t w.0)
means_kind said kind.Purge words l n =
    let w = two_of words (behind_two (length words) n) in
    with_words said kind.Purge words (w.0 ∷ w.1 ∷ []) w.2 (means_purge said w.0 w.1)
means_kind said (kind.Call c) words l n =
    let w = three_of words (after_three (length words) n) in
    with_words said (kind.Call c) words (w.0 ∷ w.1 ∷ w.2 ∷ []) w.3 (call_words said c w.0 w.1 w.2)
means_kind said (kind.Node t) words l n =
    let w = one_of words (after_one (length words) n) in
    with_words said (kind.Node t) words (w.0 ∷ []) w.1 (node_words said t w.0)
means_kind said kind.Stop words l n =
    let w = three_of words (after_three (length words) n) in
    with_words said kind.Stop words (w.0 ∷ w.1 ∷ w.2 ∷ []) w.3 (stop_words said w.0 w.1 w.2)
means_kind said kind.Cut words l n =
    let w = four_of words (after_four (length words) n) in
    with_words said kind.Cut words (w.0 ∷ w.1 ∷ w.2 ∷ w.3 ∷ []) w.4 (cut_words said w.0 w.1 w.2 w.3)

-- ## What is read
pub no_name : (name : List ℕ) → name ≡ [] → is_name name ≡ true → ⊥
unfolding is_name
no_name name e n = false≢true (rw e at n)

pub logs : (said : SaidView) (name : List ℕ) (words bodies : List (List ℕ)) (actor : ℕ) → Names said.names name actor → words ≢ [] → bodies_in words ≡ Some bodies
    → IsRead said kind.Log (name ∷ words) (line_read.Says (line.Log actor bodies))
logs said name words bodies actor n some read =
    let all : list_all is_body words ≡ true = bodies_test words ∙ ap is_some read in
    let found = bodies_found words bodies read in
    (rw (n.0, all) refl, refl, ap (λ w. w ∷ map hex_text bodies) n.1 ∙ ap (λ ws. name ∷ ws) found.0, (n.2, (λ none. some (sym found.0 ∙ ap (map hex_text) none)), found.1))

pub no_logs : (said : SaidView) (name : List ℕ) (words : List (List ℕ)) (actor : ℕ) → Names said.names name actor → bodies_in words ≡ None → IsRead said kind.Log (name ∷ words) (line_read.Broken 8)
no_logs said name words actor n read =
    let other : list_all is_body words ≡ false = bodies_test words ∙ ap is_some read in
    rw (n.0, other) refl

pub submits : (said : SaidView) (name : List ℕ) (words : List (List ℕ)) (edits : List EditView) (actor : ℕ) → Names said.names name actor → AllByRecursion (Lacks 32) words → are_edits words ≡ true
    → map (text_of false) edits ≡ texts_between words → AllByRecursion HasText edits → IsRead said kind.Edits (name ∷ words) (line_read.Says (line.Edits actor edits))
submits said name words edits actor n l all e h =
    let s = said_by_texts edits words l e h in
    (rw (n.0, all) refl, refl, ap (λ w. w ∷ words_of (edits_text edits)) n.1 ∙ ap (λ ws. name ∷ ws) s.words_are, (n.2, s.some, s.said))
