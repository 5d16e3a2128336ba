-- The lines of turns, one after another.
use Rattle.std.proofs.Common.{ℕ, ◌≡◌, ◌<◌, ◌≤◌, ◌+◌, List, [], ◌∷◌, ◌++◌, length, map, take, drop, get_or, sym, ◌∙◌, ap, append_assoc, append-nil, Some}
use Rattle.std.specs.Prelude.{codes, slice_get, slice_index_or}
use Rattle.std.specs.List.{flat_map}
use Rattle.std.proofs.lemmas.List.{drop_more, drop_all, take_more, map-append}
use Rattle.std.proofs.lemmas.List.Concat.{flat_map-append}
use Rattle.journal_core.specs.declared.node_state.NodeState.{NodeState}
use Rattle.journal_history.specs.declared.history_line.HistoryLine.{HistoryLine}
use Rattle.ns_tree.specs.declared.end.End.{End}
use Rattle.play_report.specs.Text.{caller_name}
use Rattle.mesh.specs.declared.whole.Mesh.{Mesh}
use Rattle.node_states.specs.declared.node_line.NodeLine.{NodeLine}
use Rattle.node_states.specs.declared.turn.Turn.{Turn}
use Rattle.node_states.specs.declared.turn.Turn.TheVariants as turn
use Rattle.node_states.specs.Fields.{key_text, quoted, plain}
use Rattle.node_states.specs.Asks.{ask_text}
use Rattle.node_states.specs.Answers.{answer_text}
use Rattle.node_states.specs.Steps.{history_line, left_at, states_then}
use Rattle.node_states.specs.Texts.{way_word, front_text, asked_text, moved_text, node_line_text, listed_text, line_end, turn_text, turns_text}

pub tell_more : (m : Mesh) (ends : List End) (states states2 : List NodeState) (ts : List Turn) (i : ℕ) (d : Turn) (out new all : List ℕ)
    → out ++ turns_text m ends (i + 1) states (drop i ts) ≡ all → i < length ts
    → new ≡ out ++ turn_text m ends (i + 1) states (get_or ts i d) → states2 ≡ states_then m states (get_or ts i d)
    → new ++ turns_text m ends (i + 1 + 1) states2 (drop (i + 1) ts) ≡ all
unfolding turns_text
tell_more m ends states states2 ts i d out new all h l e t =
    ap (λ (x : List NodeState). new ++ turns_text m ends (i + 1 + 1) x (drop (i + 1) ts)) t
    ∙ ap (λ (x : List ℕ). x ++ turns_text m ends (i + 1 + 1) (states_then m states (get_or ts i d)) (drop (i + 1) ts)) e
    ∙ append_assoc out (turn_text m ends (i + 1) states (get_or ts i d)) (turns_text m ends (i + 1 + 1) (states_then m states (get_or ts i d)) (drop (i + 1) ts))
    ∙ ap (λ (x : List Turn). out ++ turns_text m ends (i + 1) states x) (sym (drop_more ts i d l)) ∙ h

pub tell_last : (m : Mesh) (ends : List End) (states : List NodeState) (ts : List Turn) (i : ℕ) (out all : List ℕ) → out ++ turns_text m ends (i + 1) states (drop i ts) ≡ all
    → length ts ≤ i → out ≡ all
unfolding turns_text
tell_last m ends states ts i out all h l = sym (append-nil out) ∙ ap (λ (x : List Turn). out ++ turns_text m ends (i + 1) states x) (sym (drop_all i ts l)) ∙ h

abbrev name_text : End → List ℕ
name_text e = quoted (plain e.name)

abbrev after_comma : List ℕ → List ℕ
after_comma other = codes "," ++ other

pub names_more : (es : List End) (i : ℕ) (d : End) (before out one new : List ℕ) → i < length es → out ≡ before ++ flat_map after_comma (map name_text (take i es))
    → one ≡ out ++ codes "," → new ≡ one ++ name_text (get_or es i d) → new ≡ before ++ flat_map after_comma (map name_text (take (i + 1) es))
names_more es i d before out one new l h o e =
    e ∙ ap (λ (x : List ℕ). x ++ name_text (get_or es i d)) (o ∙ ap (λ (x : List ℕ). x ++ codes ",") h)
    ∙ append_assoc (before ++ flat_map after_comma (map name_text (take i es))) (codes ",") (name_text (get_or es i d))
    ∙ append_assoc before (flat_map after_comma (map name_text (take i es))) (codes "," ++ name_text (get_or es i d))
    ∙ ap (λ (x : List ℕ). before ++ x) (sym (ap (λ (x : List End). flat_map after_comma (map name_text x)) (take_more es i d l)
    ∙ ap (flat_map after_comma) (map-append name_text (take i es) (get_or es i d ∷ [])) ∙ flat_map-append after_comma (map name_text (take i es)) (name_text (get_or es i d) ∷ [])
    ∙ ap (λ (x : List ℕ). flat_map after_comma (map name_text (take i es)) ++ x) (append-nil (after_comma (name_text (get_or es i d))))))

pub ruleset names = (names_more)

-- ## The line of a history
joined : (o f a k w m e : List ℕ) → ((o ++ (f ++ (a ++ (k ++ w)))) ++ m) ++ e ≡ o ++ (f ++ (a ++ (k ++ (w ++ (m ++ e)))))
joined o f a k w m e = simp append_assoc

pub line_told : (m : Mesh) (ends : List End) (number : ℕ) (states : List NodeState) (l : NodeLine) (s : NodeState) (h : HistoryLine) (old asked left new : List ℕ)
    → slice_get states l.index ≡ Some s → history_line m l ≡ Some h
    → asked ≡ old ++ (front_text number (caller_name ends h.caller) (way_word h.ask l.reach.is_muted h.answer) ++ (asked_text (l.index + 1) (ask_text h.ask)
    ++ (key_text (codes "answer") ++ answer_text h.answer)))
    → left ≡ asked ++ moved_text l.is_moving s h → new ≡ left ++ line_end → new ≡ old ++ turn_text m ends number states (turn.OfNode l)
unfolding turn_text node_line_text
line_told m ends number states l s h old asked left new there is a b e =
    e ∙ (λ i. b i ++ line_end) ∙ (λ i. (a i ++ moved_text l.is_moving s h) ++ line_end)
    ∙ joined old (front_text number (caller_name ends h.caller) (way_word h.ask l.reach.is_muted h.answer)) (asked_text (l.index + 1) (ask_text h.ask)) (key_text (codes "answer"))
    (answer_text h.answer) (moved_text l.is_moving s h) line_end
    ∙ sym (λ i. old ++ listed_text ends number l (there i) (is i))

pub line_left : (m : Mesh) (states new : List NodeState) (l : NodeLine) (s : NodeState) (h : HistoryLine) → slice_get states l.index ≡ Some s → history_line m l ≡ Some h
    → new ≡ left_at states l (Some s) (Some h) → new ≡ states_then m states (turn.OfNode l)
unfolding states_then
line_left m states new l s h there is e = e ∙ sym (λ i. left_at states l (there i) (is i))

-- the line that was found
pub line_is : (m : Mesh) (l : NodeLine) (h : HistoryLine) (histories : List (List HistoryLine)) → histories ≡ m.histories
    → Some h ≡ slice_get (slice_index_or histories l.index []) l.line → history_line m l ≡ Some h
line_is m l h histories e is = sym (is ∙ ap (λ (x : List (List HistoryLine)). slice_get (slice_index_or x l.index []) l.line) e)
