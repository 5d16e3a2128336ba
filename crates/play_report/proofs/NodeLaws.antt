-- Nodes and actors, one after another.
use Rattle.std.proofs.Common.{ℕ, ◌≡◌, ◌<◌, ◌≤◌, ◌+◌, List, [], ◌∷◌, ◌++◌, length, drop, get_or, sym, ◌∙◌, ap, append_assoc, append-nil}
use Rattle.std.proofs.lemmas.List.{drop_more, drop_all}
use Rattle.journal_history.specs.declared.history_line.HistoryLine.{HistoryLine}
use Rattle.journal_history.specs.declared.record.Record.{Record}
use Rattle.ns_tree.specs.declared.end.End.{End}
use Rattle.play_report.specs.Text.{node_text, nodes_text, ended_text, actors_text, operator_text}

-- one more node
pub nodes_more : (ends : List End) (out new all : List ℕ) (histories : List (List HistoryLine)) (i : ℕ) (d : List HistoryLine)
    → out ++ nodes_text ends (i + 1) (drop i histories) ≡ all → i < length histories
    → new ≡ out ++ node_text ends (i + 1) (get_or histories i d) → new ++ nodes_text ends (i + 1 + 1) (drop (i + 1) histories) ≡ all
unfolding nodes_text
nodes_more ends out new all histories i d h l e =
    ap (λ x. x ++ nodes_text ends (i + 1 + 1) (drop (i + 1) histories)) e
    ∙ append_assoc out (node_text ends (i + 1) (get_or histories i d)) (nodes_text ends (i + 1 + 1) (drop (i + 1) histories))
    ∙ ap (λ x. out ++ nodes_text ends (i + 1) x) (sym (drop_more histories i d l)) ∙ h

pub nodes_all : (ends : List End) (out all : List ℕ) (histories : List (List HistoryLine)) (i : ℕ) → out ++ nodes_text ends (i + 1) (drop i histories) ≡ all → length histories ≤ i → out ≡ all
unfolding nodes_text
nodes_all ends out all histories i h l = sym (append-nil out) ∙ ap (λ x. out ++ nodes_text ends (i + 1) x) (sym (drop_all i histories l)) ∙ h

-- one more actor
pub actors_more : (out new all : List ℕ) (ends : List End) (records others : List (List Record)) (lines : List Record) (i : ℕ) (d : End)
    → out ++ actors_text (drop i ends) records ≡ all → i < length ends
    → records ≡ lines ∷ others → new ≡ out ++ ended_text (get_or ends i d) lines → new ++ actors_text (drop (i + 1) ends) others ≡ all
unfolding actors_text
actors_more out new all ends records others lines i d h l r e =
    ap (λ x. x ++ actors_text (drop (i + 1) ends) others) e
    ∙ append_assoc out (ended_text (get_or ends i d) lines) (actors_text (drop (i + 1) ends) others)
    ∙ ap (λ rs. out ++ actors_text (get_or ends i d ∷ drop (i + 1) ends) rs) (sym r)
    ∙ ap (λ x. out ++ actors_text x records) (sym (drop_more ends i d l)) ∙ h

pub actors_none : (out all : List ℕ) (ends : List End) (records : List (List Record)) (i : ℕ) (d : End) → out ++ actors_text (drop i ends) records ≡ all → i < length ends → records ≡ [] → out ≡ all
unfolding actors_text
actors_none out all ends records i d h l r =
    sym (append-nil out) ∙ ap (λ rs. out ++ actors_text (get_or ends i d ∷ drop (i + 1) ends) rs) (sym r) ∙ ap (λ x. out ++ actors_text x records) (sym (drop_more ends i d l)) ∙ h

pub actors_all : (out new all : List ℕ) (ends : List End) (records : List (List Record)) (i : ℕ) → out ++ actors_text (drop i ends) records ≡ all
    → length ends ≤ i → new ≡ out ++ operator_text records → new ≡ all
unfolding actors_text
actors_all out new all ends records i h l e = e ∙ ap (λ x. out ++ actors_text x records) (sym (drop_all i ends l)) ∙ h
