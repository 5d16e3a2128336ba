-- What nodes told, one after another.
use Rattle.std.proofs.Common.{ℕ, ◌≡◌, ◌<◌, ◌≤◌, ◌+◌, List, ◌++◌, length, drop, get_or, sym, ◌∙◌, ap, append_assoc, append-nil}
use Rattle.std.proofs.lemmas.List.{drop_more, drop_all}
use Rattle.writer_calls.specs.declared.told.NodeTold.{NodeTold}
use Rattle.play_report.specs.Mirrored.{told_text, nodes_told_text}

-- one more node
pub told_more : (out new all : List ℕ) (heard : List NodeTold) (i : ℕ) (d : NodeTold) → out ++ nodes_told_text (i + 1) (drop i heard) ≡ all → i < length heard
    → new ≡ out ++ told_text (i + 1) (get_or heard i d) → new ++ nodes_told_text (i + 1 + 1) (drop (i + 1) heard) ≡ all
unfolding nodes_told_text
told_more out new all heard i d h l e =
    ap (λ x. x ++ nodes_told_text (i + 1 + 1) (drop (i + 1) heard)) e
    ∙ append_assoc out (told_text (i + 1) (get_or heard i d)) (nodes_told_text (i + 1 + 1) (drop (i + 1) heard))
    ∙ ap (λ x. out ++ nodes_told_text (i + 1) x) (sym (drop_more heard i d l)) ∙ h

pub told_all : (out all : List ℕ) (heard : List NodeTold) (i : ℕ) → out ++ nodes_told_text (i + 1) (drop i heard) ≡ all → length heard ≤ i → out ≡ all
unfolding nodes_told_text
told_all out all heard i h l = sym (append-nil out) ∙ ap (λ x. out ++ nodes_told_text (i + 1) x) (sym (drop_all i heard l)) ∙ h
