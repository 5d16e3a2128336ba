-- The lines of a generated script, one after another.
use Rattle.std.proofs.Common.{ℕ, zero, suc, ◌≡◌, ◌<◌, ◌≤◌, ◌+◌, ◌-◌, List, [], ◌∷◌, ◌++◌, refl, sym, ap, arith, ◌∙◌, append_assoc, append-nil}
use Rattle.play_script.specs.declared.script_line.ScriptLine.{ScriptLine}
use Rattle.play_script.specs.declared.script_line.ScriptLine.TheVariants.{Edits}
use Rattle.play_script.specs.declared.making.Making.{Making}
use Rattle.play_script.specs.Generated.{lines_before, edit_after, edit_lines}

-- what is due after so many edits
edits_due : (nodes left count : ℕ) (m : Making) → 0 < left
    → edit_lines nodes left count m ≡ (lines_before nodes m).lines ++ Edits (lines_before nodes m).next.writer (edit_after count ∷ []) ∷ edit_lines
    nodes (left - 1) (count + 1) (lines_before nodes m).next
unfolding edit_lines
edits_due nodes zero count m l = absurd (omega (arith, l))
edits_due nodes (suc left) count m l = let e : suc left - 1 ≡ left = omega arith in rw e refl

-- one edit more
pub edits_more : (nodes edits count : ℕ) (m next : Making) (out before new all : List ScriptLine) → out ++ edit_lines nodes (edits - count) count m ≡ all → count < edits
    → before ≡ out ++ (lines_before nodes m).lines → next ≡ (lines_before nodes m).next → new ≡ before ++ Edits next.writer (edit_after count ∷ []) ∷ []
    → new ++ edit_lines nodes (edits - (count + 1)) (count + 1) next ≡ all
edits_more nodes edits count m next out before new all h l b n e =
    let w : Making = (lines_before nodes m).next in
    let front : List ScriptLine = (lines_before nodes m).lines in
    let line : ScriptLine = Edits w.writer (edit_after count ∷ []) in
    let rest : List ScriptLine = edit_lines nodes (edits - (count + 1)) (count + 1) w in
    let left : edits - count - 1 ≡ edits - (count + 1) = omega arith in
    ap (λ (x : Making). new ++ edit_lines nodes (edits - (count + 1)) (count + 1) x) n
    ∙ ap (λ x. x ++ rest) (e ∙ ap (λ (x : Making). before ++ Edits x.writer (edit_after count ∷ []) ∷ []) n ∙ ap (λ x. x ++ line ∷ []) b)
    ∙ append_assoc (out ++ front) (line ∷ []) rest
    ∙ append_assoc out front (line ∷ rest)
    ∙ ap (λ k. out ++ (front ++ line ∷ edit_lines nodes k (count + 1) w)) (sym left)
    ∙ ap (λ x. out ++ x) (sym (edits_due nodes (edits - count) count m (omega (arith, l))))
    ∙ h

pub edits_all : (nodes edits count : ℕ) (m : Making) (out all : List ScriptLine) → out ++ edit_lines nodes (edits - count) count m ≡ all → edits ≤ count → out ≡ all
unfolding edit_lines
edits_all nodes edits count m out all h l =
    let none : edits - count ≡ 0 = omega (arith, l) in
    sym (append-nil out) ∙ ap (λ n. out ++ edit_lines nodes n count m) (sym none) ∙ h
