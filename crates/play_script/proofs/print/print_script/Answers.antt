use Rattle.std.proofs.Common.{◌≡◌, ◌∙◌, ◌∷◌, ◌+◌, sym, ap, arith, drop}
use Rattle.std.proofs.lemmas.Grind.{common_steps}
use Rattle.std.proofs.lemmas.List.{drop_more, drop_all}
use Rattle.play_script.specs.Grammar.{script_text, nothing_said}
use Rattle.play_script.proofs.PrintLaws.{written_start, written_may, written_more, written_all, has_its_text}
use Rattle.play_script.proofs.print.print_script.Goals as goal

pub loop-line-init : goal.loop-line-init
loop-line-init c =
    rw c.lines-line-items.ensures (written_start c.push.new.self.items c.args.script.now c.first-said.result
    (c.first-said.ensures ∙ (λ i. nothing_said (c.names-named.ensures i) (c.nodes-nodes.ensures i))) c.requires (grind (arith, common_steps)))

pub push_line-requires : goal.push_line-requires
push_line-requires c =
    let first = drop_more c.lines-line-items.result.now c.loop-line.line-index c.line-item.result (omega (arith, c.loop-line-test.true)) in
    (written_may c.loop-line.out.items c.loop-line.said c.line-item.result (drop (c.loop-line.line-index + 1) c.lines-line-items.result.now) _ _ c.loop-line.invariant
    (first ∙ ap (λ x. x ∷ drop (c.loop-line.line-index + 1) c.lines-line-items.result.now) (sym c.line-item.is))).sense

pub add-requires : goal.add-requires
add-requires c =
    let first = drop_more c.lines-line-items.result.now c.loop-line.line-index c.line-item.result (omega (arith, c.loop-line-test.true)) in
    (written_may c.loop-line.out.items c.loop-line.said c.line-item.result (drop (c.loop-line.line-index + 1) c.lines-line-items.result.now) _ _ c.loop-line.invariant
    (first ∙ ap (λ x. x ∷ drop (c.loop-line.line-index + 1) c.lines-line-items.result.now) (sym c.line-item.is))).sense

pub loop-line-preserved : goal.loop-line-preserved
loop-line-preserved c =
    let first = drop_more c.lines-line-items.result.now c.loop-line.line-index c.line-item.result (omega (arith, c.loop-line-test.true)) in
    written_more c.loop-line.out.items c.push_line.new.out.items c.push-in-loop-line.new.self.items c.loop-line.said c.add.new.self c.line-item.result
    (drop (c.loop-line.line-index + 1) c.lines-line-items.result.now) _ _ c.loop-line.invariant
    (first ∙ ap (λ x. x ∷ drop (c.loop-line.line-index + 1) c.lines-line-items.result.now) (sym c.line-item.is))
    c.in_ok-push_line.ensures c.in_ok-push-2.ensures.items c.in_ok-add.ensures.ok

pub returns-clause-text : goal.returns-clause-text
returns-clause-text c =
    written_all c.loop-line.out.items c.loop-line.said _ _ c.loop-line.invariant (drop_all c.loop-line.line-index c.lines-line-items.result.now (omega (arith, c.loop-line-test.false)))

pub returns-clause-again : goal.returns-clause-again
returns-clause-again c =
    let text : c.loop-line.out.items ≡ script_text c.args.script.now =
    written_all c.loop-line.out.items c.loop-line.said _ _ c.loop-line.invariant (drop_all c.loop-line.line-index c.lines-line-items.result.now (omega (arith, c.loop-line-test.false))) in
    rw text (has_its_text c.args.script.now c.requires)
