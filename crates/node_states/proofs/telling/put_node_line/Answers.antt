use Rattle.std.proofs.Common.{◌≡◌, ◌<◌, ◌+◌, List, Some, length, get_or, subst, arith, ◌++◌}
use Rattle.std.specs.Prelude.{codes}
use Rattle.std.proofs.lemmas.Result.{on_ok_weaker}
use Rattle.std.proofs.lemmas.Option.{slice_get-get_or}
use Rattle.journal_core.specs.Step.{fresh_state}
use Rattle.journal_history.specs.declared.history_line.HistoryLine.{HistoryLine}
use Rattle.ns_tree.specs.declared.end.End.{End}
use Rattle.play_report.specs.Text.{caller_name}
use Rattle.node_states.specs.Fields.{key_text}
use Rattle.node_states.specs.Asks.{ask_text}
use Rattle.node_states.specs.Answers.{answer_text}
use Rattle.node_states.specs.Steps.{left_at}
use Rattle.node_states.specs.Texts.{way_word, front_text, asked_text, moved_text}
use Rattle.node_states.proofs.TellingLaws.{line_told, line_left, line_is}
use Rattle.node_states.proofs.telling.put_node_line.Goals as goal

pub returns-clause-text : goal.returns-clause-text
returns-clause-text c =
    let within : c.args.line.now.index < length c.args.telling.now.nodes.items = omega (arith, c.if-line-len.false, c.len.ensures) in
    let there = slice_get-get_or c.args.telling.now.nodes.items c.args.line.now.index fresh_state within in
    let is = line_is c.args.lists.now.mesh c.args.line.now c.in-Some.listed.now c.as_slice.result.now c.as_slice.ensures c.in-Some.ensures in
    let first = get_or c.args.telling.now.nodes.items c.args.line.now.index fresh_state in
    let asked = subst (λ (ends : List End). c.put_listed.new.out.items ≡ c.args.telling.now.text.items ++ (front_text c.args.number (caller_name ends c.in-Some.listed.now.caller)
    (way_word c.in-Some.listed.now.ask c.args.line.now.reach.is_muted c.in-Some.listed.now.answer) ++ (asked_text (c.args.line.now.index + 1) (ask_text c.in-Some.listed.now.ask)
    ++ (key_text (codes "answer") ++ answer_text c.in-Some.listed.now.answer)))) c.as_slice-2.ensures
    (subst (λ (h : HistoryLine). c.put_listed.new.out.items ≡ c.args.telling.now.text.items ++ (front_text c.args.number (caller_name c.as_slice-2.result.now h.caller)
    (way_word h.ask c.args.line.now.reach.is_muted h.answer) ++ (asked_text (c.args.line.now.index + 1) (ask_text h.ask) ++ (key_text (codes "answer") ++ answer_text h.answer))))
    c.lend-lent.ensures c.in_ok-put_listed.ensures) in
    let left = subst (λ (h : HistoryLine). c.put_left.new.telling.text.items ≡ c.put_listed.new.out.items ++ moved_text c.args.line.now.is_moving first h) c.lend-lent.ensures
    (c.in_ok-put_left.ensures.text first there) in
    on_ok_weaker c.put_end.result
    (λ e. line_told c.args.lists.now.mesh c.args.lists.now.ends c.args.number c.args.telling.now.nodes.items c.args.line.now first c.in-Some.listed.now c.args.telling.now.text.items
    c.put_listed.new.out.items c.put_left.new.telling.text.items c.put_end.new.out.items there is asked left e)
    c.put_end.ensures

pub returns-clause-nodes : goal.returns-clause-nodes
returns-clause-nodes c =
    let within : c.args.line.now.index < length c.args.telling.now.nodes.items = omega (arith, c.if-line-len.false, c.len.ensures) in
    let there = slice_get-get_or c.args.telling.now.nodes.items c.args.line.now.index fresh_state within in
    let is = line_is c.args.lists.now.mesh c.args.line.now c.in-Some.listed.now c.as_slice.result.now c.as_slice.ensures c.in-Some.ensures in
    let first = get_or c.args.telling.now.nodes.items c.args.line.now.index fresh_state in
    let left = subst (λ (h : HistoryLine). c.put_left.new.telling.nodes.items ≡ left_at c.args.telling.now.nodes.items c.args.line.now (Some first) (Some h)) c.lend-lent.ensures
    (c.in_ok-put_left.ensures.nodes first there) in
    on_ok_weaker c.put_end.result
    (λ e. line_left c.args.lists.now.mesh c.args.telling.now.nodes.items c.put_left.new.telling.nodes.items c.args.line.now first c.in-Some.listed.now there is left)
    c.put_end.ensures
