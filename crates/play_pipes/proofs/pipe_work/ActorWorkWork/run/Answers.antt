use Rattle.std.proofs.Common.{rules, ◌≡◌, ◌∙◌, sym, ap, subst, Some, true, [], map, length}
use Rattle.mesh.specs.Marks.{IsMarked, AreCopied}
use Rattle.mesh.specs.Matches.{AreWithin}
use Rattle.play_model.specs.Lines.{actions_of, line_of}
use Rattle.play_calls.specs.Logs.{LogView}
use Rattle.play_pipes.specs.PipeWork.{HasWorked}
use Rattle.play_pipes.proofs.DesksGo.{desks_go}
use Rattle.play_pipes.proofs.PipeWorkLaws.{worked}
use Rattle.play_pipes.proofs.pipe_work.ActorWorkWork.run.Goals as goal

pub returns-clause-starts : goal.returns-clause-starts
returns-clause-starts g c =
    let s = c.of-by.result in
    let t = c.act-done.new.caller in
    let desk = ap (λ x. x.wire.desk) c.of-by.ensures ∙ (c.new-4.ensures.desk ∙ c.replace-own.ensures.value) in
    let count : s.log.nodes ≡ length s.wire.desk.starts =
    ap (λ x. x.log.nodes) c.of-by.ensures ∙ (ap (λ (l : LogView). l.nodes) c.in_ok-log.ensures ∙ (sym c.requires.nodes ∙ (sym c.nodes.ensures.lists ∙ (c.nodes.ensures.starts ∙ sym (ap (λ d. length d.starts) desk))))) in
    let went = desks_go (λ v. v.desk.starts) (λ v. v.desk.lists) (λ v. v.ahead) s t count c.in_ok-last.ensures.later in
    ap (λ v. v.desk.starts) c.into_parts-wire.ensures.wire ∙ (went.0 ∙ ap (λ d. d.starts) desk)

pub returns-clause-ran : goal.returns-clause-ran
returns-clause-ran g c =
    let me = c.args.self.now in
    let s = c.of-by.result in
    let t = c.act-done.new.caller in
    let desk = ap (λ x. x.wire.desk) c.of-by.ensures ∙ (c.new-4.ensures.desk ∙ c.replace-own.ensures.value) in
    let count : s.log.nodes ≡ length s.wire.desk.starts =
    ap (λ x. x.log.nodes) c.of-by.ensures ∙ (ap (λ (l : LogView). l.nodes) c.in_ok-log.ensures ∙ (sym c.requires.nodes ∙ (sym c.nodes.ensures.lists ∙ (c.nodes.ensures.starts ∙ sym (ap (λ d. length d.starts) desk))))) in
    let went = desks_go (λ v. v.desk.starts) (λ v. v.desk.lists) (λ v. v.ahead) s t count c.in_ok-last.ensures.later in
    let same = c.into_parts-wire.ensures.log in
    let parts = c.into_parts-past in
    let is_empty : c.is_empty.result ≡ true = search rules in
    let is_whole : c.is_whole-is_whole.result ≡ true = search rules in
    let actions = actions_of me.actor (map line_of me.lines.now) in
    subst (HasWorked me.named me.nodes actions (Some (parts.result.0, parts.result.1, c.in_ok-last.last))) (sym (ap (λ v. v.desk.lists) c.into_parts-wire.ensures.wire))
    (worked me.named me.nodes actions (Some (parts.result.0, parts.result.1, c.in_ok-last.last)) s.log t.log s.wire.ahead t.wire.ahead s.wire.desk.lists
    c.args.desk.now.lists t.wire.desk.lists c.in_ok-last.last (ap (λ x. x.log) c.of-by.ensures ∙ c.in_ok-log.ensures) (ap (λ x. x.wire.ahead) c.of-by.ensures ∙ c.new-4.ensures.ahead)
    (ap (λ d. d.lists) desk) c.requires.nodes c.requires.empty c.in_ok-last.ensures.later.nodes went.1 (sym c.is_whole-is_whole.ensures.whole ∙ is_whole)
    (sym (ap (λ v. v.ahead) c.into_parts-wire.ensures.wire) ∙ c.is_empty.ensures is_empty) c.in_ok-last.ensures.follows
    (λ i. Some ((parts.ensures.records ∙ ap (λ (l : LogView). l.past) same) i, (parts.ensures.plan ∙ ap (λ (l : LogView). l.marks) same) i, c.in_ok-last.last))
    (subst (λ (l : LogView). l.whole ≡ true → IsMarked l.marks [] l.past) same parts.ensures.marked)
    (subst (λ (l : LogView). l.whole ≡ true → AreCopied l.marks l.past) same parts.ensures.copied)
    (subst (λ (l : LogView). l.whole ≡ true → AreWithin l.nodes l.past) same parts.ensures.within))
