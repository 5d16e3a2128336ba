use Rattle.std.proofs.Common.{◌≡◌, subst, List, length, arith}
use Rattle.journal_core.specs.declared.heard.Heard.{Heard}
use Rattle.play_names.specs.Tails.{Ends, pass_end}
use Rattle.play_standby.specs.Standbys.{held}
use Rattle.play_standby.specs.Tailing.{IsEnd}
use Rattle.play_standby.proofs.StepLaws.{pass_over, over_when}
use Rattle.play_standby.proofs.standby.Standby.note.Goals as goal

pub returns-clause-ok : goal.returns-clause-ok
returns-clause-ok c =
    λ images work.
    let now : List Heard = c.push.new.self.items in
    let size : c.len.result ≡ length now = omega arith in
    pass_over c.args.nodes c.args.until c.args.told.now.items now c.args.heard images c.args.self.now work c.in_ok-tailed.tailed c.in_ok-push.ensures.items
    (over_when c.args.nodes c.args.told.now.items now c.args.heard c.len.result c.in_ok-push.ensures.items size c.if-len-nodes.false)
    (subst (λ (l : List Heard). IsEnd (Ends (pass_end c.args.until l) (held images c.args.self.now)) images c.args.self.now c.in_ok-tailed.tailed)
    c.deref.ensures.value (c.in_ok-tailed.ensures.end images))
