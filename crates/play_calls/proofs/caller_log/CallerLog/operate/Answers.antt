use Rattle.std.proofs.Common.{◌≤◌, sym, subst}
use Rattle.play_calls.specs.Logs.{LogView}
use Rattle.play_calls.proofs.LogLaws.{operate_kept}
use Rattle.play_calls.proofs.caller_log.CallerLog.operate.Goals as goal

pub invariant_of-self-2 : goal.invariant_of-self-2
invariant_of-self-2 c e =
    let P : LogView → Type 0 = λ v. c.args.node ≤ v.nodes in
    operate_kept c.self.inside.past c.push.new.self c.self.inside.marks c.self.inside.calls.items c.args.node c.args.ask c.args.done c.requires.low
    (subst P (sym c.self.view_is) c.requires.high) (c.self.invariant e)
    c.in_ok-push.ensures.ok
