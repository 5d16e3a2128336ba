use Rattle.std.proofs.Common.{◌≡◌, ◌≤◌, ◌-◌, Some, sym, subst, slice_get}
use Rattle.mesh.specs.Marks.{calls_to}
use Rattle.play_calls.specs.Logs.{LogView}
use Rattle.play_calls.proofs.LogLaws.{copy_kept}
use Rattle.play_calls.proofs.caller_log.CallerLog.copy.Goals as goal

pub invariant_of-self-2 : goal.invariant_of-self-2
invariant_of-self-2 c e =
    let P : LogView → Type 0 = λ v. c.args.node ≤ v.nodes in
    let Q : LogView → Type 0 = λ v. slice_get (calls_to c.args.node v.past) (c.args.number - 1) ≡ Some c.args.request in
    copy_kept c.self.inside.past c.push.new.self c.self.inside.marks c.push-2.new.self c.self.inside.calls.items c.args.node c.args.number c.args.request c.requires.low
    (subst P (sym c.self.view_is) c.requires.high) c.requires.from_one (subst Q (sym c.self.view_is) c.requires.made) (c.self.invariant e) c.in_ok-push.ensures.ok c.in_ok-push-2.ensures.ok
