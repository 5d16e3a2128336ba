use Rattle.std.proofs.Common.{rules, ◌≡◌, ◌≤◌, true, ap, length, sym, subst}
use Rattle.mesh.specs.Marks.{next_number, IsAsMarked}
use Rattle.play_calls.specs.Logs.{LogView}
use Rattle.play_calls.proofs.LogLaws.{call_kept}
use Rattle.play_calls.proofs.caller_log.CallerLog.call.Goals as goal

pub invariant_of-self-2 : goal.invariant_of-self-2
invariant_of-self-2 c e =
    let whole : c.self.inside.is_whole ≡ true = search rules in
    let P : LogView → Type 0 = λ v. c.args.node ≤ v.nodes in
    let Q : LogView → Type 0 = λ v. IsAsMarked v.marks c.args.node (next_number c.args.node v.past) c.args.told in
    call_kept c.self.inside.past c.push-2.new.self c.self.inside.marks c.self.inside.calls.items c.args.node (length c.as_slice-place.result.now) c.args.request c.args.told
    c.index_mut.result.now c.push.new.self c.requires.low (subst P (sym c.self.view_is) c.requires.high) (subst Q (sym c.self.view_is) c.requires.as_marked) (c.self.invariant whole)
    c.index_mut.ensures.value c.in_ok-push.ensures (ap length c.as_slice-place.ensures) c.in_ok-push-2.ensures.ok
