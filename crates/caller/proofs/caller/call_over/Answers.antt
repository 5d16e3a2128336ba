use Rattle.mesh.specs.Marks.{next_number}
use Rattle.caller.proofs.CallLaws.{marked_so}
use Rattle.caller.proofs.caller.call_over.Goals as goal

pub call-requires-clause-as_marked : goal.call-requires-clause-as_marked
call-requires-clause-as_marked g c =
    let l = c.args.log.now in
    marked_so l.marks c.args.node (next_number c.args.node l.past) c.in_ok-delivery.delivery c.in_ok-told.told c.in_ok-delivery.ensures.goes c.in_ok-told.ensures.told

pub returns-clause-called : goal.returns-clause-called
returns-clause-called g c =
    let l = c.args.log.now in
    record {
      told = c.in_ok-told.told;
      hears = c.in_ok-heard.ensures;
      as_marked = marked_so l.marks c.args.node (next_number c.args.node l.past) c.in_ok-delivery.delivery c.in_ok-told.told c.in_ok-delivery.ensures.goes c.in_ok-told.ensures.told;
      listed = c.in_ok-call.ensures.ok;
      went = c.in_ok-told.ensures.goes;
    }
