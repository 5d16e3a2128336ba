use Rattle.std.proofs.Common.{sym, subst}
use Rattle.ns_store.specs.Loads.{IsAnswer}
use Rattle.ns_store.proofs.AnswerLaws.{answered}
use Rattle.ns_store.proofs.loading.load.Goals as goal

pub returns-clause-loaded : goal.returns-clause-loaded
returns-clause-loaded g c = λ t.
    let seen = (g.D.DiskModel.view c.args.disk.now).seen in
    subst (IsAnswer seen c.args.txid) (sym c.in_ok-answer.ensures.answer) (answered seen c.args.txid c.in_ok-found.found (c.in_ok-found.ensures.loaded t))
