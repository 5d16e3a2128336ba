use Rattle.std.proofs.Common.{ap, ◌∙◌}
use Rattle.journal_core.specs.Views.{BatchView}
use Rattle.disk_node.proofs.Followed.{begin_held, accept_held, remove_held, promise_held, writer_held, commit_held, final_held}
use Rattle.disk_node.proofs.following.follow.Goals as goal

pub returns-in-NewSegment-clause-held : goal.returns-in-NewSegment-clause-held
returns-in-NewSegment-clause-held c = λ gs rows due held. begin_held c.begin.new.self gs c.args.request.now c.args.effect c.in-NewSegment.start c.in-NewSegment.epoch c.in-NewSegment.is c.begin.ensures

pub returns-in-Some-clause-held : goal.returns-in-Some-clause-held
returns-in-Some-clause-held c = λ gs rows due held.
    accept_held c.args.recent.now c.forget.new.self gs c.args.request.now c.args.effect c.first.result c.in-Replace.epoch c.in-Replace.again
    c.in-Replace.is (c.first.ensures ∙ ap (λ (b : BatchView). b.first) c.in-Some.ensures.batch) c.forget.ensures.same c.forget.ensures.gone held

pub returns-in-Remove-clause-held : goal.returns-in-Remove-clause-held
returns-in-Remove-clause-held c = λ gs rows due held.
    remove_held c.args.recent.now c.forget-in-Remove.new.self gs c.args.request.now c.args.effect c.in-Remove.info c.in-Remove.is c.forget-in-Remove.ensures.same c.forget-in-Remove.ensures.gone held

pub returns-in-Promise-clause-held : goal.returns-in-Promise-clause-held
returns-in-Promise-clause-held c = λ gs rows due held. promise_held c.args.recent.now gs c.args.request.now c.args.effect c.in-Promise.epoch c.in-Promise.is held

pub returns-in-WriterEpoch-clause-held : goal.returns-in-WriterEpoch-clause-held
returns-in-WriterEpoch-clause-held c = λ gs rows due held. writer_held c.args.recent.now gs c.args.request.now c.args.effect c.in-WriterEpoch.epoch c.in-WriterEpoch.is held

pub returns-in-Commit-clause-held : goal.returns-in-Commit-clause-held
returns-in-Commit-clause-held c = λ gs rows due held. commit_held c.args.recent.now gs c.args.request.now c.args.effect c.in-Commit.txid c.in-Commit.is held

pub returns-in-MakeFinal-clause-held : goal.returns-in-MakeFinal-clause-held
returns-in-MakeFinal-clause-held c = λ gs rows due held. final_held c.args.recent.now gs c.args.request.now c.args.effect c.in-MakeFinal.start
    c.in-MakeFinal.end c.in-MakeFinal.accepted c.in-MakeFinal.is held
