use Rattle.std.proofs.Common.{ℕ, Bool, [], if◌then◌else◌, sym, ap, ◌∙◌, subst}
use Rattle.writer_core.specs.Views.{WriterView}
use Rattle.writer_core.specs.Writer.{writer_stopped}
use Rattle.play_standby.specs.Entering.{IsTailedIn}
use Rattle.play_standby.proofs.EntryLaws.{taken_over, stands_entered}
use Rattle.play_standby.proofs.taking.take_over.Goals as goal

pub returns-then-keeps_epoch-clause-taken : goal.returns-then-keeps_epoch-clause-taken
returns-then-keeps_epoch-clause-taken g c =
    let w : WriterView = c.takeover.new.self in
    taken_over (g.P.Peers.nodes c.args.peers.now) c.in-Taken.epoch c.in-Taken.first c.args.writer.now w w c.args.standby.now c.tail_in-taken.new.standby
    (g.P.Peers.calls c.args.peers.now) (g.P.Peers.calls c.takeover.new.peers) (g.P.Peers.calls c.tail_in-taken.new.peers) c.in-Taken.ensures.came c.tail_in-taken.result
    (sym (ap (λ (b : Bool). if b then w else writer_stopped w) (sym c.keeps_epoch.ensures ∙ c.if-keeps_epoch.true)))
    (λ images. subst (λ (k : ℕ). IsTailedIn k c.in-Taken.epoch c.in-Taken.first images c.args.standby.now (g.P.Peers.calls c.takeover.new.peers)
    (g.P.Peers.calls c.tail_in-taken.new.peers) c.tail_in-taken.new.standby c.tail_in-taken.result)
    c.takeover.ensures.peers (c.tail_in-taken.ensures.tailed images))

pub returns-then-keeps_epoch-clause-stands : goal.returns-then-keeps_epoch-clause-stands
returns-then-keeps_epoch-clause-stands g c =
    let w : WriterView = c.takeover.new.self in
    stands_entered (g.P.Peers.nodes c.args.peers.now) c.in-Taken.epoch c.in-Taken.first c.args.writer.now w w c.args.standby.now c.tail_in-taken.new.standby
    (g.P.Peers.calls c.args.peers.now) (g.P.Peers.calls c.takeover.new.peers) (g.P.Peers.calls c.tail_in-taken.new.peers) c.in-Taken.ensures.came c.tail_in-taken.result
    (sym (ap (λ (b : Bool). if b then w else writer_stopped w) (sym c.keeps_epoch.ensures ∙ c.if-keeps_epoch.true)))
    (subst (λ (k : ℕ). IsTailedIn k c.in-Taken.epoch c.in-Taken.first [] c.args.standby.now (g.P.Peers.calls c.takeover.new.peers)
    (g.P.Peers.calls c.tail_in-taken.new.peers) c.tail_in-taken.new.standby c.tail_in-taken.result)
    c.takeover.ensures.peers (c.tail_in-taken.ensures.tailed []))

pub returns-else-keeps_epoch-clause-taken : goal.returns-else-keeps_epoch-clause-taken
returns-else-keeps_epoch-clause-taken g c =
    let w : WriterView = c.takeover.new.self in
    taken_over (g.P.Peers.nodes c.args.peers.now) c.in-Taken.epoch c.in-Taken.first c.args.writer.now w c.stop.new.self c.args.standby.now c.tail_in-taken.new.standby
    (g.P.Peers.calls c.args.peers.now) (g.P.Peers.calls c.takeover.new.peers) (g.P.Peers.calls c.tail_in-taken.new.peers) c.in-Taken.ensures.came c.tail_in-taken.result
    (c.stop.ensures ∙ sym (ap (λ (b : Bool). if b then w else writer_stopped w) (sym c.keeps_epoch.ensures ∙ c.if-keeps_epoch.false)))
    (λ images. subst (λ (k : ℕ). IsTailedIn k c.in-Taken.epoch c.in-Taken.first images c.args.standby.now (g.P.Peers.calls c.takeover.new.peers)
    (g.P.Peers.calls c.tail_in-taken.new.peers) c.tail_in-taken.new.standby c.tail_in-taken.result)
    c.takeover.ensures.peers (c.tail_in-taken.ensures.tailed images))
