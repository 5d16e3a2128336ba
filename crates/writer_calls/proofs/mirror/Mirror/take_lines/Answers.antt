use Rattle.std.proofs.Common.{◌∷◌, [], Option, refl, sym, ◌∙◌, subst, append-nil}
use Rattle.std.proofs.lemmas.Result.{err_from_is_err_and}
use Rattle.writer_calls.specs.declared.synced.Missing.{Missing}
use Rattle.writer_calls.specs.Passing.{LinesTaken, one_or_none}
use Rattle.writer_calls.proofs.Taking.{taken_none}
use Rattle.writer_calls.proofs.Passing.{as_told, begun_more, lines_skip, lines_more, lines_all}
use Rattle.writer_calls.proofs.mirror.Mirror.take_lines.Goals as goal
use Rattle.writer_calls.proofs.mirror.Mirror.take_lines.Goals.{then-counts+in_ok-missing+in-Some+in_ok-push, then-counts+in_ok-missing+in_default, else-counts}

pub loop-line-init : goal.loop-line-init
loop-line-init g c = record {
  taken = taken_none (g.P.Peers.calls c.args.peers.now) c.args.self.now c.new-stopped.result.items c.new-stopped.ensures.items;
  nodes = refl;
  called = g.met.P.Peers.called_none c.args.peers.now;
}

pub returns-in_err-missing-clause-begun : goal.returns-in_err-missing-clause-begun
returns-in_err-missing-clause-begun g c =
    let p = err_from_is_err_and c.from_residual.result c.from_residual.ensures.1 in
    rw p.1 (begun_more c.args.node c.loop-line.line-index c.args.lines.now _ (g.P.Peers.calls c.args.peers.now) (g.P.Peers.calls c.loop-line.peers) (g.P.Peers.calls c.take_line.new.peers)
    c.args.self.now c.loop-line.self c.take_line.new.self c.loop-line-test.true (sym c.counts.ensures ∙ c.if-counts.true) c.loop-line.invariant.taken.begun c.in_err-missing.ensures.begun)

pub returns-in_err-push-clause-begun : goal.returns-in_err-push-clause-begun
returns-in_err-push-clause-begun g c =
    let p = err_from_is_err_and c.from_residual-in_err-push.result c.from_residual-in_err-push.ensures.1 in
    let taken = c.in_ok-missing.ensures.taken in
    rw p.1 (begun_more c.args.node c.loop-line.line-index c.args.lines.now _ (g.P.Peers.calls c.args.peers.now) (g.P.Peers.calls c.loop-line.peers) (g.P.Peers.calls c.take_line.new.peers)
    c.args.self.now c.loop-line.self c.take_line.new.self c.loop-line-test.true (sym c.counts.ensures ∙ c.if-counts.true) c.loop-line.invariant.taken.begun taken.begun)

pub loop-line-preserved : goal.loop-line-preserved
loop-line-preserved g c =
    let i = c.loop-line.invariant in
    elim c.if-counts.branch [
      | then-counts+in_ok-missing+in-Some+in_ok-push w ↦ rw (w.self-is, w.peers-is, w.stopped-is) (record {
        taken = lines_more c.args.node c.loop-line.line-index c.args.lines.now _ (g.P.Peers.calls c.args.peers.now) (g.P.Peers.calls c.loop-line.peers) (g.P.Peers.calls w.take_line.new.peers)
            c.args.self.now c.loop-line.self w.take_line.new.self c.loop-line.stopped.items (w.in-Some.missing ∷ []) w.push.new.self.items c.loop-line-test.true
            (sym c.counts.ensures ∙ w.if-counts.true) i.taken
            (subst (λ (o : Option Missing). LinesTaken (as_told c.args.node _ ∷ []) (g.P.Peers.calls c.loop-line.peers) (g.P.Peers.calls w.take_line.new.peers) c.loop-line.self
            w.take_line.new.self (one_or_none o)) w.in-Some.is w.in_ok-missing.ensures.taken)
            w.in_ok-push.ensures.items;
        nodes = w.in_ok-missing.ensures.nodes ∙ i.nodes;
        called = g.met.P.Peers.called_on c.args.peers.now c.loop-line.peers w.take_line.new.peers i.called w.in_ok-missing.ensures.called;
      })
      | then-counts+in_ok-missing+in_default w ↦ rw (w.self-is, w.peers-is, w.stopped-is) (record {
        taken = lines_more c.args.node c.loop-line.line-index c.args.lines.now _ (g.P.Peers.calls c.args.peers.now) (g.P.Peers.calls c.loop-line.peers) (g.P.Peers.calls w.take_line.new.peers)
            c.args.self.now c.loop-line.self w.take_line.new.self c.loop-line.stopped.items [] c.loop-line.stopped.items c.loop-line-test.true
            (sym c.counts.ensures ∙ w.if-counts.true) i.taken
            (subst (λ (o : Option Missing). LinesTaken (as_told c.args.node _ ∷ []) (g.P.Peers.calls c.loop-line.peers) (g.P.Peers.calls w.take_line.new.peers) c.loop-line.self
            w.take_line.new.self (one_or_none o)) w.in_default.is w.in_ok-missing.ensures.taken)
            (sym (append-nil c.loop-line.stopped.items));
        nodes = w.in_ok-missing.ensures.nodes ∙ i.nodes;
        called = g.met.P.Peers.called_on c.args.peers.now c.loop-line.peers w.take_line.new.peers i.called w.in_ok-missing.ensures.called;
      })
      | else-counts w ↦ rw (w.self-is, w.peers-is, w.stopped-is) (record {
        taken = lines_skip c.args.node c.loop-line.line-index c.args.lines.now _ (g.P.Peers.calls c.args.peers.now) (g.P.Peers.calls c.loop-line.peers) c.args.self.now c.loop-line.self
            c.loop-line.stopped.items c.loop-line-test.true (sym c.counts.ensures ∙ w.if-counts.false) i.taken;
        nodes = i.nodes;
        called = i.called;
      })
    ]

pub returns-clause-taken : goal.returns-clause-taken
returns-clause-taken g c =
    lines_all c.args.node c.loop-line.line-index c.args.lines.now (g.P.Peers.calls c.args.peers.now) (g.P.Peers.calls c.loop-line.peers) c.args.self.now c.loop-line.self
    c.loop-line.stopped.items c.loop-line-test.false c.loop-line.invariant.taken
