use Rattle.std.proofs.Common.{ℕ, ◌∷◌, ◌++◌, [], List, Option, None, ◌∙◌, refl, subst, sym, arith, length-append}
use Rattle.journal_session.specs.Session.{IsSessionOf}
use Rattle.journal_session.specs.Asking.{IsTrail}
use Rattle.journal_session.specs.declared.served.Served.{Served}
use Rattle.journal_session.specs.declared.served.Served.TheVariants as served
use Rattle.journal_session.proofs.SessionLaws.{begun_with, one_more}
use Rattle.journal_session.proofs.EndLaws.{unbegun, untaken, at_end, last_answered, line_too_long, input_too_long, read_failed, stopped_ended, stopped_last}
use Rattle.journal_session.proofs.AskLaws.{none_asked, asked_more, trail_ends, trail_stops}
use Rattle.journal_session.proofs.serving.serve.Goals as goal
use Rattle.journal_session.proofs.serving.serve.Goals.{in-Some-serve_line, in-None}

pub loop-node-init : goal.loop-node-init
loop-node-init g c = record {
  so_far = (
    [],
    none_asked g.N.SessionNode.asked c.args.node.now (g.K.Sink.taken c.args.sink.now),
    begun_with (g.S.Source.left c.args.source.now) (g.N.SessionNode.state c.args.node.now) (g.K.Sink.taken c.args.sink.now) c.in-Ok.reader
        c.in-Ok.ensures.held c.in-Ok.ensures.taken,
  );
  within = omega (arith, c.in-Ok.ensures.taken);
  number = omega arith;
  read = refl;
  wrote = refl;
  handed = λ e. e;
  told = refl;
  later = omega arith;
  steady = λ h. h;
}

pub returns-in_default-clause-session : goal.returns-in_default-clause-session
returns-in_default-clause-session g c = (
  [],
  None,
  trail_ends g.N.SessionNode.asked served.OutOfMemory [] c.args.node.now c.args.node.now (g.K.Sink.taken c.args.sink.now) (g.K.Sink.taken c.args.sink.now)
      (none_asked g.N.SessionNode.asked c.args.node.now (g.K.Sink.taken c.args.sink.now)),
  unbegun (g.S.Source.left c.args.source.now) (g.N.SessionNode.state c.args.node.now) (g.K.Sink.taken c.args.sink.now),
)

pub returns-in-Some-clause-session : goal.returns-in-Some-clause-session
returns-in-Some-clause-session g c =
    let so = c.loop-node.invariant.so_far in
    let all = trail_stops g.N.SessionNode.asked
    (λ last. IsSessionOf so.0 last c.in-Some.served (g.S.Source.left c.args.source.now) (g.S.Source.left c.next_line.new.source)
    (g.N.SessionNode.state c.args.node.now) (g.N.SessionNode.state c.serve_line.new.node) (g.K.Sink.taken c.args.sink.now) (g.K.Sink.taken c.serve_line.new.sink))
    c.in-Some.served so.0 c.next_line.new.self.line c.serve_line.new.reply.items c.args.node.now c.loop-node.node c.serve_line.new.node
    (g.K.Sink.taken c.args.sink.now) (g.K.Sink.taken c.loop-node.sink) (g.K.Sink.taken c.serve_line.new.sink) so.1 (rw c.line.ensures.bytes at c.in-Some.ensures.asked)
    (λ last this. stopped_ended so.0 last c.in-Some.served (g.S.Source.left c.args.source.now) (g.N.SessionNode.state c.args.node.now) (g.S.Source.left c.loop-node.source)
    (g.S.Source.left c.next_line.new.source) (g.N.SessionNode.state c.loop-node.node) (g.N.SessionNode.state c.serve_line.new.node)
    (g.K.Sink.taken c.args.sink.now) (g.K.Sink.taken c.loop-node.sink) (g.K.Sink.taken c.serve_line.new.sink)
    c.loop-node.reader c.next_line.new.self c.loop-node.number c.next_line.new.self.line so.2 c.in-Line.ensures.next
    (omega (arith, c.in-Line.ensures.within)) (rw c.line.ensures.bytes at c.in-Some.ensures.served) this) in
    (so.0, all.0, all.1, all.2)

pub loop-node-preserved : goal.loop-node-preserved
loop-node-preserved g c = record {
  so_far = (
    c.loop-node.invariant.so_far.0 ++ c.next_line.new.self.line ∷ [],
    asked_more g.N.SessionNode.asked c.loop-node.invariant.so_far.0 c.next_line.new.self.line c.serve_line.new.reply.items c.args.node.now c.loop-node.node c.serve_line.new.node
        (g.K.Sink.taken c.args.sink.now) (g.K.Sink.taken c.loop-node.sink) (g.K.Sink.taken c.serve_line.new.sink) c.loop-node.invariant.so_far.1
        (rw c.line.ensures.bytes at c.in_default-serve_line.ensures.asked),
    one_more c.loop-node.invariant.so_far.0 (g.S.Source.left c.args.source.now) (g.N.SessionNode.state c.args.node.now) (g.S.Source.left c.loop-node.source)
        (g.S.Source.left c.next_line.new.source) (g.N.SessionNode.state c.loop-node.node) (g.N.SessionNode.state c.serve_line.new.node)
        (g.K.Sink.taken c.args.sink.now) (g.K.Sink.taken c.loop-node.sink) (g.K.Sink.taken c.serve_line.new.sink)
        c.loop-node.reader c.next_line.new.self c.loop-node.number c.next_line.new.self.line c.loop-node.invariant.so_far.2 c.in-Line.ensures.next
        (rw c.line.ensures.bytes at c.in_default-serve_line.ensures.served),
  );
  within = omega (arith, c.in-Line.ensures.within);
  number = omega (arith, c.in-Line.ensures.next.taken, length-append c.next_line.new.self.line (10 ∷ []));
  read = c.in-Line.ensures.no_fault (λ e. absurd (cc)) ∙ c.loop-node.invariant.read;
  wrote = c.in_default-serve_line.ensures.no_write_fault (λ e. absurd (cc)) ∙ c.loop-node.invariant.wrote;
  handed = λ e. c.in_default-serve_line.ensures.handed (λ x. absurd (cc)) (c.loop-node.invariant.handed e);
  told = c.in_default-serve_line.ensures.told ∙ c.loop-node.invariant.told;
  later = omega (arith, c.loop-node.invariant.later, c.in_default-serve_line.ensures.later);
  steady = λ h. (c.in_default-serve_line.ensures.steady (c.loop-node.invariant.steady h)).0;
}

pub returns-in-Last-clause-session : goal.returns-in-Last-clause-session
returns-in-Last-clause-session g c =
    let so = c.loop-node.invariant.so_far in
    let line = c.next_line.new.self.line in
    let S : List (List ℕ) → Option (List ℕ) → Served → Type 0 = λ lines last x. IsSessionOf lines last x (g.S.Source.left c.args.source.now) (g.S.Source.left c.next_line.new.source)
    (g.N.SessionNode.state c.args.node.now) (g.N.SessionNode.state c.serve_line-in-Last.new.node) (g.K.Sink.taken c.args.sink.now) (g.K.Sink.taken c.serve_line-in-Last.new.sink) in
    let P : Served → Type 0 = λ x. (lines : List (List ℕ)) × (last : Option (List ℕ)) × IsTrail g.N.SessionNode.asked lines last x c.args.node.now c.serve_line-in-Last.new.node
    (g.K.Sink.taken c.args.sink.now) (g.K.Sink.taken c.serve_line-in-Last.new.sink) × S lines last x in
    elim c.match-serve_line-2.branch [
      | in-Some-serve_line w ↦
          let all = trail_stops g.N.SessionNode.asked (λ last. S so.0 last w.in-Some-serve_line.served) w.in-Some-serve_line.served so.0 line c.serve_line-in-Last.new.reply.items
          c.args.node.now c.loop-node.node c.serve_line-in-Last.new.node (g.K.Sink.taken c.args.sink.now) (g.K.Sink.taken c.loop-node.sink) (g.K.Sink.taken c.serve_line-in-Last.new.sink) so.1
          (rw c.line-in-Last.ensures.bytes at w.in-Some-serve_line.ensures.asked)
          (λ last this. stopped_last so.0 last w.in-Some-serve_line.served (g.S.Source.left c.args.source.now) (g.N.SessionNode.state c.args.node.now) (g.S.Source.left c.loop-node.source)
          (g.S.Source.left c.next_line.new.source) (g.N.SessionNode.state c.loop-node.node) (g.N.SessionNode.state c.serve_line-in-Last.new.node)
          (g.K.Sink.taken c.args.sink.now) (g.K.Sink.taken c.loop-node.sink) (g.K.Sink.taken c.serve_line-in-Last.new.sink)
          c.loop-node.reader c.next_line.new.self c.loop-node.number line so.2
          c.in-Last.ensures.next.0 c.in-Last.ensures.next.1 c.in-Last.ensures.next.2
          (omega (arith, c.in-Last.ensures.within)) (rw c.line-in-Last.ensures.bytes at w.in-Some-serve_line.ensures.served) this) in
          subst P (sym w.result-is) (so.0, all.0, all.1, all.2)
      | in-None w ↦ subst P (sym w.result-is) (
        so.0 ++ line ∷ [],
        None,
        trail_ends g.N.SessionNode.asked served.Done (so.0 ++ line ∷ []) c.args.node.now c.serve_line-in-Last.new.node (g.K.Sink.taken c.args.sink.now) (g.K.Sink.taken c.serve_line-in-Last.new.sink)
            (asked_more g.N.SessionNode.asked so.0 line c.serve_line-in-Last.new.reply.items c.args.node.now c.loop-node.node c.serve_line-in-Last.new.node
            (g.K.Sink.taken c.args.sink.now) (g.K.Sink.taken c.loop-node.sink) (g.K.Sink.taken c.serve_line-in-Last.new.sink) so.1 (rw c.line-in-Last.ensures.bytes at w.in-None.ensures.asked)),
        last_answered so.0 (g.S.Source.left c.args.source.now) (g.N.SessionNode.state c.args.node.now) (g.S.Source.left c.loop-node.source)
            (g.S.Source.left c.next_line.new.source) (g.N.SessionNode.state c.loop-node.node) (g.N.SessionNode.state c.serve_line-in-Last.new.node)
            (g.K.Sink.taken c.args.sink.now) (g.K.Sink.taken c.loop-node.sink) (g.K.Sink.taken c.serve_line-in-Last.new.sink)
            c.loop-node.reader c.next_line.new.self c.loop-node.number line so.2
            c.in-Last.ensures.next.0 c.in-Last.ensures.next.2
            (omega (arith, c.in-Last.ensures.within)) (rw c.line-in-Last.ensures.bytes at w.in-None.ensures.served),
      )
    ]

pub returns-in-End-clause-session : goal.returns-in-End-clause-session
returns-in-End-clause-session g c =
    let so = c.loop-node.invariant.so_far in (
      so.0,
      None,
      trail_ends g.N.SessionNode.asked served.Done so.0 c.args.node.now c.loop-node.node (g.K.Sink.taken c.args.sink.now) (g.K.Sink.taken c.loop-node.sink) so.1,
      at_end so.0 (g.S.Source.left c.args.source.now) (g.N.SessionNode.state c.args.node.now) (g.S.Source.left c.loop-node.source)
          (g.S.Source.left c.next_line.new.source) (g.N.SessionNode.state c.loop-node.node) (g.K.Sink.taken c.args.sink.now) (g.K.Sink.taken c.loop-node.sink)
          c.loop-node.reader c.next_line.new.self c.loop-node.number c.loop-node.invariant.so_far.2 c.in-End.ensures.next.0 c.in-End.ensures.next.1
          (omega (arith, c.in-End.ensures.within)),
    )

pub returns-in-LongLine-clause-session : goal.returns-in-LongLine-clause-session
returns-in-LongLine-clause-session g c =
    let so = c.loop-node.invariant.so_far in (
      so.0,
      None,
      trail_ends g.N.SessionNode.asked served.LongLine so.0 c.args.node.now c.loop-node.node (g.K.Sink.taken c.args.sink.now) (g.K.Sink.taken c.loop-node.sink) so.1,
      line_too_long so.0 (g.S.Source.left c.args.source.now) (g.N.SessionNode.state c.args.node.now) (g.S.Source.left c.loop-node.source)
          (g.S.Source.left c.next_line.new.source) (g.N.SessionNode.state c.loop-node.node) (g.K.Sink.taken c.args.sink.now) (g.K.Sink.taken c.loop-node.sink)
          c.loop-node.reader c.next_line.new.self c.loop-node.number c.loop-node.invariant.so_far.2 c.in-LongLine.ensures.next.0 c.in-LongLine.ensures.next.1
          c.in-LongLine.ensures.within,
    )

pub returns-in-LongInput-clause-session : goal.returns-in-LongInput-clause-session
returns-in-LongInput-clause-session g c =
    let so = c.loop-node.invariant.so_far in (
      so.0,
      None,
      trail_ends g.N.SessionNode.asked served.LongInput so.0 c.args.node.now c.loop-node.node (g.K.Sink.taken c.args.sink.now) (g.K.Sink.taken c.loop-node.sink) so.1,
      input_too_long so.0 (g.S.Source.left c.args.source.now) (g.N.SessionNode.state c.args.node.now) (g.S.Source.left c.loop-node.source)
          (g.S.Source.left c.next_line.new.source) (g.N.SessionNode.state c.loop-node.node) (g.K.Sink.taken c.args.sink.now) (g.K.Sink.taken c.loop-node.sink)
          c.loop-node.reader c.next_line.new.self c.loop-node.number c.loop-node.invariant.so_far.2 c.in-LongInput.ensures.next.0 c.in-LongInput.ensures.next.1,
    )

pub returns-in-ReadFault-clause-session : goal.returns-in-ReadFault-clause-session
returns-in-ReadFault-clause-session g c =
    let so = c.loop-node.invariant.so_far in (
      so.0,
      None,
      trail_ends g.N.SessionNode.asked served.ReadFault so.0 c.args.node.now c.loop-node.node (g.K.Sink.taken c.args.sink.now) (g.K.Sink.taken c.loop-node.sink) so.1,
      read_failed so.0 (g.S.Source.left c.args.source.now) (g.N.SessionNode.state c.args.node.now) (g.S.Source.left c.loop-node.source)
          (g.S.Source.left c.next_line.new.source) (g.N.SessionNode.state c.loop-node.node) (g.K.Sink.taken c.args.sink.now) (g.K.Sink.taken c.loop-node.sink)
          c.loop-node.reader c.next_line.new.self c.loop-node.number c.loop-node.invariant.so_far.2 c.in-ReadFault.ensures.next.0 c.in-ReadFault.ensures.next.1
          c.in-ReadFault.ensures.within,
    )

pub returns-in-OutOfMemory-clause-session : goal.returns-in-OutOfMemory-clause-session
returns-in-OutOfMemory-clause-session g c =
    let so = c.loop-node.invariant.so_far in (
      so.0,
      None,
      trail_ends g.N.SessionNode.asked served.OutOfMemory so.0 c.args.node.now c.loop-node.node (g.K.Sink.taken c.args.sink.now) (g.K.Sink.taken c.loop-node.sink) so.1,
      untaken so.0 (g.S.Source.left c.args.source.now) (g.N.SessionNode.state c.args.node.now) _
          (g.S.Source.left c.next_line.new.source) (g.N.SessionNode.state c.loop-node.node) (g.K.Sink.taken c.args.sink.now) (g.K.Sink.taken c.loop-node.sink)
          c.loop-node.reader.taken c.loop-node.number c.loop-node.invariant.so_far.2 c.loop-node.invariant.within,
    )
