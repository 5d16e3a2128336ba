use Rattle.std.proofs.Common.{ℕ, ◌≡◌, ◌≤◌, ◌+◌, ◌-◌, List, is_some}
use Rattle.journal_session.specs.Lines.{longest_input}
use Rattle.journal_session.specs.Reader.{to_come}
use Rattle.journal_session.proofs.SessionLaws.{SoFar}
use Rattle.journal_session.proofs.AskLaws.{AreAskedSo}
use Rattle.journal_session.proofs.serving.serve.Given as goal

-- the lines so far were answered, and nothing failed
abbrev pub invariant-loop-node : goal.invariant-loop-node
invariant-loop-node g l = record {
  so_far : (lines : List (List ℕ)) × AreAskedSo g.N.SessionNode.asked lines l.fn.node l.node (g.K.Sink.taken l.fn.sink) (g.K.Sink.taken l.sink)
      × SoFar lines (g.S.Source.left l.fn.source) (g.N.SessionNode.state l.fn.node) (to_come l.reader (g.S.Source.left l.source))
      (g.N.SessionNode.state l.node)
      (g.K.Sink.taken l.fn.sink) (g.K.Sink.taken l.sink) l.reader.taken l.number;
  within : l.reader.taken ≤ longest_input;
  number : l.number ≤ l.reader.taken + 1;
  read : g.S.Source.faults l.source ≡ g.S.Source.faults l.fn.source;
  wrote : g.K.Sink.faults l.sink ≡ g.K.Sink.faults l.fn.sink;
  handed : g.K.Sink.kept_back l.fn.sink ≡ 0 → g.K.Sink.kept_back l.sink ≡ 0;
  told : is_some (g.N.SessionNode.state l.node) ≡ is_some (g.N.SessionNode.state l.fn.node);
  later : g.N.SessionNode.faults l.fn.node ≤ g.N.SessionNode.faults l.node;
  steady : g.N.SessionNode.steady l.fn.node → g.N.SessionNode.steady l.node;
}

-- how many bytes the input may still have
abbrev pub decreases-loop-node : goal.decreases-loop-node
decreases-loop-node g l = longest_input - l.reader.taken
