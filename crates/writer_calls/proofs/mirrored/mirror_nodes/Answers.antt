use Rattle.std.proofs.Common.{List, [], map, sym, ap, ◌∙◌, subst}
use Rattle.std.specs.List.{flat_map}
use Rattle.journal_core.specs.declared.segment.Segment.{Segment}
use Rattle.writer_calls.specs.Logs.{MirroredBy}
use Rattle.writer_calls.specs.Mirrors.{lines_of, hold_lines}
use Rattle.writer_calls.specs.States.{finals_at, IsGivenBy}
use Rattle.writer_calls.proofs.HoldLaws.{mirror_lines, none_mirrored}
use Rattle.writer_calls.proofs.mirrored.mirror_nodes.Goals as goal

pub returns-clause-lines : goal.returns-clause-lines
returns-clause-lines g c =
    let peers = c.new-peers.result in
    c.in_ok-synced.ensures.lines
    ∙ ap (λ (gs : List Segment). hold_lines (lines_of gs) (lines_of (flat_map finals_at (map g.N.Node.state peers.nodes)))) c.new-mirror.ensures
    ∙ ap (λ ns. hold_lines [] (lines_of (flat_map finals_at (map g.N.Node.state ns)))) c.new-peers.ensures.nodes ∙ sym (mirror_lines (map g.N.Node.state c.args.nodes.items))

pub returns-clause-given : goal.returns-clause-given
returns-clause-given g c =
    let peers = c.new-peers.result in
    subst (λ ns. MirroredBy (IsGivenBy (map g.N.Node.state ns)) c.sync_steady.new.mirror) c.new-peers.ensures.nodes
    (c.in_ok-synced.ensures.given
    (subst (λ (gs : List Segment). MirroredBy (IsGivenBy (map g.N.Node.state peers.nodes)) gs) (sym c.new-mirror.ensures) (none_mirrored (IsGivenBy (map g.N.Node.state peers.nodes)))))
