use Rattle.std.proofs.Common.{◌≡◌, [], map, ◌∙◌}
use Rattle.std.specs.List.{flat_map}
use Rattle.std.proofs.lemmas.Result.{IfOk-weaker}
use Rattle.writer_calls.specs.declared.synced.Synced.{Synced}
use Rattle.writer_calls.specs.Logs.{MirroredBy}
use Rattle.writer_calls.specs.Mirrors.{lines_of, hold_lines}
use Rattle.writer_calls.specs.States.{finals_at, told_at, IsGivenBy}
use Rattle.writer_calls.proofs.SteadyLaws.{SyncsSteadily, steadily, on_ok_of, told_map}
use Rattle.writer_calls.proofs.mirrored.sync_steady.Goals as goal

pub returns-clause-heard : goal.returns-clause-heard
returns-clause-heard g c =
    let before = c.args.peers.now in
    let after = c.sync.new.peers in
    let states = map g.N.Node.state before.nodes in
    IfOk-weaker c.sync.result (λ (s : Synced). SyncsSteadily states c.args.mirror.now c.sync.new.self s (map g.N.Node.state after.nodes))
    (λ (s : Synced). s.heard.items ≡ map (λ n. told_at (g.N.Node.state n)) before.nodes)
    (λ s h. h.heard ∙ told_map g.N.Node.state before.nodes)
    (steadily g.N.Node.state g.N.Node.steady before after c.args.mirror.now c.sync.new.self c.sync.result c.requires.steady c.requires.told c.sync.ensures.called c.sync.ensures.synced)

pub returns-clause-missing : goal.returns-clause-missing
returns-clause-missing g c =
    let before = c.args.peers.now in
    let after = c.sync.new.peers in
    let states = map g.N.Node.state before.nodes in
    IfOk-weaker c.sync.result (λ (s : Synced). SyncsSteadily states c.args.mirror.now c.sync.new.self s (map g.N.Node.state after.nodes)) (λ (s : Synced). s.missing.items ≡ [])
    (λ s h. h.missing)
    (steadily g.N.Node.state g.N.Node.steady before after c.args.mirror.now c.sync.new.self c.sync.result c.requires.steady c.requires.told c.sync.ensures.called c.sync.ensures.synced)

pub returns-clause-lines : goal.returns-clause-lines
returns-clause-lines g c =
    let before = c.args.peers.now in
    let after = c.sync.new.peers in
    let states = map g.N.Node.state before.nodes in
    on_ok_of (λ (s : Synced). SyncsSteadily states c.args.mirror.now c.sync.new.self s (map g.N.Node.state after.nodes))
    (lines_of c.sync.new.self ≡ hold_lines (lines_of c.args.mirror.now) (lines_of (flat_map finals_at states))) c.sync.result (λ s h. h.lines)
    (steadily g.N.Node.state g.N.Node.steady before after c.args.mirror.now c.sync.new.self c.sync.result c.requires.steady c.requires.told c.sync.ensures.called c.sync.ensures.synced)

pub returns-clause-given : goal.returns-clause-given
returns-clause-given g c =
    let before = c.args.peers.now in
    let after = c.sync.new.peers in
    let states = map g.N.Node.state before.nodes in
    on_ok_of (λ (s : Synced). SyncsSteadily states c.args.mirror.now c.sync.new.self s (map g.N.Node.state after.nodes))
    (MirroredBy (IsGivenBy states) c.args.mirror.now → MirroredBy (IsGivenBy states) c.sync.new.self) c.sync.result (λ s h. h.given)
    (steadily g.N.Node.state g.N.Node.steady before after c.args.mirror.now c.sync.new.self c.sync.result c.requires.steady c.requires.told c.sync.ensures.called c.sync.ensures.synced)

pub returns-clause-states : goal.returns-clause-states
returns-clause-states g c =
    let before = c.args.peers.now in
    let after = c.sync.new.peers in
    let states = map g.N.Node.state before.nodes in
    on_ok_of (λ (s : Synced). SyncsSteadily states c.args.mirror.now c.sync.new.self s (map g.N.Node.state after.nodes)) (map g.N.Node.state after.nodes ≡ states) c.sync.result (λ s h. h.same)
    (steadily g.N.Node.state g.N.Node.steady before after c.args.mirror.now c.sync.new.self c.sync.result c.requires.steady c.requires.told c.sync.ensures.called c.sync.ensures.synced)
