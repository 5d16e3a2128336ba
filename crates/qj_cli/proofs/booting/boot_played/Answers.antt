use Rattle.std.proofs.Common.{List, subst}
use Rattle.std.specs.List.{All}
use Rattle.journal_core.specs.Segments.{AreSound}
use Rattle.journal_core.specs.declared.node_state.NodeState.{NodeState}
use Rattle.qj_cli.proofs.BootDueLaws.{some_nodes, some_held, boots_play, comes_so}
use Rattle.qj_cli.proofs.MirrorLaws.{agreed, nodes_told}
use Rattle.qj_cli.proofs.booting.boot_played.Goals as goal

pub boot_nodes-booted-requires-clause-told : goal.boot_nodes-booted-requires-clause-told
boot_nodes-booted-requires-clause-told c =
    let played = c.in_ok-left.left.played in
    let was = c.in_ok-left.ensures in
    nodes_told c.finals_are_on_line.ensures played.mesh (agreed c.args.script.now played.mesh played.ends was.comes) played.nodes.items was.states
    (subst (λ (ss : List NodeState). All (λ s. AreSound s.segments) ss) c.deref.ensures.value c.know_segments.ensures)

pub boot_nodes-booted-requires-clause-some : goal.boot_nodes-booted-requires-clause-some
boot_nodes-booted-requires-clause-some c =
    let left = c.in_ok-left.left in
    let was = c.in_ok-left.ensures in
    let script = c.args.script.now in
    some_nodes _ left.played.nodes.items script left.played.mesh left.played.ends (c.scripts_are_playable.ensures.lines script c.requires.script) was.comes was.states

pub boot_nodes-booted-requires-clause-images : goal.boot_nodes-booted-requires-clause-images
boot_nodes-booted-requires-clause-images c =
    let left = c.in_ok-left.left in
    let was = c.in_ok-left.ensures in
    let script = c.args.script.now in
    let playable = c.scripts_are_playable.ensures.lines script c.requires.script in
    some_held c.one_script_has_one_play.ensures c.images_are_left.ensures c.end_reads_are_on_line.ensures c.line_replays.ensures script left.played.mesh left.played.ends left.images.items
    c.first_images-from.result playable c.requires.named was.comes was.images c.first_images-from.ensures

pub returns-clause-boots : goal.returns-clause-boots
returns-clause-boots c =
    let left = c.in_ok-left.left in
    let was = c.in_ok-left.ensures in
    let script = c.args.script.now in
    let playable = c.scripts_are_playable.ensures.lines script c.requires.script in
    boots_play c.one_script_has_one_play.ensures c.images_are_left.ensures c.end_reads_are_on_line.ensures c.line_replays.ensures script left.played.mesh left.played.ends left.images.items
    c.first_images-from.result playable c.requires.named was.comes was.images c.first_images-from.ensures _ c.boot_nodes-booted.result was.states c.boot_nodes-booted.ensures

pub returns-clause-may : goal.returns-clause-may
returns-clause-may c =
    let left = c.in_ok-left.left in
    let was = c.in_ok-left.ensures in
    let script = c.args.script.now in
    let playable = c.scripts_are_playable.ensures.lines script c.requires.script in
    comes_so c.one_script_has_one_play.ensures c.images_are_left.ensures c.end_reads_are_on_line.ensures c.line_replays.ensures script left.played.mesh left.played.ends left.images.items
    c.first_images-from.result playable c.requires.named was.comes was.images c.first_images-from.ensures _ c.boot_nodes-booted.result was.states c.boot_nodes-booted.ensures
