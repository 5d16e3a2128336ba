use Rattle.qj_cli.proofs.ReportLaws.{comes}
use Rattle.qj_cli.proofs.plays.play_over.Goals as goal

pub returns-clause-comes : goal.returns-clause-comes
returns-clause-comes g c =
    comes c.args.script.now c.in_ok-left.left.played.mesh c.in_ok-left.left.played.ends (c.scripts_are_playable.ensures.lines c.args.script.now c.requires.script) c.in_ok-left.ensures.played
    c.a_play_agrees.ensures.script c.a_play_follows.ensures.script (record {
      run = c.epoch_order_is_a_run.ensures;
      safe = c.a_mesh_that_agrees_is_safe.ensures;
      named_safe = c.epoch_order_is_safe.ensures;
      parts = c.every_run_keeps_its_parts.ensures;
      results = c.edits_have_one_result.ensures;
      told = c.results_tell_acknowledged.ensures;
      names = c.names_are_kept.ensures;
    })
