use Rattle.qj_cli.proofs.ReportLaws.{sound}
use Rattle.qj_cli.proofs.plays.run_soundly.Goals as goal

pub returns : goal.returns
returns g c =
    sound c.args.script.now c.in_ok-played.played.mesh c.in_ok-played.played.ends (c.scripts_are_playable.ensures.lines c.args.script.now c.requires)
    c.in_ok-played.ensures.agrees c.in_ok-played.ensures.follows (record {
      run = c.epoch_order_is_a_run.ensures;
      safe = c.a_mesh_that_agrees_is_safe.ensures;
      named_safe = c.epoch_order_is_safe.ensures;
      parts = c.every_run_keeps_its_parts.ensures;
      results = c.edits_have_one_result.ensures;
      told = c.results_tell_acknowledged.ensures;
      names = c.names_are_kept.ensures;
    })
