-- computed
use Rattle.std.proofs.Common.{refl}
use Rattle.journal_core.specs.Segments.{find_segment, put_segment, remove_segment, newest}
use Rattle.journal_core.specs.Limits.{limit_of}
use Rattle.journal_core.specs.Effects.{after_effects}
use Rattle.journal_core.specs.Step.{node_step}
use Rattle.writer_core.specs.Best.{best_from, greatest_promise, greatest_newest}
use Rattle.writer_core.specs.Rounds.{judgment, after_fetch}
use Rattle.writer_core.specs.Writer.{log_limit, writer_begun, writer_heard}
use Rattle.writer_core.specs.Examples.{calls_made}
use Rattle.writer_core.proofs.examples.first_takeover.Goals as goal

pub returns : goal.returns
unfolding calls_made node_step limit_of after_effects find_segment put_segment remove_segment newest writer_heard writer_begun judgment after_fetch best_from greatest_promise greatest_newest log_limit
returns c = (refl, refl)
