use Rattle.play_pipes.specs.Relay.{source_of}
use Rattle.play_pipes.proofs.queues.open_queues.Given as goal

abbrev pub ghosts-open_answers : goal.ghosts-open_answers
ghosts-open_answers a = record { source = source_of a.asks.now.table.shared.table_id }
