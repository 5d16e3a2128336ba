-- The round under way, and a piece that is fetched in it.
use Rattle.std.specs.Prelude.{◌+◌, ◌-◌, ◌&&◌, ◌++◌, Bool, true, false, length, take, Result, Ok, Err}
use Rattle.journal_core.specs.Views.{BatchView}
use Rattle.journal_core.specs.declared.reply.Reply.TheVariants as reply
use Rattle.journal_core.specs.declared.heard.Heard.{Heard}
use Rattle.journal_core.specs.declared.heard.Heard.TheVariants.{Answer}
use Rattle.writer_core.specs.declared.round.Round.{Round}
use Rattle.writer_core.specs.declared.round.Round.TheVariants as round
use Rattle.writer_core.specs.declared.phase.Phase.{Phase}
use Rattle.writer_core.specs.declared.phase.Phase.TheVariants as phase
use Rattle.writer_core.specs.Views.{WriterView}
use Rattle.writer_core.specs.Answers.{fits_edits}
use Rattle.writer_core.specs.Rounds.{numbers_fit, next_serial, keep_piece, Judgment, keep_going, failure_of, after_fetch}

-- the round under way; the first one where none is
abbrev pub round_in : Phase → Round
round_in (phase.InRound r) = r
round_in _ = round.State

-- a round that asks one node for a piece
abbrev pub is_fetch : Round → Bool
is_fetch (round.Fetch node start end bodies) = true
is_fetch _ = false

abbrev pub fetched_in : Round → Heard → WriterView → Judgment
fetched_in (round.Fetch node start end bodies) heard w = after_fetch node start end bodies heard w
fetched_in _ heard w = keep_going w

-- a piece is kept, where it fits the round
abbrev pub piece_fits : Round → BatchView → WriterView → Bool
piece_fits (round.Fetch node start end bodies) batch w =
    numbers_fit w (round.Fetch node start end bodies) && fits_edits (start + length bodies) batch
piece_fits _ batch w = false

abbrev pub piece_kept : Round → BatchView → WriterView → Judgment
piece_kept (round.Fetch node start end bodies) batch w =
    keep_going (keep_piece node start end (bodies ++ take (end + 1 - (start + length bodies)) batch.bodies) (next_serial w))
piece_kept _ batch w = keep_going w

-- the edits of an answer to a fetch, or what is left of another answer
abbrev pub edits_heard : Heard → Result BatchView Heard
edits_heard (Answer (reply.Edits batch)) = Ok batch
edits_heard heard = Err (failure_of heard)
