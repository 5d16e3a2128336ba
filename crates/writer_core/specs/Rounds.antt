-- The table of rounds: what each asks, whom it asks, and what follows when it was heard whole.
use Rattle.std.specs.Prelude.{ℕ, ◌+◌, ◌-◌, ◌&&◌, List, [], ◌∷◌, ◌++◌, Option, Some, None, Bool, true, false, not, nat_lt, if◌then◌else◌, length, map, take, slice_set}
use Rattle.std.specs.List.{list_all}
use Rattle.journal_core.specs.Views.{HeadView, BatchView, last_txid}
use Rattle.journal_core.specs.Limits.{numbers_of, max_number}
use Rattle.journal_core.specs.declared.request.Request.{Request}
use Rattle.journal_core.specs.declared.request.Request.TheVariants as request
use Rattle.journal_core.specs.declared.reply.Reply.TheVariants as reply
use Rattle.journal_core.specs.declared.heard.Heard.{Heard}
use Rattle.journal_core.specs.declared.heard.Heard.TheVariants.{Answer, Silent}
use Rattle.writer_core.specs.declared.round.Round.{Round}
use Rattle.writer_core.specs.declared.round.Round.TheVariants as round
use Rattle.writer_core.specs.declared.phase.Phase.{Phase}
use Rattle.writer_core.specs.declared.phase.Phase.TheVariants as phase
use Rattle.writer_core.specs.declared.phase.Aim.{Aim}
use Rattle.writer_core.specs.declared.phase.Aim.TheVariants as aim
use Rattle.writer_core.specs.declared.slot.Slot.{Slot}
use Rattle.writer_core.specs.declared.slot.Slot.TheVariants.{Waiting, LeftOut, Told}
use Rattle.writer_core.specs.declared.turn.Turn.{Turn}
use Rattle.writer_core.specs.declared.turn.Turn.TheVariants as turn
use Rattle.writer_core.specs.declared.turn.Outcome.{Outcome}
use Rattle.writer_core.specs.declared.turn.Outcome.TheVariants as outcome
use Rattle.writer_core.specs.Views.{WriterView}
use Rattle.writer_core.specs.Answers.{fits, fits_edits, is_ok, has_majority, cause_of}
use Rattle.writer_core.specs.Best.{Best, best_of, greatest_promise, greatest_newest}

-- ## What a round asks
-- the records that begin and end a segment: OP_START_LOG_SEGMENT and OP_END_LOG_SEGMENT
abbrev pub start_record : List (List ℕ)
start_record = (24 ∷ []) ∷ []

abbrev pub end_record : List (List ℕ)
end_record = (23 ∷ []) ∷ []

abbrev pub head_now : WriterView → HeadView
head_now w = record { epoch = w.epoch; serial = w.serial; committed = w.committed }

abbrev pub batch_from : ℕ → List (List ℕ) → BatchView
batch_from first bodies = record { first = first; bodies = bodies }

abbrev pub request_in : WriterView → Round → Request
request_in w round.State = request.State
request_in w round.Propose = request.NewEpoch w.epoch
request_in w (round.Prepare start) = request.Prepare (head_now w) start
request_in w (round.Fetch node start end bodies) = request.Fetch (head_now w) start (start + length bodies)
request_in w (round.Accept batch) = request.Accept (head_now w) batch
request_in w (round.Finalize start end) = request.Finalize (head_now w) start end
request_in w round.Start = request.Start (head_now w) w.start
request_in w round.Open = request.Journal (head_now w) w.start (batch_from w.start start_record)
request_in w (round.Write bodies) = request.Journal (head_now w) w.start (batch_from w.next bodies)
request_in w (round.Purge min) = request.Purge (head_now w) min

-- no number of the request is out of range
abbrev pub numbers_fit : WriterView → Round → Bool
numbers_fit w r = list_all fits (numbers_of (request_in w r))

-- ## Whom it asks: all nodes, or those that aren't left out
abbrev pub to_all : List Bool → List Slot
to_all left = map (λ l. Waiting) left

abbrev pub to_others : List Bool → List Slot
to_others left = map (λ l. if l then LeftOut else Waiting) left

abbrev pub none_left_out : List Bool → List Bool
none_left_out left = map (λ l. false) left

-- the nodes whose answer isn't of the Ok kind are left out from now on
abbrev pub left_out_after : Round → List Slot → List Bool
left_out_after r slots = map (λ slot. not (is_ok r slot)) slots

abbrev pub asks_all : Round → WriterView → WriterView
asks_all r w = record w { phase = phase.InRound r; slots = to_all w.left }

abbrev pub asks_others : Round → WriterView → WriterView
asks_others r w = record w { phase = phase.InRound r; slots = to_others w.left }

-- a fetch asks one node, and the prepare answers stay
abbrev pub begin_fetch : ℕ → Best → List (List ℕ) → WriterView → WriterView
begin_fetch start best bodies w = record w { phase = phase.InRound (round.Fetch best.node start best.info.end bodies) }

-- each round with a head has a serial of its own
abbrev pub next_serial : WriterView → WriterView
next_serial w = record w { serial = w.serial + 1 }

-- ## What follows a round that was done
pub record Judgment : Type 0 where
  pub writer : WriterView
  pub turn : Turn

abbrev pub keep_going : WriterView → Judgment
keep_going w = record { writer = w; turn = turn.Going }

abbrev pub ends_with : Phase → Outcome → WriterView → Judgment
ends_with p o w = record { writer = record w { phase = p }; turn = turn.Done o }

abbrev pub stops_with : Turn → WriterView → Judgment
stops_with t w = record { writer = record w { phase = phase.Stopped }; turn = t }

abbrev pub begin_propose : ℕ → WriterView → WriterView
begin_propose told w = asks_all round.Propose (record w { epoch = told + 1; serial = 0; committed = 0 })

abbrev pub after_state : ℕ → WriterView → Judgment
after_state told w = if nat_lt told max_number then keep_going (begin_propose told w) else stops_with (turn.EpochLimit told) w

abbrev pub begin_start : ℕ → WriterView → WriterView
begin_start start w = asks_all round.Start (record w { start = start })

abbrev pub after_propose : Option ℕ → WriterView → WriterView
after_propose None w = begin_start 1 w
after_propose (Some start) w = asks_all (round.Prepare start) w

-- the best of the prepare answers: its edits are fetched; where none has the segment, the writer
-- starts there
abbrev pub begin_recovery : ℕ → Option Best → WriterView → WriterView
begin_recovery start None w = begin_start start (record w { committed = start - 1 })
begin_recovery start (Some best) w = begin_fetch start best [] w

abbrev pub after_accept : BatchView → WriterView → WriterView
after_accept batch w = asks_others (round.Finalize batch.first (last_txid batch)) (record w { committed = last_txid batch })

abbrev pub after_finalize : Aim → ℕ → WriterView → Judgment
after_finalize aim.Close end w = ends_with phase.Idle (outcome.Close end) w
after_finalize _ end w = keep_going (begin_start (end + 1) w)

abbrev pub after_open : Aim → WriterView → Judgment
after_open aim.Roll w = ends_with phase.Writing (outcome.Roll w.start) w
after_open _ w = ends_with phase.Writing (outcome.Takeover w.epoch w.start) w

abbrev pub after_write : Aim → ℕ → ℕ → WriterView → Judgment
after_write aim.Roll first last w = keep_going (asks_others (round.Finalize w.start last) w)
after_write aim.Close first last w = keep_going (asks_others (round.Finalize w.start last) w)
after_write _ first last w = ends_with phase.Writing (outcome.Log first last) w

abbrev pub after_round : Round → WriterView → Judgment
after_round round.State w = after_state (greatest_promise w.slots) w
after_round round.Propose w = keep_going (after_propose (greatest_newest w.slots) (next_serial w))
after_round (round.Prepare start) w = keep_going (begin_recovery start (best_of start w.slots) (next_serial w))
after_round (round.Fetch node start end bodies) w = keep_going (begin_recovery start (best_of start w.slots) (next_serial w))
after_round (round.Accept batch) w = keep_going (after_accept batch (next_serial w))
after_round (round.Finalize start end) w = after_finalize w.aim end (next_serial w)
after_round round.Start w = keep_going (asks_others round.Open (record (next_serial w) { left = left_out_after round.Start w.slots }))
after_round round.Open w = after_open w.aim (record (next_serial w) { committed = w.start; next = w.start + 1; left = left_out_after round.Open w.slots })
after_round (round.Write bodies) w =
    let last = w.next + length bodies - 1 in
    after_write w.aim w.next last (record (next_serial w) { committed = last; next = last + 1; left = left_out_after (round.Write bodies) w.slots })
after_round (round.Purge min) w = ends_with phase.Writing outcome.Purge (next_serial w)

-- ## A round that was heard whole
abbrev pub with_causes : Round → WriterView → WriterView
with_causes r w = record w { causes = map (cause_of (numbers_fit w r) r) w.slots }

-- done where a majority answered with the Ok kind, and aborted otherwise
abbrev pub judgment_by : Bool → Round → WriterView → Judgment
judgment_by true r w = after_round r (with_causes r w)
judgment_by false r w = stops_with turn.Aborted (with_causes r w)

unfoldable pub judgment : Round → WriterView → Judgment
judgment r w = judgment_by (numbers_fit w r && has_majority r w.slots) r w

-- ## A piece that was fetched
-- what a node's part is once its fetch failed: out of the count, with what was heard as its cause
abbrev pub failure_of : Heard → Heard
failure_of (Answer (reply.Refused refusal)) = Answer (reply.Refused refusal)
failure_of _ = Silent

abbrev pub without_answer_of : ℕ → Heard → WriterView → WriterView
without_answer_of node heard w = record w { slots = slice_set w.slots (node - 1) (Told (failure_of heard)) }

-- the pieces so far: they go on until the told end is reached
abbrev pub keep_piece : ℕ → ℕ → ℕ → List (List ℕ) → WriterView → WriterView
keep_piece node start end bodies w =
    if nat_lt end (start + length bodies) then asks_all (round.Accept (batch_from start bodies)) w
    else record w { phase = phase.InRound (round.Fetch node start end bodies) }

-- Edits that fit go after the pieces, but for those past the told end. Anything else takes the node
-- out of the count, and its pieces are dropped.
abbrev pub after_edits : Bool → ℕ → ℕ → ℕ → List (List ℕ) → BatchView → WriterView → Judgment
after_edits true node start end bodies batch w =
    keep_going (keep_piece node start end (bodies ++ take (end + 1 - (start + length bodies)) batch.bodies) (next_serial w))
after_edits false node start end bodies batch w = judgment_by (has_majority (round.Prepare start) (without_answer_of node Silent w).slots) (round.Prepare start) (without_answer_of node Silent w)

abbrev pub after_no_edits : ℕ → ℕ → Heard → WriterView → Judgment
after_no_edits node start heard w = judgment_by (has_majority (round.Prepare start) (without_answer_of node heard w).slots) (round.Prepare start) (without_answer_of node heard w)

unfoldable pub after_fetch : ℕ → ℕ → ℕ → List (List ℕ) → Heard → WriterView → Judgment
after_fetch node start end bodies (Answer (reply.Edits batch)) w =
    after_edits (numbers_fit w (round.Fetch node start end bodies) && fits_edits (start + length bodies) batch) node start end bodies batch w
after_fetch node start end bodies heard w = after_no_edits node start heard w
