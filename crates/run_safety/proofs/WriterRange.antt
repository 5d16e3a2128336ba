-- A writer of n nodes calls the nodes 1 to n.
use Rattle.std.proofs.Common.{◌≡◌, ℕ, suc, ◌+◌, ◌-◌, ◌<◌, ◌≤◌, List, [], ◌∷◌, ◌++◌, Bool, true, false, cond, refl, ◌∙◌, subst, arith, length, take, length-set, ◌⊎◌, inl, inr}
use Rattle.std.specs.Prelude.{Option, Some, None, ◌&&◌, nat_lt, position, option_map}
use Rattle.std.specs.List.{list_any}
use Rattle.std.proofs.lemmas.List.{length-map, length-replicate}
use Rattle.journal_core.specs.Views.{BatchView, last_txid}
use Rattle.journal_core.specs.Limits.{max_number}
use Rattle.journal_core.specs.declared.segment_info.SegmentInfo.{SegmentInfo}
use Rattle.journal_core.specs.declared.request.Request.{Request}
use Rattle.journal_core.specs.declared.reply.Reply.TheVariants as reply
use Rattle.journal_core.specs.declared.heard.Heard.{Heard}
use Rattle.journal_core.specs.declared.heard.Heard.TheVariants.{Answer, Silent}
use Rattle.writer_core.specs.declared.round.Round.{Round}
use Rattle.writer_core.specs.declared.round.Round.TheVariants as round
use Rattle.writer_core.specs.declared.phase.Phase.{Phase}
use Rattle.writer_core.specs.declared.phase.Phase.TheVariants as phase
use Rattle.writer_core.specs.declared.phase.Aim.{Aim}
use Rattle.writer_core.specs.declared.phase.Aim.TheVariants as aim
use Rattle.writer_core.specs.declared.slot.Slot.{Slot}
use Rattle.writer_core.specs.declared.slot.Slot.TheVariants.{Waiting}
use Rattle.writer_core.specs.declared.turn.Turn.TheVariants as turn
use Rattle.std.proofs.lemmas.List.Quantifiers.{position-Some}
use Rattle.writer_core.specs.declared.task.Task.{Task}
use Rattle.writer_core.specs.declared.task.Task.TheVariants as task
use Rattle.writer_core.specs.Views.{WriterView}
use Rattle.writer_core.specs.Answers.{is_waiting, has_majority, fits_edits}
use Rattle.writer_core.specs.Best.{Best, best_of, best_from, better, told_by, segment_in, outranks, greatest_promise, greatest_newest}
use Rattle.writer_core.specs.Rounds.{request_in, numbers_fit, keep_going, after_round, with_causes, judgment_by, judgment, without_answer_of}
use Rattle.writer_core.specs.Rounds.{after_fetch, after_propose, begin_recovery, after_finalize, after_open, after_write, after_edits, after_no_edits}
use Rattle.writer_core.specs.Rounds.{next_serial, left_out_after, none_left_out, to_all, to_others, begin_propose, stops_with, asks_all, batch_from}
use Rattle.writer_core.specs.Rounds.{end_record}
use Rattle.writer_core.specs.Writer.{new_writer, Began, writer_begun, log_begins, log_limit, is_writing, if_writing, next_call, call_in, node_in}
use Rattle.writer_core.specs.Writer.{with_answer, judgment_when, heard_in, heard_at, writer_heard}
pub use Rattle.run_safety.specs.Sized.{FetchesWithin, Sized}
use Rattle.writer_core.proofs.LiveLaws.{of_call}

-- ## The node that told the best answer
told_within : (node : ℕ) (o : Option SegmentInfo) (b : Best) → told_by node o ≡ Some b → b.node ≡ node
told_within node None b e = absurd (cc e)
told_within node (Some info) b e = cc e

better_by : (t : Bool) (a b x : Best) → cond t (Some b) (Some a) ≡ Some x → (Some a ≡ Some x) ⊎ (Some b ≡ Some x)
better_by true a b x e = inr e
better_by false a b x e = inl e

better_is : (o p : Option Best) (x : Best) → better o p ≡ Some x → (o ≡ Some x) ⊎ (p ≡ Some x)
better_is None p x e = inr e
better_is (Some a) None x e = inl e
better_is (Some a) (Some b) x e = better_by (outranks b.info a.info) a b x e

pub best_within : (start node : ℕ) (slots : List Slot) (b : Best) → best_from start node slots ≡ Some b → (node ≤ b.node) × (b.node < node + length slots)
unfolding best_from
best_within start node [] b e = absurd (cc e)
best_within start node (s ∷ slots) b e = go (better_is (told_by node (segment_in start s)) (best_from start (node + 1) slots) b e) (best_within start (node + 1) slots b)
  where
    go : (told_by node (segment_in start s) ≡ Some b) ⊎ (best_from start (node + 1) slots ≡ Some b)
        → (best_from start (node + 1) slots ≡ Some b → (node + 1 ≤ b.node) × (b.node < node + 1 + length slots)) → (node ≤ b.node) × (b.node < node + suc (length slots))
    go (inl f) more = let is : b.node ≡ node = told_within node (segment_in start s) b f in (omega (arith, is), omega (arith, is))
    go (inr f) more = (omega (arith, (more f).0), omega (arith, (more f).1))

-- ## What is asked of all nodes, or of the others
all_sized : (n : ℕ) (r : Round) (w : WriterView) → length w.left ≡ n → FetchesWithin n (phase.InRound r) → Sized n (record w { phase = phase.InRound r; slots = to_all w.left })
all_sized n r w e f = record { left = e; slots = length-map w.left _ ∙ e; fetch = f }

others_sized : (n : ℕ) (r : Round) (w : WriterView) → length w.left ≡ n → FetchesWithin n (phase.InRound r) → Sized n (record w { phase = phase.InRound r; slots = to_others w.left })
others_sized n r w e f = record { left = e; slots = length-map w.left _ ∙ e; fetch = f }

-- ## A round that was judged
state_by : (n : ℕ) (b : Bool) (told : ℕ) (w : WriterView) → Sized n w → Sized n (cond b (keep_going (begin_propose told w)) (stops_with (turn.EpochLimit told) w)).writer
state_by n true told w h = all_sized n round.Propose (record w { epoch = told + 1; serial = 0; committed = 0 }) h.left tt
state_by n false told w h = record { left = h.left; slots = h.slots; fetch = tt }

propose_sized : (n : ℕ) (o : Option ℕ) (w : WriterView) → Sized n w → Sized n (after_propose o w)
propose_sized n None w h = all_sized n round.Start (record w { start = 1 }) h.left tt
propose_sized n (Some start) w h = all_sized n (round.Prepare start) w h.left tt

recovering_sized : (n start : ℕ) (o : Option Best) (w : WriterView) → ((b : Best) → o ≡ Some b → (1 ≤ b.node) × (b.node ≤ n)) → Sized n w → Sized n (begin_recovery start o w)
recovering_sized n start None w f h = all_sized n round.Start (record w { committed = start - 1; start = start }) h.left tt
recovering_sized n start (Some b) w f h = record { left = h.left; slots = h.slots; fetch = f b refl }

best_fits : (n start : ℕ) (slots : List Slot) → length slots ≡ n → (b : Best) → best_of start slots ≡ Some b → (1 ≤ b.node) × (b.node ≤ n)
best_fits n start slots e b is = let h : (1 ≤ b.node) × (b.node < 1 + length slots) = best_within start 1 slots b is in (h.0, omega (arith, h.1, e))

finalize_sized : (n : ℕ) (a : Aim) (end : ℕ) (w : WriterView) → Sized n w → Sized n (after_finalize a end w).writer
finalize_sized n aim.Close end w h = record { left = h.left; slots = h.slots; fetch = tt }
finalize_sized n aim.Takeover end w h = all_sized n round.Start (record w { start = end + 1 }) h.left tt
finalize_sized n aim.Log end w h = all_sized n round.Start (record w { start = end + 1 }) h.left tt
finalize_sized n aim.Roll end w h = all_sized n round.Start (record w { start = end + 1 }) h.left tt
finalize_sized n aim.Purge end w h = all_sized n round.Start (record w { start = end + 1 }) h.left tt

open_sized : (n : ℕ) (a : Aim) (w : WriterView) → Sized n w → Sized n (after_open a w).writer
open_sized n aim.Close w h = record { left = h.left; slots = h.slots; fetch = tt }
open_sized n aim.Takeover w h = record { left = h.left; slots = h.slots; fetch = tt }
open_sized n aim.Log w h = record { left = h.left; slots = h.slots; fetch = tt }
open_sized n aim.Roll w h = record { left = h.left; slots = h.slots; fetch = tt }
open_sized n aim.Purge w h = record { left = h.left; slots = h.slots; fetch = tt }

write_sized : (n : ℕ) (a : Aim) (first last : ℕ) (w : WriterView) → Sized n w → Sized n (after_write a first last w).writer
write_sized n aim.Close first last w h = others_sized n (round.Finalize w.start last) w h.left tt
write_sized n aim.Roll first last w h = others_sized n (round.Finalize w.start last) w h.left tt
write_sized n aim.Takeover first last w h = record { left = h.left; slots = h.slots; fetch = tt }
write_sized n aim.Log first last w h = record { left = h.left; slots = h.slots; fetch = tt }
write_sized n aim.Purge first last w h = record { left = h.left; slots = h.slots; fetch = tt }

-- the nodes that are left out, anew
missed_sized : (n : ℕ) (r : Round) (w : WriterView) → Sized n w → length (left_out_after r w.slots) ≡ n
missed_sized n r w h = length-map w.slots _ ∙ h.slots

done_sized : (n : ℕ) (r : Round) (w : WriterView) → Sized n w → Sized n (after_round r w).writer
done_sized n round.State w h = state_by n (nat_lt (greatest_promise w.slots) max_number) (greatest_promise w.slots) w h
done_sized n round.Propose w h = propose_sized n (greatest_newest w.slots) (next_serial w) (record { left = h.left; slots = h.slots; fetch = h.fetch })
done_sized n (round.Prepare start) w h = recovering_sized n start (best_of start w.slots) (next_serial w) (best_fits n start w.slots h.slots)
    (record { left = h.left; slots = h.slots; fetch = h.fetch })
done_sized n (round.Fetch node start end bodies) w h = recovering_sized n start (best_of start w.slots) (next_serial w)
    (best_fits n start w.slots h.slots) (record { left = h.left; slots = h.slots; fetch = h.fetch })
done_sized n (round.Accept batch) w h = others_sized n (round.Finalize batch.first (last_txid batch)) (record (next_serial w) { committed = last_txid batch }) h.left tt
done_sized n (round.Finalize start end) w h = finalize_sized n w.aim end (next_serial w) (record { left = h.left; slots = h.slots; fetch = h.fetch })
done_sized n round.Start w h = others_sized n round.Open (record (next_serial w) { left = left_out_after round.Start w.slots }) (missed_sized n round.Start w h) tt
done_sized n round.Open w h = open_sized n w.aim (record (next_serial w) {
  committed = w.start;
  next = w.start + 1;
  left = left_out_after round.Open w.slots;
}) (record { left = missed_sized n round.Open w h; slots = h.slots; fetch = h.fetch })
done_sized n (round.Write bodies) w h =
    let last : ℕ = w.next + length bodies - 1 in
    write_sized n w.aim w.next last (record (next_serial w) { committed = last; next = last + 1; left = left_out_after (round.Write bodies) w.slots })
    (record { left = missed_sized n (round.Write bodies) w h; slots = h.slots; fetch = h.fetch })
done_sized n (round.Purge min) w h = record { left = h.left; slots = h.slots; fetch = tt }

judged_sized : (n : ℕ) (b : Bool) (r : Round) (w : WriterView) → Sized n w → Sized n (judgment_by b r w).writer
judged_sized n true r w h = done_sized n r (with_causes r w) (record { left = h.left; slots = h.slots; fetch = h.fetch })
judged_sized n false r w h = record { left = h.left; slots = h.slots; fetch = tt }

round_sized : (n : ℕ) (b : Bool) (r : Round) (w : WriterView) → Sized n w → Sized n (judgment_when b r w).writer
unfolding judgment
round_sized n true r w h = h
round_sized n false r w h = judged_sized n (numbers_fit w r && has_majority r w.slots) r w h

-- ## A piece that was fetched
out_sized : (n : ℕ) (node : ℕ) (heard : Heard) (w : WriterView) → Sized n w → Sized n (without_answer_of node heard w)
out_sized n node heard w h = record { left = h.left; slots = length-set w.slots (node - 1) _ ∙ h.slots; fetch = h.fetch }

pieced_by : (n : ℕ) (b : Bool) (node start end : ℕ) (bodies : List (List ℕ)) (w : WriterView) → (1 ≤ node) × (node ≤ n) → Sized n w
    → Sized n (cond b (asks_all (round.Accept (batch_from start bodies)) w) (record w { phase = phase.InRound (round.Fetch node start end bodies) }))
pieced_by n true node start end bodies w f h = all_sized n (round.Accept (batch_from start bodies)) w h.left tt
pieced_by n false node start end bodies w f h = record { left = h.left; slots = h.slots; fetch = f }

edits_sized : (n : ℕ) (b : Bool) (node start end : ℕ) (bodies : List (List ℕ)) (batch : BatchView) (w : WriterView) → (1 ≤ node) × (node ≤ n) → Sized n w
    → Sized n (after_edits b node start end bodies batch w).writer
edits_sized n true node start end bodies batch w f h =
    pieced_by n (nat_lt end (start + length (bodies ++ take (end + 1 - (start + length bodies)) batch.bodies))) node start end
    (bodies ++ take (end + 1 - (start + length bodies)) batch.bodies) (next_serial w) f
    (record { left = h.left; slots = h.slots; fetch = h.fetch })
edits_sized n false node start end bodies batch w f h =
    judged_sized n (has_majority (round.Prepare start) (without_answer_of node Silent w).slots) (round.Prepare start) (without_answer_of node Silent w) (out_sized n node Silent w h)

missing_sized : (n node start : ℕ) (heard : Heard) (w : WriterView) → Sized n w → Sized n (after_no_edits node start heard w).writer
missing_sized n node start heard w h =
    judged_sized n (has_majority (round.Prepare start) (without_answer_of node heard w).slots) (round.Prepare start) (without_answer_of node heard w) (out_sized n node heard w h)

fetched_sized : (n node start end : ℕ) (bodies : List (List ℕ)) (heard : Heard) (w : WriterView) → (1 ≤ node) × (node ≤ n) → Sized n w → Sized n (after_fetch node start end bodies heard w).writer
unfolding after_fetch
fetched_sized n node start end bodies (Answer (reply.Edits batch)) w f h =
    edits_sized n (numbers_fit w (round.Fetch node start end bodies) && fits_edits (start + length bodies) batch) node start end bodies batch w f h
fetched_sized n node start end bodies (Answer reply.Ok) w f h = missing_sized n node start (Answer reply.Ok) w h
fetched_sized n node start end bodies (Answer (reply.State promised)) w f h = missing_sized n node start (Answer (reply.State promised)) w h
fetched_sized n node start end bodies (Answer (reply.NewEpoch newest)) w f h = missing_sized n node start (Answer (reply.NewEpoch newest)) w h
fetched_sized n node start end bodies (Answer (reply.Prepared writer committed segment)) w f h = missing_sized n node start (Answer (reply.Prepared writer committed segment)) w h
fetched_sized n node start end bodies (Answer (reply.Segments lines)) w f h = missing_sized n node start (Answer (reply.Segments lines)) w h
fetched_sized n node start end bodies (Answer (reply.Refused refusal)) w f h = missing_sized n node start (Answer (reply.Refused refusal)) w h
fetched_sized n node start end bodies Silent w f h = missing_sized n node start Silent w h

-- ## An answer
with_sized : (n node : ℕ) (heard : Heard) (w : WriterView) → Sized n w → Sized n (with_answer w node heard)
with_sized n node heard w h = record { left = h.left; slots = length-set w.slots (node - 1) _ ∙ h.slots; fetch = h.fetch }

in_sized : (n : ℕ) (r : Round) (w : WriterView) (node : ℕ) (heard : Heard) → FetchesWithin n (phase.InRound r) → Sized n w → Sized n (heard_in r w node heard).writer
in_sized n (round.Fetch from start end bodies) w node heard f h = fetched_sized n from start end bodies heard w f h
in_sized n round.State w node heard f h = round_sized n (list_any is_waiting (with_answer w node heard).slots) round.State (with_answer w node heard) (with_sized n node heard w h)
in_sized n round.Propose w node heard f h = round_sized n (list_any is_waiting (with_answer w node heard).slots) round.Propose (with_answer w node heard) (with_sized n node heard w h)
in_sized n (round.Prepare start) w node heard f h = round_sized n (list_any is_waiting (with_answer w node heard).slots) (round.Prepare start) (with_answer w node heard) (with_sized n node heard w h)
in_sized n (round.Accept batch) w node heard f h = round_sized n (list_any is_waiting (with_answer w node heard).slots) (round.Accept batch) (with_answer w node heard) (with_sized n node heard w h)
in_sized n (round.Finalize start end) w node heard f h = round_sized n (list_any is_waiting (with_answer w node heard).slots)
    (round.Finalize start end) (with_answer w node heard) (with_sized n node heard w h)
in_sized n round.Start w node heard f h = round_sized n (list_any is_waiting (with_answer w node heard).slots) round.Start (with_answer w node heard) (with_sized n node heard w h)
in_sized n round.Open w node heard f h = round_sized n (list_any is_waiting (with_answer w node heard).slots) round.Open (with_answer w node heard) (with_sized n node heard w h)
in_sized n (round.Write bodies) w node heard f h = round_sized n (list_any is_waiting (with_answer w node heard).slots) (round.Write bodies) (with_answer w node heard) (with_sized n node heard w h)
in_sized n (round.Purge min) w node heard f h = round_sized n (list_any is_waiting (with_answer w node heard).slots) (round.Purge min) (with_answer w node heard) (with_sized n node heard w h)

at_sized : (n : ℕ) (p : Phase) (w : WriterView) (node : ℕ) (heard : Heard) → FetchesWithin n p → Sized n w → Sized n (heard_at p w node heard).writer
at_sized n (phase.InRound r) w node heard f h = in_sized n r w node heard f h
at_sized n phase.Idle w node heard f h = h
at_sized n phase.Writing w node heard f h = h
at_sized n phase.Stopped w node heard f h = h

pub heard_sized : (n : ℕ) (w : WriterView) (node : ℕ) (heard : Heard) → Sized n w → Sized n (writer_heard w node heard).writer
unfolding writer_heard
heard_sized n w node heard h = at_sized n w.phase w node heard h.fetch h

-- ## A task
log_sized : (n : ℕ) (o : Option ℕ) (bodies : List (List ℕ)) (w : WriterView) → Sized n w → Sized n (log_begins o bodies w).writer
log_sized n (Some number) bodies w h = h
log_sized n None bodies w h = others_sized n (round.Write bodies) (record w { aim = aim.Log }) h.left tt

if_sized : (n : ℕ) (b : Bool) (x : Began) (w : WriterView) → Sized n x.writer → Sized n w → Sized n (if_writing b x w).writer
if_sized n true x w g h = g
if_sized n false x w g h = h

pub begun_sized : (n : ℕ) (w : WriterView) (t : Task) → Sized n w → Sized n (writer_begun w t).writer
unfolding writer_begun
begun_sized n w task.Takeover h = all_sized n round.State (record w { aim = aim.Takeover; left = none_left_out w.left }) (length-map w.left _ ∙ h.left) tt
begun_sized n w (task.Log bodies) h = if_sized n (is_writing w.phase) (log_begins (log_limit w bodies) bodies w) w (log_sized n (log_limit w bodies) bodies w h) h
begun_sized n w task.Roll h = if_sized n (is_writing w.phase) _ w (others_sized n (round.Write end_record) (record w { aim = aim.Roll }) h.left tt) h
begun_sized n w task.Close h = if_sized n (is_writing w.phase) _ w (others_sized n (round.Write end_record) (record w { aim = aim.Close }) h.left tt) h
begun_sized n w (task.Purge min) h = if_sized n (is_writing w.phase) _ w (all_sized n (round.Purge min) (record w { aim = aim.Purge }) h.left tt) h

pub new_sized : (n : ℕ) → Sized n (new_writer n)
new_sized n = record { left = length-replicate n false; slots = length-replicate n _; fetch = tt }

-- ## Its next call
waits_within : (n k : ℕ) (slots : List Slot) → length slots ≡ n → option_map (λ i. i + 1) (position is_waiting slots) ≡ Some k → (1 ≤ k) × (k ≤ n)
waits_within n k slots e h = go (position is_waiting slots) refl h
  where
    go : (o : Option ℕ) → position is_waiting slots ≡ o → option_map (λ i. i + 1) o ≡ Some k → (1 ≤ k) × (k ≤ n)
    go None is f = absurd (cc f)
    go (Some i) is f =
        let below : i < length slots = (position-Some is_waiting slots i Waiting is).0 in
        let same : i + 1 ≡ k = cc f in
        (omega (arith, same), omega (arith, same, below, e))

node_within : (n k : ℕ) (r : Round) (slots : List Slot) → FetchesWithin n (phase.InRound r) → length slots ≡ n → node_in r slots ≡ Some k → (1 ≤ k) × (k ≤ n)
node_within n k (round.Fetch node start end bodies) slots f e h = let same : node ≡ k = cc h in subst (λ (x : ℕ). (1 ≤ x) × (x ≤ n)) same f
node_within n k round.State slots f e h = waits_within n k slots e h
node_within n k round.Propose slots f e h = waits_within n k slots e h
node_within n k (round.Prepare start) slots f e h = waits_within n k slots e h
node_within n k (round.Accept batch) slots f e h = waits_within n k slots e h
node_within n k (round.Finalize start end) slots f e h = waits_within n k slots e h
node_within n k round.Start slots f e h = waits_within n k slots e h
node_within n k round.Open slots f e h = waits_within n k slots e h
node_within n k (round.Write bodies) slots f e h = waits_within n k slots e h
node_within n k (round.Purge min) slots f e h = waits_within n k slots e h

at_within : (n : ℕ) (p : Phase) (w : WriterView) (k : ℕ) (q : Request) → FetchesWithin n p → Sized n w → call_in p w ≡ Some (k, q) → (1 ≤ k) × (k ≤ n)
at_within n (phase.InRound r) w k q f h e = node_within n k r w.slots f h.slots (of_call (request_in w r) (node_in r w.slots) k q e)
at_within n phase.Idle w k q f h e = absurd (cc e)
at_within n phase.Writing w k q f h e = absurd (cc e)
at_within n phase.Stopped w k q f h e = absurd (cc e)

pub call_within : (n : ℕ) (w : WriterView) (k : ℕ) (q : Request) → Sized n w → next_call w ≡ Some (k, q) → (1 ≤ k) × (k ≤ n)
call_within n w k q h e = at_within n w.phase w k q h.fetch h e
