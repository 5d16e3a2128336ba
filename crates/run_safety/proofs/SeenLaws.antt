-- The rounds of a takeover as the proofs see them: each with the numbers that it asks for or
-- writes.
use Rattle.std.proofs.Common.{◌≡◌, ℕ, ◌+◌, Bool, true, false, List, length, Option, Some, None, refl, sym, ap, ◌∙◌, if◌then◌else◌}
use Rattle.std.specs.Prelude.{option_map}
use Rattle.std.specs.List.{list_all}
use Rattle.std.proofs.lemmas.Bool.{cond_both, cond-true}
use Rattle.journal_core.specs.Views.{BatchView}
use Rattle.journal_core.specs.declared.request.Request.{Request}
use Rattle.journal_core.specs.declared.request.Request.TheVariants.{State, NewEpoch, Start, Journal, Finalize, Prepare, Fetch, Accept, Purge}
use Rattle.journal_core.specs.declared.reply.Reply.{Reply}
use Rattle.journal_core.specs.declared.reply.Reply.TheVariants.{Edits}
use Rattle.writer_core.specs.declared.round.Round.{Round as TableRound}
use Rattle.writer_core.specs.declared.round.Round.TheVariants as table
use Rattle.writer_core.specs.Views.{WriterView}
use Rattle.writer_core.specs.Answers.{fits_propose, fits_prepare, is_done_reply}
use Rattle.writer_core.specs.Rounds.{start_record, batch_from, request_in}
use Rattle.writer_core.specs.Whole.{Takeover, TaskProgress, writer_at, request_of_round as asked_underway}
use Rattle.run_safety.specs.Run.{may_follow}
use Rattle.run_safety.proofs.Slots.{none≢some, some_same}

pub data Round : Type 0 where
  Propose : Round
  Ask : (start : ℕ) → Round
  Get : (node start end : ℕ) (bodies : List (List ℕ)) → Round
  Recover : (batch : BatchView) → Round
  Finalizing : (start end : ℕ) → Round
  Open : (start : ℕ) → Round
  Write : (start : ℕ) (batch : BatchView) → Round
  Clean : (min : ℕ) → Round
  Other : Round

-- a writer in a round. `next` is the txid after the last one that was sent in the segment
pub record Writer : Type 0 where
  pub round : Round
  pub committed : ℕ
  pub start : ℕ
  pub next : ℕ

abbrev pub seen_round : WriterView → TableRound → Round
seen_round w table.State = Other
seen_round w table.Propose = Propose
seen_round w (table.Prepare start) = Ask start
seen_round w (table.Fetch node start end bodies) = Get node start end bodies
seen_round w (table.Accept batch) = Recover batch
seen_round w (table.Finalize start end) = Finalizing start end
seen_round w table.Start = Open w.start
seen_round w table.Open = Write w.start (batch_from w.start start_record)
seen_round w (table.Write bodies) = Write w.start (batch_from w.next bodies)
seen_round w (table.Purge min) = Clean min

abbrev pub seen_next : WriterView → TableRound → ℕ
seen_next w table.Start = w.start
seen_next w table.Open = w.start + 1
seen_next w (table.Write bodies) = w.next + length bodies
seen_next w _ = w.next

abbrev pub seen : TaskProgress → Writer
seen u = record { round = seen_round u.writer u.round; committed = u.writer.committed; start = u.writer.start; next = seen_next u.writer u.round }

-- ## The request of a round, under this epoch, serial and committed txid
abbrev pub asked : ℕ → ℕ → ℕ → Round → Request
asked e s c Propose = NewEpoch e
asked e s c (Ask m) = Prepare (record { epoch = e; serial = s; committed = c }) m
asked e s c (Get node m end bodies) = Fetch (record { epoch = e; serial = s; committed = c }) m (m + length bodies)
asked e s c (Recover b) = Accept (record { epoch = e; serial = s; committed = c }) b
asked e s c (Finalizing m l) = Finalize (record { epoch = e; serial = s; committed = c }) m l
asked e s c (Open m) = Start (record { epoch = e; serial = s; committed = c }) m
asked e s c (Write m b) = Journal (record { epoch = e; serial = s; committed = c }) m b
asked e s c (Clean l) = Purge (record { epoch = e; serial = s; committed = c }) l
asked e s c Other = State

asked_in : (w : WriterView) (r : TableRound) → request_in w r ≡ asked w.epoch w.serial w.committed (seen_round w r)
asked_in w table.State = refl
asked_in w table.Propose = refl
asked_in w (table.Prepare start) = refl
asked_in w (table.Fetch node start end bodies) = refl
asked_in w (table.Accept batch) = refl
asked_in w (table.Finalize start end) = refl
asked_in w table.Start = refl
asked_in w table.Open = refl
asked_in w (table.Write bodies) = refl
asked_in w (table.Purge min) = refl

pub asked_seen : (u : TaskProgress) (e s : ℕ) → u.writer.epoch ≡ e → u.writer.serial ≡ s → asked_underway u ≡ asked e s (seen u).committed (seen u).round
asked_seen u e s p q = asked_in u.writer u.round ∙ (ap (λ k. asked k u.writer.serial u.writer.committed (seen_round u.writer u.round)) p
    ∙ ap (λ k. asked e k u.writer.committed (seen_round u.writer u.round)) q)

-- ## The answers of the Ok kind
abbrev pub is_edits : Reply → Bool
is_edits (Edits batch) = true
is_edits _ = false

abbrev pub is_ok_kind : Round → Reply → Bool
is_ok_kind Propose answer = fits_propose answer
is_ok_kind (Ask m) answer = fits_prepare m answer
is_ok_kind (Get node m end bodies) answer = is_edits answer
is_ok_kind (Recover b) answer = is_done_reply answer
is_ok_kind (Finalizing m l) answer = is_done_reply answer
is_ok_kind (Open m) answer = is_done_reply answer
is_ok_kind (Write m b) answer = is_done_reply answer
is_ok_kind (Clean l) answer = is_done_reply answer
is_ok_kind Other answer = false

-- ## The round of this number, of a takeover with tasks that may follow one
unfoldable pub seen_at : ℕ → Takeover → ℕ → Option Writer
seen_at n t s = if list_all may_follow t.tasks then option_map seen (writer_at n t s) else None

pub record SeenAt (n : ℕ) (t : Takeover) (s : ℕ) (w : Writer) : Type 0 where
  pub tasks : list_all may_follow t.tasks ≡ true
  pub underway : TaskProgress
  pub at : writer_at n t s ≡ Some underway
  pub is : seen underway ≡ w

from_map : (n : ℕ) (t : Takeover) (s : ℕ) (w : Writer) → list_all may_follow t.tasks ≡ true → (o : Option TaskProgress) → writer_at n t s ≡ o → option_map seen o ≡ Some w → SeenAt n t s w
from_map n t s w ok None is e = none≢some w e
from_map n t s w ok (Some u) is e = record { tasks = ok; underway = u; at = is; is = some_same e }

pub seen_of : (n : ℕ) (t : Takeover) (s : ℕ) (w : Writer) → seen_at n t s ≡ Some w → SeenAt n t s w
unfolding seen_at
seen_of n t s w e = cond_both (list_all may_follow t.tasks) (option_map seen (writer_at n t s)) None (λ o. o ≡ Some w → SeenAt n t s w)
    (λ ok f. from_map n t s w ok (writer_at n t s) refl f) (λ no f. none≢some w f) e

pub seen_here : (n : ℕ) (t : Takeover) (s : ℕ) (u : TaskProgress) → list_all may_follow t.tasks ≡ true → writer_at n t s ≡ Some u → seen_at n t s ≡ Some (seen u)
unfolding seen_at
seen_here n t s u ok at = cond-true (list_all may_follow t.tasks) (option_map seen (writer_at n t s)) None ok ∙ ap (λ o. option_map seen o) at

pub seen_first : (n : ℕ) (t : Takeover) (w : Writer) → seen_at n t 0 ≡ Some w → (w.round ≡ Propose) × (w.committed ≡ 0)
unfolding writer_at
seen_first n t w e =
    let x : SeenAt n t 0 w = seen_of n t 0 w e in
    let one = some_same x.at in
    let same : seen x.underway ≡ w = x.is in
    (ap (λ z. z.round) (sym same) ∙ ap (λ z. (seen z).round) (sym one), ap (λ z. z.committed) (sym same) ∙ ap (λ z. (seen z).committed) (sym one))
