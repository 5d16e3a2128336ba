-- An answer, by the round to which it belongs.
use Rattle.std.proofs.Common.{ℕ, ◌≡◌, true, false, refl}
use Rattle.std.specs.List.{list_any}
use Rattle.journal_core.specs.declared.heard.Heard.{Heard}
use Rattle.writer_core.specs.declared.round.Round.{Round}
use Rattle.writer_core.specs.declared.round.Round.TheVariants as round
use Rattle.writer_core.specs.declared.phase.Phase.{Phase}
use Rattle.writer_core.specs.declared.phase.Phase.TheVariants as phase
use Rattle.writer_core.specs.Views.{WriterView}
use Rattle.writer_core.specs.Answers.{is_waiting}
use Rattle.writer_core.specs.Writer.{is_under_way, heard_in, heard_at, judgment_when, with_answer}
use Rattle.writer_core.specs.Current.{is_fetch, round_in, fetched_in}

-- a round that asks several nodes
pub heard_round : (r : Round) (w : WriterView) (node : ℕ) (heard : Heard) → is_fetch r ≡ false
    → heard_in r w node heard ≡ judgment_when (list_any is_waiting (with_answer w node heard).slots) r (with_answer w node heard)
heard_round round.State w node heard h = refl
heard_round round.Propose w node heard h = refl
heard_round (round.Prepare start) w node heard h = refl
heard_round (round.Accept batch) w node heard h = refl
heard_round (round.Finalize start end) w node heard h = refl
heard_round round.Start w node heard h = refl
heard_round round.Open w node heard h = refl
heard_round (round.Write bodies) w node heard h = refl
heard_round (round.Purge min) w node heard h = refl
heard_round (round.Fetch f start end bodies) w node heard h = cc

pub heard_whole : (p : Phase) (w : WriterView) (node : ℕ) (heard : Heard) → is_under_way p ≡ true → is_fetch (round_in p) ≡ false
    → heard_at p w node heard ≡ judgment_when (list_any is_waiting (with_answer w node heard).slots) (round_in p) (with_answer w node heard)
heard_whole (phase.InRound r) w node heard u h = heard_round r w node heard h
heard_whole phase.Idle w node heard u h = cc
heard_whole phase.Writing w node heard u h = cc
heard_whole phase.Stopped w node heard u h = cc

fetch_round : (r : Round) (w : WriterView) (node : ℕ) (heard : Heard) → is_fetch r ≡ true → heard_in r w node heard ≡ fetched_in r heard w
fetch_round round.State w node heard h = cc
fetch_round round.Propose w node heard h = cc
fetch_round (round.Prepare start) w node heard h = cc
fetch_round (round.Accept batch) w node heard h = cc
fetch_round (round.Finalize start end) w node heard h = cc
fetch_round round.Start w node heard h = cc
fetch_round round.Open w node heard h = cc
fetch_round (round.Write bodies) w node heard h = cc
fetch_round (round.Purge min) w node heard h = cc
fetch_round (round.Fetch f start end bodies) w node heard h = refl

pub heard_piece : (p : Phase) (w : WriterView) (node : ℕ) (heard : Heard) → is_fetch (round_in p) ≡ true → heard_at p w node heard ≡ fetched_in (round_in p) heard w
heard_piece (phase.InRound r) w node heard h = fetch_round r w node heard h
heard_piece phase.Idle w node heard h = cc
heard_piece phase.Writing w node heard h = cc
heard_piece phase.Stopped w node heard h = cc
