-- The worked run passes the test, and what holds of it.
use Rattle.std.proofs.Common.{◌≡◌, ℕ, zero, suc, ◌+◌, ◌<◌, ◌≤◌, true, false, List, [], ◌∷◌, reverse, drop, slice_get, Some, None, refl, sym, inl, inr, arith, subst}
use Rattle.journal_core.specs.Segments.{find_segment, put_segment, remove_segment, newest, has_edit, any_body, HasAt}
use Rattle.journal_core.specs.declared.segment.Segment.{Segment}
use Rattle.journal_core.specs.declared.refusal.Refusal.TheVariants.{EpochRefused}
use Rattle.journal_core.specs.declared.request.Request.{Request}
use Rattle.journal_core.specs.declared.request.Request.TheVariants.{Start, Journal}
use Rattle.journal_core.specs.declared.reply.Reply.TheVariants as reply
use Rattle.journal_core.specs.Limits.{limit_of}
use Rattle.journal_core.specs.Effects.{after_effects}
use Rattle.journal_core.specs.Step.{node_step, effects_of}
use Rattle.writer_core.specs.Best.{best_from, greatest_newest}
use Rattle.writer_core.specs.Rounds.{judgment, after_fetch}
use Rattle.writer_core.specs.Writer.{log_limit, writer_begun}
use Rattle.writer_core.specs.Whole.{fill_slots, next_task, writer_at}
use Rattle.run_safety.specs.Majority.{Member, IsMajority}
use Rattle.journal_history.specs.Entries.{Heard, Entry, Earlier, now, before, node_after}
use Rattle.run_safety.specs.Safe.{HasBody, IsChosen, IsOnLine, IsAcknowledged, SaidOk, HoldsFinal, IsLowestFinal, Reaches, there, segment, IsRecovered, IsSafe}
use Rattle.run_safety.specs.Parts.{IsAfterFinalised}
use Rattle.run_safety.specs.Run.{IsRun}
use Rattle.run_safety.specs.Tables.{story_of}
use Rattle.run_safety.specs.Examples.{recovered_edit, recovered_log, its_line, tables, head, one_edit, heard_at, begin, edit, later, promised_twice, split}
use Rattle.run_safety.proofs.Places.{Earlier-tail}
use Rattle.run_safety.proofs.SoundNodes.{stored_after}
use Rattle.run_safety.proofs.Safety.{chosen_on_line, chosen_agree, acknowledged_survive}
use Rattle.run_safety.proofs.Kept.{segments_chained}
use Rattle.run_safety.proofs.Checker.{passes, follows, said, said_is, no_start, none_starts}

pub it_passes : passes 3 tables (reverse recovered_edit) ≡ true
unfolding find_segment put_segment remove_segment newest limit_of after_effects node_step effects_of best_from greatest_newest judgment after_fetch
    log_limit writer_begun fill_slots next_task writer_at node_after
it_passes = refl

unfoldable pub is_run : IsRun 3 recovered_edit
is_run = (story_of tables, follows 3 tables (reverse recovered_edit) it_passes)

-- ## What the nodes hold
first_segment : Segment
first_segment = record { start = 1; epoch = 2; bodies = recovered_log; is_final = true; accepted = false }

second_segment : Segment
second_segment = record { start = 4; epoch = 2; bodies = begin ∷ later ∷ []; is_final = false; accepted = false }

all_nodes : IsMajority 3 (1 ∷ 2 ∷ 3 ∷ [])
all_nodes = record { distinct = (apart, (λ m. elim m [ inl e ↦ omega arith | inr none ↦ none ], (λ m. m, tt))); within = within; more = omega arith }
  where
    apart : Member 1 (2 ∷ 3 ∷ []) → ⊥
    apart (inl e) = omega arith
    apart (inr (inl e)) = omega arith
    apart (inr (inr none)) = none

    within : (i : ℕ) → Member i (1 ∷ 2 ∷ 3 ∷ []) → (1 ≤ i) × (i ≤ 3)
    within i (inl e) = (omega arith, omega arith)
    within i (inr (inl e)) = (omega arith, omega arith)
    within i (inr (inr (inl e))) = (omega arith, omega arith)
    within i (inr (inr (inr none))) = absurd none

-- what holds of nodes 1 to 3 holds of each of them
each : (P : ℕ → Type 0) → P 1 → P 2 → P 3 → (i : ℕ) → Member i (1 ∷ 2 ∷ 3 ∷ []) → P i
each P a b c i (inl e) = subst P e a
each P a b c i (inr (inl e)) = subst P e b
each P a b c i (inr (inr (inl e))) = subst P e c
each P a b c i (inr (inr (inr none))) = absurd none

found_first : (i : ℕ) → Member i (1 ∷ 2 ∷ 3 ∷ []) → find_segment 1 (node_after i (reverse recovered_edit)).segments ≡ Some first_segment
unfolding find_segment put_segment remove_segment newest limit_of after_effects node_step effects_of node_after first_segment
found_first = each (λ i. find_segment 1 (node_after i (reverse recovered_edit)).segments ≡ Some first_segment) refl refl refl

found_second : (i : ℕ) → Member i (1 ∷ 2 ∷ 3 ∷ []) → find_segment 4 (node_after i (reverse recovered_edit)).segments ≡ Some second_segment
unfolding find_segment put_segment remove_segment newest limit_of after_effects node_step effects_of node_after second_segment
found_second = each (λ i. find_segment 4 (node_after i (reverse recovered_edit)).segments ≡ Some second_segment) refl refl refl

chosen_first : (txid : ℕ) (body : List ℕ) → HasAt first_segment txid body → IsChosen 3 (reverse recovered_edit) 2 txid body
unfolding first_segment
chosen_first txid body has = (1 ∷ 2 ∷ 3 ∷ [], all_nodes, λ i m. (first_segment, (reverse recovered_edit, now, found_first i m), refl, has))

chosen_second : (txid : ℕ) (body : List ℕ) → HasAt second_segment txid body → IsChosen 3 (reverse recovered_edit) 2 txid body
unfolding second_segment
chosen_second txid body has = (1 ∷ 2 ∷ 3 ∷ [], all_nodes, λ i m. (second_segment, (reverse recovered_edit, now, found_second i m), refl, has))

-- ## Acknowledged edits
said_all : (r : Request) → said (reverse recovered_edit) 1 r ≡ true → said (reverse recovered_edit) 2 r ≡ true
    → said (reverse recovered_edit) 3 r ≡ true → (i : ℕ) → Member i (1 ∷ 2 ∷ 3 ∷ []) → SaidOk (reverse recovered_edit) i r
said_all r a b c i m = said_is (reverse recovered_edit) i r (each (λ k. said (reverse recovered_edit) k r ≡ true) a b c i m)

pub record_acknowledged : IsAcknowledged 3 (reverse recovered_edit) 1 1 begin
record_acknowledged = (head 1 2 0, 1, one_edit 1 begin, refl, (0, refl, refl), (1 ∷ 2 ∷ 3 ∷ [], all_nodes, said_all (Journal (head 1 2 0) 1 (one_edit 1 begin)) refl refl refl))

pub edit_acknowledged : IsAcknowledged 3 (reverse recovered_edit) 1 2 edit
edit_acknowledged = (head 1 3 1, 1, one_edit 2 edit, refl, (0, refl, refl), (1 ∷ 2 ∷ 3 ∷ [], all_nodes, said_all (Journal (head 1 3 1) 1 (one_edit 2 edit)) refl refl refl))

pub later_acknowledged : IsAcknowledged 3 (reverse recovered_edit) 2 5 later
later_acknowledged = (head 2 7 4, 4, one_edit 5 later, refl, (0, refl, refl), (1 ∷ 2 ∷ 3 ∷ [], all_nodes, said_all (Journal (head 2 7 4) 4 (one_edit 5 later)) refl refl refl))

-- ## The recovered log
-- what stands before the first `start` under epoch 2
before_start : List Entry
before_start = drop 9 (reverse recovered_edit)

first_start : Earlier (heard_at 1 (Start (head 2 5 3) 4) reply.Ok 1 ∷ before_start) (reverse recovered_edit)
unfolding before_start
first_start = before (before (before (before (before (before (before (before now)))))))

held_before : find_segment 1 (node_after 1 before_start).segments ≡ Some first_segment
unfolding before_start find_segment put_segment remove_segment newest limit_of after_effects node_step effects_of node_after first_segment
held_before = refl

lowest : IsLowestFinal 3 before_start first_segment
unfolding first_segment
lowest = (1, (omega arith, omega arith, held_before, refl), λ lower other lt same holds. absurd (omega (arith, lt, holds.0)))

starts_from_one : (i : ℕ) (g : Segment) → HoldsFinal 3 before_start i g → 1 ≤ g.start
starts_from_one i g holds =
    let edit : has_edit g ≡ true = ((stored_after i before_start).segments g.start g holds.2).final_edit holds.3 in
    let x = first_body g.bodies edit in
    by (segments_chained 3 is_run.0 (reverse recovered_edit) is_run.1 i g g.start x.0 (before_start, Earlier-tail first_start, holds.2) (0, omega arith, x.1))
  where
    first_body : (bodies : List (List ℕ)) → any_body bodies ≡ true → (x : List ℕ) × (slice_get bodies 0 ≡ Some x)
    first_body [] e = absurd (cc e)
    first_body (b ∷ bodies) e = (b, refl)

    by : IsAfterFinalised 3 (reverse recovered_edit) g.epoch g.start → 1 ≤ g.start
    by (inl e) = omega (arith, e)
    by (inr x) = omega (arith, x.4)

reaches_from_one : {k first : ℕ} {log : List (List ℕ)} → Reaches 3 before_start k first log → first ≡ 4 → 1 ≤ k
reaches_from_one there e = omega (arith, e)
reaches_from_one (segment g low rest) e = starts_from_one low.0 g low.1

pub recovers_log : IsRecovered 3 (reverse recovered_edit) 2 4 1 recovered_log
unfolding first_segment before_start
recovers_log = record {
  at_place = before_start;
  is_first = (heard_at 1 (Start (head 2 5 3) 4) reply.Ok 1, first_start, (head 2 5 3, refl, inl (1, Heard, reply.Ok, refl)), none_starts 2 before_start none_before);
  reaches = segment first_segment lowest there;
  least = λ k other r. reaches_from_one r refl;
}
  where
    none_before : no_start 2 before_start ≡ true
    none_before = refl

-- ## What safety gives
pub edit_kept : IsOnLine 3 (reverse recovered_edit) 2 edit × (2 < 4) × HasBody 1 recovered_log 2 edit
edit_kept =
    let safe = acknowledged_survive 3 is_run.0 (reverse recovered_edit) is_run.1 1 2 edit edit_acknowledged in
    let kept : (2 < 4) × (1 ≤ 2 → HasBody 1 recovered_log 2 edit) = safe.1 2 4 1 recovered_log (omega arith) recovers_log in
    (safe.0, kept.0, kept.1 (omega arith))

-- ## The line
chosen_at : (k : ℕ) (body : List ℕ) → slice_get its_line k ≡ Some body → IsChosen 3 (reverse recovered_edit) 2 (1 + k) body
unfolding first_segment second_segment
chosen_at zero body e = chosen_first 1 body (0, refl, e)
chosen_at (suc zero) body e = chosen_first 2 body (1, refl, e)
chosen_at (suc (suc zero)) body e = chosen_first 3 body (2, refl, e)
chosen_at (suc (suc (suc zero))) body e = chosen_second 4 body (0, refl, e)
chosen_at (suc (suc (suc (suc zero)))) body e = chosen_second 5 body (1, refl, e)
chosen_at (suc (suc (suc (suc (suc k))))) body e = absurd (cc e)

its_chosen : (txid : ℕ) (body : List ℕ) → HasBody 1 its_line txid body → IsChosen 3 (reverse recovered_edit) 2 txid body
its_chosen txid body h = subst (λ t. IsChosen 3 (reverse recovered_edit) 2 t body) (sym h.1) (chosen_at h.0 body h.2)

pub line_has : (txid : ℕ) (body : List ℕ) → HasBody 1 its_line txid body → IsOnLine 3 (reverse recovered_edit) txid body
line_has txid body h = chosen_on_line 3 is_run.0 (reverse recovered_edit) is_run.1 2 txid body (its_chosen txid body h)

pub line_only : (txid : ℕ) (body other : List ℕ) → HasBody 1 its_line txid body → IsOnLine 3 (reverse recovered_edit) txid other → other ≡ body
line_only txid body other h on = chosen_agree 3 is_run.0 (reverse recovered_edit) is_run.1 on.epoch 2 txid other body on.chosen (its_chosen txid body h)

-- ## What isn't a run, and what isn't safe
pub not_a_run : IsRun 1 promised_twice → ⊥
unfolding node_step effects_of limit_of after_effects node_after newest
not_a_run run = let told : reply.Refused (EpochRefused 1) ≡ reply.NewEpoch None = run.1.0.is_next.1 in cc

one_final : List ℕ → ℕ → Segment
one_final body epoch = record { start = 1; epoch = epoch; bodies = body ∷ []; is_final = true; accepted = false }

pub not_safe : IsSafe 2 split → ⊥
unfolding find_segment put_segment remove_segment newest limit_of after_effects node_step effects_of node_after one_final
not_safe s =
    let same : begin ∷ [] ≡ edit ∷ [] = s.finalised_agree 1 2 (one_final begin 1) (one_final edit 2) (reverse split, now, refl) (reverse split, now, refl) refl refl refl in
    let one : begin ≡ edit = cc in
    let number : ◌≡◌ {A = ℕ} 24 7 = cc in omega arith
