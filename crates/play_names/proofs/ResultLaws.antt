-- Result lines, one more.
use Rattle.std.proofs.Common.{◌≡◌, ◌≢◌, ℕ, zero, suc, ◌+◌, List, [], ◌∷◌, ◌++◌, refl, sym, ap, ◌∙◌, arith, append_assoc, append-nil, codes, decimal, length, map, replicate, take, get_or, ◌<◌}
use Rattle.writer_core.specs.declared.cause.Cause.{Cause}
use Rattle.writer_core.specs.declared.task.Task.{Task}
use Rattle.writer_core.specs.declared.task.Task.TheVariants as task
use Rattle.writer_core.specs.declared.turn.Turn.{Turn}
use Rattle.writer_core.specs.declared.turn.Turn.TheVariants as turn
use Rattle.writer_core.specs.declared.turn.Outcome.{Outcome}
use Rattle.writer_core.specs.declared.turn.Outcome.TheVariants as outcome
use Rattle.play_names.specs.Results.{word, cause_word, cause_words, for_each, acked_from, acknowledged_results, outcome_results, results_of, name_of, inactive_results, too_long_results}
use Rattle.play_names.specs.ResultLists.{acked_texts, behind_text, aborted_text, edits_of, times, acked_for, done_texts, texts_of, IsFew, AreFew}

pub not_empty : (xs : List ℕ) (y : ℕ) (ys : List ℕ) → xs ++ y ∷ ys ≢ []
not_empty [] y ys e = cc
not_empty (x ∷ xs) y ys e = cc

pub some_word : (name : List ℕ) (number : ℕ) → word name number ≢ []
some_word name number = not_empty name 32 (decimal number)

pub some_words : (name : List ℕ) (first second : ℕ) → word (word name first) second ≢ []
some_words name first second = not_empty (word name first) 32 (decimal second)

pub some_aborted : (name : List ℕ) (causes : List Cause) → aborted_text name causes ≢ []
some_aborted [] causes e = cc
some_aborted (x ∷ xs) causes e = cc

pub some_after : (name : List ℕ) (txid : ℕ) (causes : List Cause) → behind_text name txid causes ≢ []
some_after [] txid causes e = cc
some_after (x ∷ xs) txid causes e = cc

acked_from_more : (first n : ℕ) → acked_texts first (suc n) ≡ acked_texts first n ++ word (codes "acked") (first + n) ∷ []
acked_from_more first zero = let e : first ≡ first + 0 = omega arith in ap (λ k. word (codes "acked") k ∷ []) e
acked_from_more first (suc n) =
    let e : first + 1 + n ≡ first + suc n = omega arith in
    ap (λ xs. word (codes "acked") first ∷ xs) (acked_from_more (first + 1) n ∙ ap (λ k. acked_texts (first + 1) n ++ word (codes "acked") k ∷ []) e)

pub acked_more : (first n : ℕ) → acked_texts first (n + 1) ≡ acked_texts first n ++ word (codes "acked") (first + n) ∷ []
acked_more first n = let e : n + 1 ≡ suc n = omega arith in ap (acked_texts first) e ∙ acked_from_more first n

pub causes_more : (cs : List Cause) (i : ℕ) (d : Cause) → i < length cs → cause_words (take (i + 1) cs) ≡ cause_words (take i cs) ++ 32 ∷ cause_word (get_or cs i d)
unfolding cause_words
causes_more [] i d l = absurd (omega (arith, l))
causes_more (c ∷ cs) zero d l = append-nil (32 ∷ cause_word c)
causes_more (c ∷ cs) (suc i) d l =
    let e : suc i + 1 ≡ suc (i + 1) = omega arith in
    rw e (ap (λ xs. 32 ∷ cause_word c ++ xs) (causes_more cs i d (omega (arith, l))) ∙ sym (append_assoc (32 ∷ cause_word c) (cause_words (take i cs)) (32 ∷ cause_word (get_or cs i d))))

pub causes_on : (text : List ℕ) (cs : List Cause) (i : ℕ) (d : Cause) → i < length cs
    → (text ++ cause_words (take i cs)) ++ 32 ∷ cause_word (get_or cs i d) ≡ text ++ cause_words (take (i + 1) cs)
causes_on text cs i d l = append_assoc text (cause_words (take i cs)) (32 ∷ cause_word (get_or cs i d)) ∙ ap (λ xs. text ++ xs) (sym (causes_more cs i d l))

-- ## A task's results, by its name and its edits
repeated_const : (bodies : List (List ℕ)) (text : List ℕ) → map (λ body. text) bodies ≡ replicate (length bodies) text
repeated_const [] text = refl
repeated_const (b ∷ bs) text = ap (λ xs. text ∷ xs) (repeated_const bs text)

pub for_each_is : (t : Task) (text : List ℕ) → for_each t text ≡ times (edits_of t) text
unfolding for_each
for_each_is (task.Log bodies) text = repeated_const bodies text
for_each_is task.Takeover text = refl
for_each_is task.Roll text = refl
for_each_is task.Close text = refl
for_each_is (task.Purge min) text = refl

acked_count : (first : ℕ) (bodies : List (List ℕ)) → acked_from first bodies ≡ acked_texts first (length bodies)
unfolding acked_from
acked_count first [] = refl
acked_count first (b ∷ bs) = ap (λ xs. word (codes "acked") first ∷ xs) (acked_count (first + 1) bs)

acked_is : (t : Task) (first : ℕ) → acknowledged_results first t ≡ acked_for (edits_of t) first
unfolding acknowledged_results
acked_is (task.Log bodies) first = acked_count first bodies
acked_is task.Takeover first = refl
acked_is task.Roll first = refl
acked_is task.Close first = refl
acked_is (task.Purge min) first = refl

done_is : (t : Task) (o : Outcome) → outcome_results t o ≡ done_texts (edits_of t) o
unfolding outcome_results
done_is t (outcome.Takeover epoch first) = refl
done_is t (outcome.Log first last) = acked_is t first
done_is t (outcome.Roll start) = refl
done_is t (outcome.Close last) = refl
done_is t outcome.Purge = refl

pub results_are : (t : Task) (u : Turn) (causes : List Cause) → results_of t u causes ≡ texts_of (name_of t) (edits_of t) u causes
unfolding results_of
results_are t turn.Going causes = refl
results_are t (turn.Done o) causes = done_is t o
results_are t turn.Aborted causes = for_each_is t (aborted_text (name_of t) causes)
results_are t (turn.EpochLimit told) causes = refl

pub inactive_are : (t : Task) → inactive_results t ≡ times (edits_of t) (name_of t ++ codes "inactive")
unfolding inactive_results
inactive_are t = for_each_is t (name_of t ++ codes "inactive")

pub too_long_are : (t : Task) (number : ℕ) → too_long_results t number ≡ times (edits_of t) (word (codes "toolong") number)
unfolding too_long_results
too_long_are t number = for_each_is t (word (codes "toolong") number)

pub some_inactive : (name : List ℕ) → name ++ codes "inactive" ≢ []
some_inactive [] e = cc
some_inactive (x ∷ xs) e = cc

pub few_is : (t : Task) → IsFew t → AreFew (edits_of t)
few_is (task.Log bodies) h = h
few_is task.Takeover h = tt
few_is task.Roll h = tt
few_is task.Close h = tt
few_is (task.Purge min) h = tt
