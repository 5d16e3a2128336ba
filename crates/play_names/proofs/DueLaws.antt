-- The results of edits that were submitted together, one more.
use Rattle.std.proofs.Common.{◌≡◌, ℕ, zero, suc, ◌+◌, ◌<◌, ◌≤◌, List, [], ◌∷◌, ◌++◌, length, drop, true, false, refl, sym, ap, ◌∙◌, append_assoc, append-nil, arith, get_or}
use Rattle.play_names.specs.Submissions.{Due, Pends, Refused, Repeats, TooLong}
use Rattle.play_names.specs.declared.edit_due.EditDue.{EditDue}
use Rattle.play_names.specs.Results.{dues_logged, dues_aborted}
use Rattle.play_names.specs.DueTexts.{due_of, dues_of, logged_text, next_txid, lost_text}

-- ## Those that were logged
logged_one : (txid : ℕ) (d : Due) (ds : List Due) → dues_logged txid (d ∷ ds) ≡ logged_text txid d ∷ dues_logged (next_txid txid d) ds
unfolding dues_logged
logged_one txid Pends ds = refl
logged_one txid (Refused r) ds = refl
logged_one txid (Repeats t pends) ds = refl
logged_one txid (TooLong number) ds = refl

lost_one : (text : List ℕ) (d : Due) (ds : List Due) → dues_aborted text (d ∷ ds) ≡ lost_text text d ∷ dues_aborted text ds
unfolding dues_aborted
lost_one text Pends ds = refl
lost_one text (Refused r) ds = refl
lost_one text (Repeats t true) ds = refl
lost_one text (Repeats t false) ds = refl
lost_one text (TooLong number) ds = refl

rest_of : (dues : List EditDue) (i : ℕ) (e : EditDue) → i < length dues → dues_of (drop i dues) ≡ due_of (get_or dues i e) ∷ dues_of (drop (i + 1) dues)
rest_of [] i e l = absurd (omega (arith, l))
rest_of (d ∷ ds) zero e l = refl
rest_of (d ∷ ds) (suc i) e l =
    let s : suc i + 1 ≡ suc (i + 1) = omega arith in
    rest_of ds i e (omega (arith, l)) ∙ ap (λ (k : ℕ). due_of (get_or ds i e) ∷ dues_of (drop k (d ∷ ds))) (sym s)

-- ## What holds of the results so far: with those of the edits that are left they are all
abbrev pub AreLogged : List (List ℕ) → ℕ → ℕ → List EditDue → ℕ → Type 0
AreLogged texts first txid dues i = texts ++ dues_logged txid (dues_of (drop i dues)) ≡ dues_logged first (dues_of dues)

abbrev pub AreLost : List (List ℕ) → List ℕ → List EditDue → ℕ → Type 0
AreLost texts text dues i = texts ++ dues_aborted text (dues_of (drop i dues)) ≡ dues_aborted text (dues_of dues)

pub logged_more : (texts now : List (List ℕ)) (first txid after : ℕ) (dues : List EditDue) (i : ℕ) (e : EditDue) (text : List ℕ) → i < length dues → AreLogged texts first txid dues i
    → text ≡ logged_text txid (due_of (get_or dues i e)) → now ≡ texts ++ text ∷ [] → after ≡ next_txid txid (due_of (get_or dues i e)) → AreLogged now first after dues (i + 1)
logged_more texts now first txid after dues i e text l h is n a =
    let d : Due = due_of (get_or dues i e) in
    let rest : List Due = dues_of (drop (i + 1) dues) in
    ap (λ (x : List (List ℕ)). x ++ dues_logged after rest) (n ∙ ap (λ (x : List ℕ). texts ++ x ∷ []) is)
    ∙ append_assoc texts (logged_text txid d ∷ []) (dues_logged after rest)
    ∙ ap (λ (x : ℕ). texts ++ logged_text txid d ∷ dues_logged x rest) a
    ∙ ap (λ (x : List (List ℕ)). texts ++ x) (sym (logged_one txid d rest))
    ∙ ap (λ (x : List Due). texts ++ dues_logged txid x) (sym (rest_of dues i e l))
    ∙ h

pub lost_more : (texts now : List (List ℕ)) (over : List ℕ) (dues : List EditDue) (i : ℕ) (e : EditDue) (text : List ℕ) → i < length dues → AreLost texts over dues i
    → text ≡ lost_text over (due_of (get_or dues i e)) → now ≡ texts ++ text ∷ [] → AreLost now over dues (i + 1)
lost_more texts now over dues i e text l h is n =
    let d : Due = due_of (get_or dues i e) in
    let rest : List Due = dues_of (drop (i + 1) dues) in
    ap (λ (x : List (List ℕ)). x ++ dues_aborted over rest) (n ∙ ap (λ (x : List ℕ). texts ++ x ∷ []) is)
    ∙ append_assoc texts (lost_text over d ∷ []) (dues_aborted over rest)
    ∙ ap (λ (x : List (List ℕ)). texts ++ x) (sym (lost_one over d rest))
    ∙ ap (λ (x : List Due). texts ++ dues_aborted over x) (sym (rest_of dues i e l))
    ∙ h

pub all_dropped : (dues : List EditDue) (i : ℕ) → i ≡ length dues → drop i dues ≡ []
all_dropped [] zero e = refl
all_dropped [] (suc i) e = refl
all_dropped (d ∷ ds) zero e = absurd (omega (arith, e))
all_dropped (d ∷ ds) (suc i) e = all_dropped ds i (omega (arith, e))

pub logged_all : (texts : List (List ℕ)) (first txid : ℕ) (dues : List EditDue) (i : ℕ) → i ≡ length dues → AreLogged texts first txid dues i → texts ≡ dues_logged first (dues_of dues)
unfolding dues_logged
logged_all texts first txid dues i e h = sym (append-nil texts) ∙ ap (λ (x : List EditDue). texts ++ dues_logged txid (dues_of x)) (sym (all_dropped dues i e)) ∙ h

pub lost_all : (texts : List (List ℕ)) (text : List ℕ) (dues : List EditDue) (i : ℕ) → i ≡ length dues → AreLost texts text dues i → texts ≡ dues_aborted text (dues_of dues)
unfolding dues_aborted
lost_all texts text dues i e h = sym (append-nil texts) ∙ ap (λ (x : List EditDue). texts ++ dues_aborted text (dues_of x)) (sym (all_dropped dues i e)) ∙ h

pub next_most : (first txid after i : ℕ) (d : Due) → txid ≤ first + i → after ≡ next_txid txid d → after ≤ first + (i + 1)
next_most first txid after i Pends l e = omega (arith, l, e)
next_most first txid after i (Refused r) l e = omega (arith, l, e)
next_most first txid after i (Repeats t pends) l e = omega (arith, l, e)
next_most first txid after i (TooLong number) l e = omega (arith, l, e)

pub ruleset logging = (logged_more, logged_all, next_most)

pub ruleset losing = (lost_more, lost_all)
