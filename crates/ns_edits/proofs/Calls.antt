-- The retry list after a replay is the last calls of the log, so that an edit with one of them
-- isn't admitted.
use Rattle.std.proofs.Common.{◌≡◌, ℕ, ◌+◌, ◌-◌, ◌<◌, ◌≤◌, List, [], ◌∷◌, ◌++◌, length, length-append, drop, Option, Some, None, Bool, true, false}
use Rattle.std.proofs.Common.{cond, refl, sym, ap, ◌∙◌, subst, arith, append_assoc, length-drop, ◌⊎◌, inl, inr}
use Rattle.std.proofs.lemmas.List.{append-nil, drop-drop, drop-append-le}
use Rattle.edit_ops.specs.declared.call.Call.{Call}
use Rattle.edit_ops.specs.Records.{EditView}
use Rattle.ns_tree.specs.declared.inode.Noted.{Noted}
use Rattle.ns_tree.specs.Space.{Space, empty_space, same_call, txid_of, last_calls}
use Rattle.ns_tree.proofs.Noting.{call_itself, last_few}
use Rattle.ns_edits.specs.Decoded.{decoded}
use Rattle.ns_edits.specs.Admit.{Refusal, admit_of}
use Rattle.ns_edits.specs.Apply.{noted_if, apply_of}
use Rattle.ns_edits.specs.Replay.{unless_refused, edit_entered, entered, goes_on, replay_from, replay}
use Rattle.ns_edits.specs.Calls.{noted_at, call_in, calls_in, CallsApart}
use Rattle.ns_edits.proofs.Admitted.{call_is_new}
use Rattle.ns_edits.proofs.Splits.{some_is, none≢some, replay_split, Split, LogSplit, log_split, one_replayed}

-- ## An entry that was admitted
pub record Entered (txid : ℕ) (body : List ℕ) (s z : Space) : Type 0 where
  pub edit : EditView
  pub decodes : decoded body ≡ Some edit
  pub admitted : admit_of s edit ≡ None
  pub applied : z ≡ apply_of s edit txid

pub entered_is : (txid : ℕ) (body : List ℕ) (s z : Space) → entered txid body s ≡ Some z → Entered txid body s z
unfolding entered
entered_is txid body s z e = by (decoded body) refl e
  where
    with_refusal : (x : EditView) → decoded body ≡ Some x → (r : Refusal) → admit_of s x ≡ r → unless_refused r (apply_of s x txid) ≡ Some z → Entered txid body s z
    with_refusal x d None is e = record { edit = x; decodes = d; admitted = is; applied = sym (some_is (apply_of s x txid) z e) }
    with_refusal x d (Some r) is e = none≢some z e

    by : (o : Option EditView) → decoded body ≡ o → edit_entered o txid s ≡ Some z → Entered txid body s z
    by None d e = none≢some z e
    by (Some x) d e = with_refusal x d (admit_of s x) refl e

pub enters : (txid : ℕ) (body : List ℕ) (s : Space) (x : EditView) → decoded body ≡ Some x → admit_of s x ≡ None → entered txid body s ≡ Some (apply_of s x txid)
unfolding entered
enters txid body s x d a = ap (λ (o : Option EditView). edit_entered o txid s) d ∙ ap (λ (r : Refusal). unless_refused r (apply_of s x txid)) a

-- ## The last calls of a list
drop_same : (k j : ℕ) (ns : List Noted) → k ≡ j → drop k ns ≡ drop j ns
drop_same k j ns e = ap (λ (i : ℕ). drop i ns) e

-- what goes later may go now
pub last_again : (ns ms : List Noted) → last_calls (last_calls ns ++ ms) ≡ last_calls (ns ++ ms)
last_again ns ms =
    ap last_calls (sym (drop-append-le k ns ms few)) ∙ later k (ns ++ ms) enough
  where
    k : ℕ
    k = length ns - 1024

    few : k ≤ length ns
    few = omega arith

    both : length (ns ++ ms) ≡ length ns + length ms
    both = length-append ns ms

    enough : k ≤ length (ns ++ ms) - 1024
    enough = omega (arith, both)

    later : (k : ℕ) (all : List Noted) → k ≤ length all - 1024 → last_calls (drop k all) ≡ last_calls all
    later k all h =
        let len : length (drop k all) ≡ length all - k = length-drop k all in
        let sum : k + (length (drop k all) - 1024) ≡ length all - 1024 = omega (arith, len, h) in
        drop-drop (length (drop k all) - 1024) k all ∙ drop_same (k + (length (drop k all) - 1024)) (length all - 1024) all sum

few_last : (ns : List Noted) → length ns ≤ 1024 → last_calls ns ≡ ns
few_last ns h = let none : length ns - 1024 ≡ 0 = omega (arith, h) in drop_same (length ns - 1024) 0 ns none

-- ## The retry list after a replay
noted_is : (s : Space) (x : EditView) (txid : ℕ) → length s.calls ≤ 1024 → (apply_of s x txid).calls ≡ last_calls (s.calls ++ noted_at txid x.call)
unfolding apply_of
noted_is s x txid few = by x.call
  where
    by : (o : Option Call) → noted_if o txid s.calls ≡ last_calls (s.calls ++ noted_at txid o)
    by None = sym (ap last_calls (append-nil s.calls) ∙ few_last s.calls few)
    by (Some call) = refl

pub calls_after : (t : ℕ) (bodies : List (List ℕ)) (s z : Space) → length s.calls ≤ 1024 → replay_from t bodies s ≡ Some z → z.calls ≡ last_calls (s.calls ++ calls_in t bodies)
unfolding replay_from calls_in
calls_after t [] s z few e = ap (λ (x : Space). x.calls) (sym (some_is s z e)) ∙ sym (ap last_calls (append-nil s.calls) ∙ few_last s.calls few)
calls_after t (body ∷ bodies) s z few e = by (λ y. calls_after (t + 1) bodies y z) (entered (t + 1) body s) refl e
  where
    step : ((y : Space) → length y.calls ≤ 1024 → replay_from (t + 1) bodies y ≡ Some z → z.calls ≡ last_calls (y.calls ++ calls_in (t + 1) bodies))
        → (y : Space) → Entered (t + 1) body s y → replay_from (t + 1) bodies y ≡ Some z → z.calls ≡ last_calls (s.calls ++ (call_in (t + 1) (decoded body) ++ calls_in (t + 1) bodies))
    step rec y h e =
        let calls : y.calls ≡ last_calls (s.calls ++ noted_at (t + 1) h.edit.call) = ap (λ (x : Space). x.calls) h.applied ∙ noted_is s h.edit (t + 1) few in
        let small : length y.calls ≤ 1024 = subst (λ (l : List Noted). length l ≤ 1024) (sym calls) (last_few (s.calls ++ noted_at (t + 1) h.edit.call)) in
        rec y small e
        ∙ ap (λ (l : List Noted). last_calls (l ++ calls_in (t + 1) bodies)) calls
        ∙ last_again (s.calls ++ noted_at (t + 1) h.edit.call) (calls_in (t + 1) bodies)
        ∙ ap last_calls (append_assoc s.calls (noted_at (t + 1) h.edit.call) (calls_in (t + 1) bodies))
        ∙ ap (λ (o : Option EditView). last_calls (s.calls ++ (call_in (t + 1) o ++ calls_in (t + 1) bodies))) (sym h.decodes)

    by : ((y : Space) → length y.calls ≤ 1024 → replay_from (t + 1) bodies y ≡ Some z → z.calls ≡ last_calls (y.calls ++ calls_in (t + 1) bodies))
        → (o : Option Space) → entered (t + 1) body s ≡ o → goes_on o (replay_from (t + 1) bodies) ≡ Some z
        → z.calls ≡ last_calls (s.calls ++ (call_in (t + 1) (decoded body) ++ calls_in (t + 1) bodies))
    by rec None is e = none≢some z e
    by rec (Some y) is e = step rec y (entered_is (t + 1) body s y is) e

-- ## Entries of one call
-- what stands in a list is found
found_in : (call : Call) (ns ms : List Noted) (txid : ℕ) → txid_of call (ns ++ record { call = call; txid = txid } ∷ ms) ≡ None → ⊥
found_in call [] ms txid e = none≢some txid (sym e ∙ rw (call_itself call) refl)
found_in call (n ∷ ns) ms txid e = by (same_call n.call call) (λ h. found_in call ns ms txid h) e
  where
    by : (b : Bool) → (txid_of call (ns ++ record { call = call; txid = txid } ∷ ms) ≡ None → ⊥) → cond b (Some n.txid) (txid_of call (ns ++ record { call = call; txid = txid } ∷ ms)) ≡ None → ⊥
    by true rec e = none≢some n.txid (sym e)
    by false rec e = rec e

-- one of the last 1,024 is among the last calls
kept_call : (ns ms : List Noted) (n : Noted) → length ms < 1024 → last_calls (ns ++ n ∷ ms) ≡ drop (length (ns ++ n ∷ ms) - 1024) ns ++ n ∷ ms
kept_call ns ms n h =
    let len : length (ns ++ n ∷ ms) ≡ length ns + length (n ∷ ms) = length-append ns (n ∷ ms) in
    let one : length (n ∷ ms) ≡ length ms + 1 = omega arith in
    let few : length (ns ++ n ∷ ms) - 1024 ≤ length ns = omega (arith, len, one, h) in
    drop-append-le (length (ns ++ n ∷ ms) - 1024) ns (n ∷ ms) few

calls_append : (t : ℕ) (xs ys : List (List ℕ)) → calls_in t (xs ++ ys) ≡ calls_in t xs ++ calls_in (t + length xs) ys
unfolding calls_in
calls_append t [] ys = let same : t ≡ t + length {A = List ℕ} [] = omega arith in ap (λ (k : ℕ). calls_in k ys) same
calls_append t (x ∷ xs) ys =
    let same : t + 1 + length xs ≡ t + length (x ∷ xs) = omega arith in
    ap (λ (l : List Noted). call_in (t + 1) (decoded x) ++ l) (calls_append (t + 1) xs ys ∙ ap (λ (k : ℕ). calls_in (t + 1) xs ++ calls_in k ys) same)
    ∙ sym (append_assoc (call_in (t + 1) (decoded x)) (calls_in (t + 1) xs) (calls_in (t + length (x ∷ xs)) ys))

-- how many they are doesn't depend on where they stand
call_length : (t u : ℕ) (o : Option EditView) → length (call_in t o) ≡ length (call_in u o)
call_length t u None = refl
call_length t u (Some e) = by e.call
  where
    by : (c : Option Call) → length (noted_at t c) ≡ length (noted_at u c)
    by None = refl
    by (Some c) = refl

pub calls_length : (t u : ℕ) (bodies : List (List ℕ)) → length (calls_in t bodies) ≡ length (calls_in u bodies)
unfolding calls_in
calls_length t u [] = refl
calls_length t u (b ∷ bs) =
    length-append (call_in (t + 1) (decoded b)) (calls_in (t + 1) bs)
    ∙ ap (λ (k : ℕ). k + length (calls_in (t + 1) bs)) (call_length (t + 1) (u + 1) (decoded b))
    ∙ ap (λ (k : ℕ). length (call_in (u + 1) (decoded b)) + k) (calls_length (t + 1) (u + 1) bs)
    ∙ sym (length-append (call_in (u + 1) (decoded b)) (calls_in (u + 1) bs))

calls_with : (t : ℕ) (body : List ℕ) (bodies : List (List ℕ)) (e : EditView) (call : Call) → decoded body ≡ Some e → e.call ≡ Some call
    → calls_in t (body ∷ bodies) ≡ record { call = call; txid = t + 1 } ∷ calls_in (t + 1) bodies
unfolding calls_in
calls_with t body bodies e call d is =
    ap (λ (o : Option EditView). call_in (t + 1) o ++ calls_in (t + 1) bodies) d ∙ ap (λ (c : Option Call). noted_at (t + 1) c ++ calls_in (t + 1) bodies) is

-- Two entries of a log that replays, of one call, have at least 1,024 entries with a call between
-- them.
pub calls_apart : (log : List (List ℕ)) (u : Space) → replay log ≡ Some u → CallsApart log
unfolding replay
calls_apart log u r xs ys zs body later e f call is d ec dl fc = by (nat_cases (length (calls_in 0 ys)))
  where
    nat_cases : (k : ℕ) → (k < 1024) ⊎ (1024 ≤ k)
    nat_cases k = split k 1024
      where
        split : (a b : ℕ) → (a < b) ⊎ (b ≤ a)
        split a b = grind arith

    parts : xs ++ body ∷ (ys ++ later ∷ zs) ≡ (xs ++ body ∷ ys) ++ (later ∷ zs)
    parts = sym (append_assoc xs (body ∷ ys) (later ∷ zs))

    all : replay ((xs ++ body ∷ ys) ++ (later ∷ zs)) ≡ Some u
    all = ap replay (sym (is ∙ parts)) ∙ r

    s : LogSplit (xs ++ body ∷ ys) (later ∷ zs) u
    s = log_split (xs ++ body ∷ ys) (later ∷ zs) u all

    t : Split (length (xs ++ body ∷ ys)) (later ∷ []) zs s.between u
    t = replay_split (length (xs ++ body ∷ ys)) (later ∷ []) zs s.between u s.rest

    h : Entered (length (xs ++ body ∷ ys) + 1) later s.between t.between
    h = entered_is (length (xs ++ body ∷ ys) + 1) later s.between t.between (one_replayed (length (xs ++ body ∷ ys)) later s.between t.between t.front)

    new : txid_of call s.between.calls ≡ None
    new = call_is_new s.between h.edit call h.admitted (ap (λ (x : EditView). x.call) (some_is h.edit f (sym h.decodes ∙ dl)) ∙ fc)

    calls : s.between.calls ≡ last_calls (calls_in 0 xs ++ record { call = call; txid = 0 + length xs + 1 } ∷ calls_in (0 + length xs + 1) ys)
    calls = before ∙ ap last_calls (calls_append 0 xs (body ∷ ys) ∙ ap (λ (l : List Noted). calls_in 0 xs ++ l) (calls_with (0 + length xs) body ys e call d ec))
      where
        before : s.between.calls ≡ last_calls (calls_in 0 (xs ++ body ∷ ys))
        before = from_empty s.front
          where
            from_empty : replay (xs ++ body ∷ ys) ≡ Some s.between → s.between.calls ≡ last_calls (calls_in 0 (xs ++ body ∷ ys))
            from_empty e = calls_after 0 (xs ++ body ∷ ys) empty_space s.between (omega arith) e

    by : (length (calls_in 0 ys) < 1024) ⊎ (1024 ≤ length (calls_in 0 ys)) → 1024 ≤ length (calls_in 0 ys)
    by (inr enough) = enough
    by (inl few) =
        let same : length (calls_in (0 + length xs + 1) ys) ≡ length (calls_in 0 ys) = calls_length (0 + length xs + 1) 0 ys in
        let fewer : length (calls_in (0 + length xs + 1) ys) < 1024 = omega (arith, same, few) in
        absurd (found_in call _ _ _ (ap (txid_of call) (sym (calls ∙ kept_call (calls_in 0 xs) (calls_in (0 + length xs + 1) ys) (record { call = call; txid = 0 + length xs + 1 }) fewer)) ∙ new))
