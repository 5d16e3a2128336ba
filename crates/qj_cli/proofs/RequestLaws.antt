-- An input of request lines alone: the next line after some of them is a request, and isn't too
-- long.
use Rattle.std.proofs.Common.{◌≡◌, ℕ, ◌+◌, ◌<◌, ◌≤◌, List, [], ◌∷◌, ◌++◌, refl, sym, ap, subst, ◌∙◌, arith, inl, inr, ◌⊎◌, length}
use Rattle.std.specs.Prelude.{◌≢◌}
use Rattle.std.proofs.lemmas.List.{append_assoc}
use Rattle.journal_core.specs.declared.request.Request.{Request}
use Rattle.journal_text.specs.Reading.{reading_of}
use Rattle.journal_text.specs.declared.request_line.ReadRequest.TheVariants.{Read, Bad}
use Rattle.journal_session.specs.Lines.{longest_line, IsLine, AreLines, lines_text}
use Rattle.journal_session.specs.Session.{AreAll, IsBadNext, IsLong}
use Rattle.qj_cli.specs.Complete.{AreRequests}

-- ## Lines apart
joined : (line rest : List ℕ) → (line ++ 10 ∷ []) ++ rest ≡ line ++ 10 ∷ rest
joined line rest = append_assoc line (10 ∷ []) rest

-- two lines with what follows their ends
first_line : (a b xs ys : List ℕ) → IsLine a → IsLine b → a ++ 10 ∷ xs ≡ b ++ 10 ∷ ys → (a ≡ b) × (xs ≡ ys)
first_line [] [] xs ys p q e = (refl, cc e)
first_line [] (y ∷ b) xs ys p q e = absurd (q.0 (cc e))
first_line (x ∷ a) [] xs ys p q e = absurd (p.0 (cc e))
first_line (x ∷ a) (y ∷ b) xs ys p q e =
    let same = first_line a b xs ys p.1 q.1 (cc e) in
    let heads : x ≡ y = cc e in
    (λ i. heads i ∷ same.0 i, same.1)

-- a line has no end in it
no_end : (a xs line : List ℕ) → IsLine line → a ++ 10 ∷ xs ≡ line → ⊥
no_end [] xs [] p e = cc e
no_end [] xs (y ∷ line) p e = p.0 (cc e)
no_end (x ∷ a) xs [] p e = cc e
no_end (x ∷ a) xs (y ∷ line) p e = no_end a xs line p.1 (cc e)

-- what has no end in it ends no later than the first line
front_short : (a front xs ys : List ℕ) → IsLine front → a ++ 10 ∷ xs ≡ front ++ ys → length front ≤ length a
front_short a [] xs ys p e = omega arith
front_short [] (y ∷ front) xs ys p e = absurd (p.0 (cc e))
front_short (x ∷ a) (y ∷ front) xs ys p e = let less : length front ≤ length a = front_short a front xs ys p.1 (cc e) in omega (arith, less)

-- ## Lines after lines
-- request lines, and nothing else, stand after some that were taken from the front
record AreBehind (rest : List ℕ) : Type 0 where
  lines : List (List ℕ)
  each : AreLines lines
  requests : AreRequests lines
  spelled : rest ≡ lines_text lines

no_text : (line rest : List ℕ) → (line ++ 10 ∷ []) ++ rest ≡ [] → ⊥
no_text [] rest e = cc e
no_text (x ∷ line) rest e = cc e

behind : (done lines : List (List ℕ)) (rest : List ℕ) → AreLines done → AreLines lines → AreRequests lines → lines_text done ++ rest ≡ lines_text lines → AreBehind rest
behind [] lines rest are each requests e = record { lines = lines; each = each; requests = requests; spelled = e }
behind (a ∷ done) [] rest are each requests e = absurd (no_text a (lines_text done ++ rest) (sym (append_assoc (a ++ 10 ∷ []) (lines_text done) rest) ∙ e))
behind (a ∷ done) (b ∷ lines) rest are each requests e =
    let same = first_line a b (lines_text done ++ rest) (lines_text lines) are.0 each.0
    (sym (joined a (lines_text done ++ rest)) ∙ sym (append_assoc (a ++ 10 ∷ []) (lines_text done) rest) ∙ e ∙ joined b (lines_text lines)) in
    behind done lines rest are.2 each.2 requests.1 same.1

-- ## The next line
is_read : (a b : List ℕ) (request : Request) (rule : ℕ) → a ≡ b → reading_of b ≡ Read request → reading_of a ≡ Bad rule → ⊥
is_read a b request rule same reads bad = cc (sym bad ∙ ap reading_of same ∙ reads)

-- a line with its end is the first of them
first_reads : (line after : List ℕ) (rule : ℕ) (are : AreBehind (line ++ 10 ∷ after)) → IsLine line → reading_of line ≡ Bad rule → ⊥
first_reads line after rule are one bad = by are.lines are.each are.requests are.spelled
  where
    by : (lines : List (List ℕ)) → AreLines lines → AreRequests lines → line ++ 10 ∷ after ≡ lines_text lines → ⊥
    by [] each requests e = no_end line after [] tt e
    by (b ∷ lines) each requests e =
        let same = first_line line b after (lines_text lines) one each.0 (e ∙ joined b (lines_text lines)) in
        is_read line b requests.0.0 rule same.0 requests.0.1 bad

-- a line without an end isn't lines
none_left : (line : List ℕ) → AreBehind line → IsLine line → line ≢ [] → ⊥
none_left line are one some = by are.lines are.spelled
  where
    by : (lines : List (List ℕ)) → line ≡ lines_text lines → ⊥
    by [] e = some e
    by (b ∷ lines) e = no_end b (lines_text lines) line one (sym (joined b (lines_text lines)) ∙ sym e)

-- what has no end in it isn't longer than a line
front_within : (front after : List ℕ) (are : AreBehind (front ++ after)) → IsLine front → length front ≤ longest_line
front_within front after are one = by are.lines are.each are.spelled
  where
    by : (lines : List (List ℕ)) → AreLines lines → front ++ after ≡ lines_text lines → length front ≤ longest_line
    by [] each e = none front after e
      where
        none : (xs ys : List ℕ) → xs ++ ys ≡ [] → length xs ≤ longest_line
        none [] ys d = omega arith
        none (x ∷ xs) ys d = absurd (cc d)
    by (b ∷ lines) each e =
        let less : length front ≤ length b = front_short b front (lines_text lines) after one (sym (joined b (lines_text lines)) ∙ sym e) in
        let short : length b ≤ longest_line = each.1 in
        omega (arith, less, short)

-- ## An input of requests
-- some of its lines were answered, and this is left
record AreLeft (rest : List ℕ) : Type 0 where
  either : AreBehind rest ⊎ AreBehind (rest ++ 10 ∷ [])

are_left : (told : List ℕ) (lines done : List (List ℕ)) (rest : List ℕ) → AreAll told lines → AreLines lines → AreRequests lines → AreLines done → told ≡ lines_text done ++ rest → AreLeft rest
are_left told lines done rest all each requests are front = record { either = by all.0 }
  where
    by : (told ≡ lines_text lines) ⊎ ((told ++ 10 ∷ []) ≡ lines_text lines) → AreBehind rest ⊎ AreBehind (rest ++ 10 ∷ [])
    by (inl e) = inl (behind done lines rest are each requests (sym front ∙ e))
    by (inr e) = inr (behind done lines (rest ++ 10 ∷ []) are each requests (sym (append_assoc (lines_text done) rest (10 ∷ [])) ∙ ap (λ (x : List ℕ). x ++ 10 ∷ []) (sym front) ∙ e))

next_reads : (rest : List ℕ) (room rule : ℕ) → AreLeft rest → IsBadNext rest room rule → ⊥
next_reads rest room rule left bad = by left.either bad.next.place
  where
    by : AreBehind rest ⊎ AreBehind (rest ++ 10 ∷ [])
        → ((after : List ℕ) × (rest ≡ bad.line ++ 10 ∷ after) × (length bad.line < room)) ⊎ ((rest ≡ bad.line) × (bad.line ≢ []) × (length bad.line ≤ room)) → ⊥
    by (inl are) (inl (after, is, within)) = first_reads bad.line after rule (subst AreBehind is are) bad.next.one bad.bad
    by (inl are) (inr (is, some, within)) = none_left bad.line (subst AreBehind is are) bad.next.one some
    by (inr are) (inl (after, is, within)) =
        first_reads bad.line (after ++ 10 ∷ []) rule (subst AreBehind (ap (λ (x : List ℕ). x ++ 10 ∷ []) is ∙ append_assoc bad.line (10 ∷ after) (10 ∷ [])) are) bad.next.one bad.bad
    by (inr are) (inr (is, some, within)) = first_reads bad.line [] rule (subst AreBehind (ap (λ (x : List ℕ). x ++ 10 ∷ []) is) are) bad.next.one bad.bad

none_long : (rest : List ℕ) → AreLeft rest → IsLong rest (longest_line + 1) → ⊥
none_long rest left long = by left.either
  where
    over : length long.front ≤ longest_line → ⊥
    over within = let more : longest_line + 1 ≤ length long.front = long.long in omega (arith, within, more)

    by : AreBehind rest ⊎ AreBehind (rest ++ 10 ∷ []) → ⊥
    by (inl are) = over (front_within long.front long.behind (subst AreBehind long.spelled are) long.one)
    by (inr are) =
        over (front_within long.front (long.behind ++ 10 ∷ [])
        (subst AreBehind (ap (λ (x : List ℕ). x ++ 10 ∷ []) long.spelled ∙ append_assoc long.front long.behind (10 ∷ [])) are) long.one)

module _ (told : List ℕ) (lines done : List (List ℕ)) (rest : List ℕ) (all : AreAll told lines) (each : AreLines lines) (requests : AreRequests lines) (are : AreLines done)
    (front : told ≡ lines_text done ++ rest) where
  pub no_bad_next : (room rule : ℕ) → IsBadNext rest room rule → ⊥
  no_bad_next room rule bad = next_reads rest room rule (are_left told lines done rest all each requests are front) bad

  pub no_long_next : IsLong rest (longest_line + 1) → ⊥
  no_long_next long = none_long rest (are_left told lines done rest all each requests are front) long
