-- A request's text is read as the request.
use Rattle.std.proofs.Common.{ℕ, ◌≡◌, ◌<◌, ◌≤◌, ◌+◌, ◌^◌, ◌/◌, ◌%◌, ◌==◌, ◌&&◌, List, [], ◌∷◌, ◌++◌, length, map, drop, Option, Some, Bool, true}
use Rattle.std.proofs.Common.{false, not, cond, nat_lt, refl, sym, ap, ◌∙◌, subst, arith, suc, append_assoc, append-nil, length-append, decimal}
use Rattle.std.proofs.lemmas.Bool.Decides.{nat_tests}
use Rattle.std.proofs.lemmas.List.{drop_at, length-map}
use Rattle.std.proofs.lemmas.Fmt.{decimal_nonempty}
use Rattle.std.specs.List.{list_any, AllByRecursion}
use Rattle.journal_core.specs.declared.request.Request.{Request}
use Rattle.journal_core.specs.declared.request.Request.TheVariants as request
use Rattle.journal_text.specs.declared.request_word.RequestWord.{RequestWord}
use Rattle.journal_text.specs.declared.request_word.RequestWord.TheVariants as word
use Rattle.journal_text.specs.declared.request_line.ReadRequest.{ReadRequest}
use Rattle.journal_text.specs.declared.request_line.ReadRequest.TheVariants.{Read}
use Rattle.journal_core.specs.Limits.{bodies_of}
use Rattle.base_words.specs.Words.{is_empty, words_of, first_word}
use Rattle.base_words.specs.Hex.{hex_text}
use Rattle.base_words.proofs.WordLaws.{some_of, first_first}
use Rattle.journal_text.specs.Texts.{numbers_text, bodies_text, request_text}
use Rattle.journal_text.specs.Reading.{word_text, word_of, leasts_of, has_bodies, fits_count, put_first, numbers_in, bodies_in, made, by_bodies, by_numbers, by_count, by_word, reading_of}
use Rattle.journal_text.proofs.WordLaws.{number_read}
use Rattle.journal_text.proofs.BodyLaws.{bodies_read}
use Rattle.journal_text.specs.Lines.{word_for, numbers_for, AreNumbers, IsBody, IsRequest}
use Rattle.journal_text.proofs.Spaced.{NoSpace, AreApart, spaced_all, bodies_apart, decimal_no_space, words_back}

-- ## The words of words with a space before each
joined-append : (ws vs : List (List ℕ)) → spaced_all (ws ++ vs) ≡ spaced_all ws ++ spaced_all vs
joined-append [] vs = refl
joined-append (w ∷ ws) vs = ap (λ xs. 32 ∷ (w ++ xs)) (joined-append ws vs) ∙ ap (λ xs. 32 ∷ xs) (sym (append_assoc w (spaced_all ws) (spaced_all vs)))

numbers_joined : (ns : List ℕ) → numbers_text ns ≡ spaced_all (map decimal ns)
unfolding numbers_text
numbers_joined [] = refl
numbers_joined (n ∷ ns) = ap (λ xs. 32 ∷ (decimal n ++ xs)) (numbers_joined ns)

bodies_joined : (bs : List (List ℕ)) → bodies_text bs ≡ spaced_all (map hex_text bs)
unfolding bodies_text
bodies_joined [] = refl
bodies_joined (b ∷ bs) = ap (λ xs. 32 ∷ (hex_text b ++ xs)) (bodies_joined bs)

apart-append : (ws vs : List (List ℕ)) → AreApart ws → AreApart vs → AreApart (ws ++ vs)
apart-append [] vs h k = k
apart-append (w ∷ ws) vs h k = (h.0, apart-append ws vs h.1 k)

numbers_apart : (ls ns : List ℕ) → AreNumbers ls ns → AreApart (map decimal ns)
numbers_apart [] [] h = tt
numbers_apart [] (n ∷ ns) h = absurd h
numbers_apart (l ∷ ls) [] h = absurd h
numbers_apart (l ∷ ls) (n ∷ ns) h = (decimal_no_space n h.1, numbers_apart ls ns h.2)

-- ## A number's and a body's word
numbers_read : (ls ns : List ℕ) (rest : List (List ℕ)) → AreNumbers ls ns → numbers_in ls (map decimal ns ++ rest) ≡ Some ns
numbers_read [] [] rest h = refl
numbers_read [] (n ∷ ns) rest h = absurd h
numbers_read (l ∷ ls) [] rest h = absurd h
numbers_read (l ∷ ls) (n ∷ ns) rest h =
    ap (λ o. put_first o (numbers_in ls (map decimal ns ++ rest))) (number_read l n h.0 h.1) ∙ ap (λ (o : Option (List ℕ)). put_first (Some n) o) (numbers_read ls ns rest h.2)

-- ## No word is empty
abbrev AreSome : List (List ℕ) → Type 0
AreSome [] = Unit {0}
AreSome (w ∷ ws) = (0 < length w) × AreSome ws

some_no_empty : (ws : List (List ℕ)) → AreSome ws → list_any is_empty ws ≡ false
some_no_empty [] h = refl
some_no_empty (w ∷ ws) h = rw (some_of w h.0) (some_no_empty ws h.1)

some-append : (ws vs : List (List ℕ)) → AreSome ws → AreSome vs → AreSome (ws ++ vs)
some-append [] vs h k = k
some-append (w ∷ ws) vs h k = (h.0, some-append ws vs h.1 k)

numbers_some : (ls ns : List ℕ) → AreNumbers ls ns → AreSome (map decimal ns)
numbers_some [] [] h = tt
numbers_some [] (n ∷ ns) h = absurd h
numbers_some (l ∷ ls) [] h = absurd h
numbers_some (l ∷ ls) (n ∷ ns) h = (decimal_nonempty n h.1, numbers_some ls ns h.2)

hex_some : (b : List ℕ) → 0 < length b → 0 < length (hex_text b)
unfolding hex_text
hex_some [] h = h
hex_some (x ∷ xs) h = omega arith

bodies_some : (bs : List (List ℕ)) → AllByRecursion IsBody bs → AreSome (map hex_text bs)
bodies_some [] h = tt
bodies_some (b ∷ bs) h = (hex_some b (h.0).some, bodies_some bs h.1)

numbers_length : (ls ns : List ℕ) → AreNumbers ls ns → length (map decimal ns) ≡ length ls
numbers_length [] [] h = refl
numbers_length [] (n ∷ ns) h = absurd h
numbers_length (l ∷ ls) [] h = absurd h
numbers_length (l ∷ ls) (n ∷ ns) h = ap (λ k. suc k) (numbers_length ls ns h.2)

-- ## The first word
word_apart : (w : RequestWord) → NoSpace (word_text w)
word_apart word.State = (refl, (refl, (refl, (refl, (refl, tt)))))
word_apart word.NewEpoch = (refl, (refl, (refl, tt)))
word_apart word.Start = (refl, (refl, (refl, (refl, (refl, tt)))))
word_apart word.Journal = (refl, (refl, (refl, (refl, (refl, (refl, (refl, tt)))))))
word_apart word.Finalize = (refl, (refl, (refl, (refl, (refl, (refl, (refl, (refl, tt))))))))
word_apart word.Prepare = (refl, (refl, (refl, (refl, (refl, (refl, (refl, tt)))))))
word_apart word.Fetch = (refl, (refl, (refl, (refl, (refl, tt)))))
word_apart word.Accept = (refl, (refl, (refl, (refl, (refl, (refl, tt))))))
word_apart word.Purge = (refl, (refl, (refl, (refl, (refl, tt)))))
word_apart word.Read = (refl, (refl, (refl, (refl, tt))))
word_apart word.Manifest = (refl, (refl, (refl, (refl, (refl, (refl, (refl, (refl, tt))))))))

word_some : (w : RequestWord) → is_empty (word_text w) ≡ false
word_some word.State = refl
word_some word.NewEpoch = refl
word_some word.Start = refl
word_some word.Journal = refl
word_some word.Finalize = refl
word_some word.Prepare = refl
word_some word.Fetch = refl
word_some word.Accept = refl
word_some word.Purge = refl
word_some word.Read = refl
word_some word.Manifest = refl

word_read : (w : RequestWord) → word_of (word_text w) ≡ Some w
unfolding word_of
word_read word.State = refl
word_read word.NewEpoch = refl
word_read word.Start = refl
word_read word.Journal = refl
word_read word.Finalize = refl
word_read word.Prepare = refl
word_read word.Fetch = refl
word_read word.Accept = refl
word_read word.Purge = refl
word_read word.Read = refl
word_read word.Manifest = refl

-- ## The whole text
abbrev words_for : Request → List (List ℕ)
words_for r = map decimal (numbers_for r) ++ map hex_text (bodies_of r)

text_parts : (r : Request) → request_text r ≡ word_text (word_for r) ++ (numbers_text (numbers_for r) ++ bodies_text (bodies_of r))
unfolding request_text numbers_text bodies_text
text_parts request.State = refl
text_parts (request.NewEpoch e) = ap (λ xs. word_text word.NewEpoch ++ xs) (sym (append-nil (numbers_text (e ∷ []))))
text_parts (request.Start h m) = ap (λ xs. word_text word.Start ++ xs) (sym (append-nil (numbers_text (numbers_for (request.Start h m)))))
text_parts (request.Journal h m b) = append_assoc (word_text word.Journal) (numbers_text (numbers_for (request.Journal h m b))) (bodies_text b.bodies)
text_parts (request.Finalize h m e) = ap (λ xs. word_text word.Finalize ++ xs) (sym (append-nil (numbers_text (numbers_for (request.Finalize h m e)))))
text_parts (request.Prepare h m) = ap (λ xs. word_text word.Prepare ++ xs) (sym (append-nil (numbers_text (numbers_for (request.Prepare h m)))))
text_parts (request.Fetch h m f) = ap (λ xs. word_text word.Fetch ++ xs) (sym (append-nil (numbers_text (numbers_for (request.Fetch h m f)))))
text_parts (request.Accept h b) = append_assoc (word_text word.Accept) (numbers_text (numbers_for (request.Accept h b))) (bodies_text b.bodies)
text_parts (request.Purge h m) = ap (λ xs. word_text word.Purge ++ xs) (sym (append-nil (numbers_text (numbers_for (request.Purge h m)))))
text_parts (request.Read f) = ap (λ xs. word_text word.Read ++ xs) (sym (append-nil (numbers_text (f ∷ []))))
text_parts request.Manifest = refl

text_joined : (r : Request) → request_text r ≡ word_text (word_for r) ++ spaced_all (words_for r)
text_joined r =
    text_parts r ∙ ap (λ xs. word_text (word_for r) ++ (xs ++ bodies_text (bodies_of r))) (numbers_joined (numbers_for r))
    ∙ ap (λ xs. word_text (word_for r) ++ (spaced_all (map decimal (numbers_for r)) ++ xs)) (bodies_joined (bodies_of r))
    ∙ ap (λ xs. word_text (word_for r) ++ xs) (sym (joined-append (map decimal (numbers_for r)) (map hex_text (bodies_of r))))

made_again : (r : Request) → made (word_for r) (numbers_for r) (bodies_of r) ≡ r
made_again request.State = refl
made_again (request.NewEpoch e) = refl
made_again (request.Start h m) = refl
made_again (request.Journal h m b) = refl
made_again (request.Finalize h m e) = refl
made_again (request.Prepare h m) = refl
made_again (request.Fetch h m f) = refl
made_again (request.Accept h b) = refl
made_again (request.Purge h m) = refl
made_again (request.Read f) = refl
made_again request.Manifest = refl

plain_none : (r : Request) → has_bodies (word_for r) ≡ false → bodies_of r ≡ []
plain_none request.State h = refl
plain_none (request.NewEpoch e) h = refl
plain_none (request.Start h m) k = refl
plain_none (request.Journal h m b) k = cc
plain_none (request.Finalize h m e) k = refl
plain_none (request.Prepare h m) k = refl
plain_none (request.Fetch h m f) k = refl
plain_none (request.Accept h b) k = cc
plain_none (request.Purge h m) k = refl
plain_none (request.Read f) k = refl
plain_none request.Manifest k = refl

count_fits : (w : RequestWord) (ns bs : List (List ℕ)) → length ns ≡ length (leasts_of w) → (has_bodies w ≡ false → length bs ≡ 0)
    → (has_bodies w ≡ true → 0 < length bs) → fits_count w (suc (length (ns ++ bs))) ≡ true
count_fits w ns bs e none some = by_kind (has_bodies w) none some
  where
    by_kind : (b : Bool) → (b ≡ false → length bs ≡ 0) → (b ≡ true → 0 < length bs)
        → cond b (nat_lt (length (leasts_of w) + 1) (suc (length (ns ++ bs)))) ((length (leasts_of w) + 1) == suc (length (ns ++ bs))) ≡ true
    by_kind true n s = let l : 0 < length bs = s refl in grind (arith, nat_tests, length-append ns bs)
    by_kind false n s = let l : length bs ≡ 0 = n refl in grind (arith, nat_tests, length-append ns bs)

pub text_read : (r : Request) → IsRequest r → reading_of (request_text r) ≡ Read r
unfolding reading_of
text_read r h =
    let w = word_for r in
    let ws = words_for r in
    let split : words_of (request_text r) ≡ word_text w ∷ ws =
    ap words_of (text_joined r) ∙ words_back ws (word_text w) (word_apart w)
    (apart-append (map decimal (numbers_for r)) (map hex_text (bodies_of r)) (numbers_apart (leasts_of w) (numbers_for r) h.numbers)
    (bodies_apart (bodies_of r))) in
    let first : first_word (word_text w ∷ ws) ≡ word_text w = first_first (word_text w) ws (word_some w) in
    let whole : list_any is_empty (word_text w ∷ ws) ≡ false =
    rw (word_some w) (some_no_empty ws (some-append (map decimal (numbers_for r)) (map hex_text (bodies_of r))
    (numbers_some (leasts_of w) (numbers_for r) h.numbers) (bodies_some (bodies_of r) h.bodies))) in
    let long : length (map decimal (numbers_for r)) ≡ length (leasts_of w) = numbers_length (leasts_of w) (numbers_for r) h.numbers in
    let same : length (map hex_text (bodies_of r)) ≡ length (bodies_of r) = length-map (bodies_of r) hex_text in
    let fits : fits_count w (suc (length ws)) ≡ true =
    count_fits w (map decimal (numbers_for r)) (map hex_text (bodies_of r)) long (λ e. same ∙ ap length (plain_none r e)) (λ e. let l : 0 < length (bodies_of r) = h.some e in omega arith) in
    let rest : drop (length (leasts_of w)) ws ≡ map hex_text (bodies_of r) = drop_at (map decimal (numbers_for r)) (map hex_text (bodies_of r)) (length (leasts_of w)) long in
    let P : List (List ℕ) → Type 0 = λ us. by_word (word_of (first_word us)) us ≡ Read r in
    subst P (sym split)
    (ap (λ t. by_word (word_of t) (word_text w ∷ ws)) first ∙ ap (λ o. by_word o (word_text w ∷ ws)) (word_read w)
    ∙ ap (λ b. by_count w (word_text w ∷ ws) (not b && fits_count w (suc (length ws)))) whole ∙ ap (λ b. by_count w (word_text w ∷ ws) b) fits
    ∙ ap (λ o. by_numbers w o (drop (length (leasts_of w)) ws)) (numbers_read (leasts_of w) (numbers_for r) (map hex_text (bodies_of r)) h.numbers)
    ∙ ap (λ us. by_bodies w (numbers_for r) (bodies_in us)) rest ∙ ap (by_bodies w (numbers_for r)) (bodies_read (bodies_of r) h.bodies)
    ∙ ap (λ q. let a : ReadRequest = Read q in a) (made_again r))
