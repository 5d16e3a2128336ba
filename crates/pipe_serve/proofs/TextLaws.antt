-- The bytes of texts: spaces, and digits and letters. So no sign, point or line feed is among them.
use Rattle.std.proofs.Common.{ℕ, ◌≡◌, ◌<◌, ◌≤◌, ◌+◌, ◌-◌, ◌^◌, ◌/◌, ◌%◌, ◌==◌, ◌||◌, nat_le, List, [], ◌∷◌, ◌++◌, length, drop, Option}
use Rattle.std.proofs.Common.{Some, None, Bool, true, false, cond, refl, sym, subst, arith, decimal}
use Rattle.std.specs.Prelude.{codes}
use Rattle.std.specs.List.{AllByRecursion, list_all}
use Rattle.std.specs.Str.{bytes_eq}
use Rattle.std.specs.Str.Parse.{digits_value}
use Rattle.std.proofs.lemmas.Bool.{and_parts}
use Rattle.std.proofs.lemmas.Bool.Decides.{nat_tests}
use Rattle.std.proofs.lemmas.Fmt.{decimal_by_steps}
use Rattle.std.proofs.lemmas.Slice.Eq.{bytes_eq-Decides}
use Rattle.base_words.specs.Hex.{hex_digit, hex_text, bytes_in}
use Rattle.base_words.specs.Words.{words_of, first_word, joined}
use Rattle.base_words.specs.WordNumbers.{is_number}
use Rattle.base_words.proofs.HexLaws.{bytes_found}
use Rattle.base_words.proofs.NumberLaws.{told_number}
use Rattle.base_words.proofs.WordLaws.{words_joined}
use Rattle.journal_core.specs.declared.refusal.Refusal.{Refusal}
use Rattle.journal_core.specs.declared.refusal.Refusal.TheVariants as refusal
use Rattle.journal_core.specs.declared.reply.Reply.{Reply}
use Rattle.journal_core.specs.declared.reply.Reply.TheVariants as reply
use Rattle.journal_core.specs.declared.request.Request.{Request}
use Rattle.journal_core.specs.declared.segment_info.SegmentInfo.{SegmentInfo}
use Rattle.journal_core.specs.Refusals.{refusal_number, refusal_name, refusal_field}
use Rattle.journal_text.specs.Exact.{IsWide, AreWide, IsWideIf, IsReadable}
use Rattle.journal_text.specs.Reading.{word_text, all_words, word_among, word_of, leasts_of, number_in, put_first, numbers_in}
use Rattle.journal_text.specs.Reading.{body_of_size, body_in, bodies_in, by_bodies, by_numbers, by_count, by_word, reading_of}
use Rattle.journal_text.specs.Texts.{spaced, numbers_text, bodies_text, kind_text, accepted_text, told_text, newest_text, field_text, reply_text}
use Rattle.journal_text.specs.declared.request_line.ReadRequest.TheVariants.{Read}
use Rattle.journal_text.specs.declared.request_word.RequestWord.{RequestWord}
use Rattle.journal_text.specs.declared.request_word.RequestWord.TheVariants as word

-- ## Bytes
-- a space, or no less than a digit
abbrev pub is_fair : ℕ → Bool
is_fair b = (b == 32) || nat_le 48 b

abbrev pub IsFair : List ℕ → Type 0
IsFair bytes = list_all is_fair bytes ≡ true

fair_high : (b : ℕ) → 48 ≤ b → is_fair b ≡ true
fair_high b l = grind (arith, nat_tests)

fair-cons : (b : ℕ) (bs : List ℕ) → is_fair b ≡ true → IsFair bs → IsFair (b ∷ bs)
fair-cons b bs h k = rw (h, k) refl

pub fair-append : (xs ys : List ℕ) → IsFair xs → IsFair ys → IsFair (xs ++ ys)
fair-append [] ys h k = k
fair-append (x ∷ xs) ys h k =
    let p = and_parts (is_fair x) (list_all is_fair xs) h in
    fair-cons x (xs ++ ys) p.0 (fair-append xs ys p.1 k)

pub fair_decimal : (n : ℕ) → n < 2 ^ 64 → IsFair (decimal n)
fair_decimal n h =
    decimal_by_steps (λ m ds. IsFair ds) (λ m l. fair-cons (48 + m) [] (fair_high (48 + m) (omega arith)) refl)
    (λ m ds l k. fair-append ds ((48 + m % 10) ∷ []) k (fair-cons (48 + m % 10) [] (fair_high (48 + m % 10) (omega arith)) refl)) n h

fair_digit : (d : ℕ) → is_fair (hex_digit d) ≡ true
fair_digit d = grind (arith, nat_tests)

fair_hex : (bs : List ℕ) → IsFair (hex_text bs)
unfolding hex_text
fair_hex [] = refl
fair_hex (b ∷ bs) = fair-cons (hex_digit (b / 16)) (hex_digit (b % 16) ∷ hex_text bs) (fair_digit (b / 16)) (fair-cons (hex_digit (b % 16)) (hex_text bs) (fair_digit (b % 16)) (fair_hex bs))

-- ## Words of a request
abbrev AreFair : List (List ℕ) → Type 0
AreFair words = AllByRecursion IsFair words

fair_joined : (words : List (List ℕ)) → AreFair words → IsFair (joined words)
fair_joined [] h = refl
fair_joined (w ∷ []) h = h.0
fair_joined (w ∷ v ∷ words) h = fair-append w (32 ∷ joined (v ∷ words)) h.0 (fair-cons 32 (joined (v ∷ words)) refl (fair_joined (v ∷ words) h.1))

fair_number_by : (l : ℕ) (w : List ℕ) (n : ℕ) (b : Bool) → is_number l (2 ^ 64 - 1) w ≡ b → cond b (let o : Option ℕ = Some (digits_value 10 w) in o) None ≡ Some n → IsFair w
fair_number_by l w n true h e =
    let t = told_number l (2 ^ 64 - 1) w h in
    let high : digits_value 10 w ≤ 2 ^ 64 - 1 = t.3 in
    subst IsFair t.1 (fair_decimal (digits_value 10 w) (omega (arith, high)))
fair_number_by l w n false h e = absurd cc

fair_number : (l : ℕ) (w : List ℕ) (n : ℕ) → number_in l w ≡ Some n → IsFair w
unfolding number_in
fair_number l w n e = fair_number_by l w n (is_number l (2 ^ 64 - 1) w) refl e

fair_body_by : (w bs : List ℕ) (o : Option (List ℕ)) → bytes_in w ≡ o → body_of_size o ≡ Some bs → IsFair w
fair_body_by w bs None h e = absurd cc
fair_body_by w bs (Some bytes) h e = let is = bytes_found w bytes h in subst IsFair is.text (fair_hex bytes)

fair_body : (w bs : List ℕ) → body_in w ≡ Some bs → IsFair w
unfolding body_in
fair_body w bs e = fair_body_by w bs (bytes_in w) refl e

fair_bodies_by : (w : List ℕ) (words all : List (List ℕ)) (o : Option (List ℕ)) (p : Option (List (List ℕ))) → body_in w ≡ o → bodies_in words ≡ p → put_first o p ≡ Some all
    → ((bs : List (List ℕ)) → bodies_in words ≡ Some bs → AreFair words) → AreFair (w ∷ words)
fair_bodies_by w words all None p h k e on = absurd cc
fair_bodies_by w words all (Some b) None h k e on = absurd cc
fair_bodies_by w words all (Some b) (Some bs) h k e on = (fair_body w b h, on bs k)

fair_bodies : (words bodies : List (List ℕ)) → bodies_in words ≡ Some bodies → AreFair words
fair_bodies [] bodies e = tt
fair_bodies (w ∷ words) bodies e = fair_bodies_by w words bodies (body_in w) (bodies_in words) refl refl e (fair_bodies words)

fair_numbers_by : (l : ℕ) (ls : List ℕ) (w : List ℕ) (words bodies : List (List ℕ)) (all : List ℕ) (o : Option ℕ) (p : Option (List ℕ)) → number_in l w ≡ o → numbers_in ls words ≡ p
    → put_first o p ≡ Some all → ((ns : List ℕ) → numbers_in ls words ≡ Some ns → AreFair words) → AreFair (w ∷ words)
fair_numbers_by l ls w words bodies all None p h k e on = absurd cc
fair_numbers_by l ls w words bodies all (Some n) None h k e on = absurd cc
fair_numbers_by l ls w words bodies all (Some n) (Some ns) h k e on = (fair_number l w n h, on ns k)

fair_words : (ls ns : List ℕ) (words bodies : List (List ℕ)) → numbers_in ls words ≡ Some ns → bodies_in (drop (length ls) words) ≡ Some bodies → AreFair words
fair_words [] ns words bodies e f = fair_bodies words bodies f
fair_words (l ∷ ls) ns [] bodies e f = tt
fair_words (l ∷ ls) ns (w ∷ words) bodies e f =
    fair_numbers_by l ls w words bodies ns (number_in l w) (numbers_in ls words) refl refl e (λ ms h. fair_words ls ms words bodies h f)

fair_word : (w : RequestWord) → IsFair (word_text w)
fair_word word.State = refl
fair_word word.NewEpoch = refl
fair_word word.Start = refl
fair_word word.Journal = refl
fair_word word.Finalize = refl
fair_word word.Prepare = refl
fair_word word.Fetch = refl
fair_word word.Accept = refl
fair_word word.Purge = refl
fair_word word.Read = refl
fair_word word.Manifest = refl

fair_among_by : (w : RequestWord) (ws : List RequestWord) (text : List ℕ) (b : Bool) → bytes_eq text (word_text w) ≡ b → ((v : RequestWord) → word_among ws text ≡ Some v → IsFair text)
    → (v : RequestWord) → cond b (let o : Option RequestWord = Some w in o) (word_among ws text) ≡ Some v → IsFair text
fair_among_by w ws text true h on v e = subst IsFair (sym ((bytes_eq-Decides text (word_text w)).0 h)) (fair_word w)
fair_among_by w ws text false h on v e = on v e

fair_among : (ws : List RequestWord) (text : List ℕ) (v : RequestWord) → word_among ws text ≡ Some v → IsFair text
fair_among [] text v e = absurd cc
fair_among (w ∷ ws) text v e = fair_among_by w ws text (bytes_eq text (word_text w)) refl (fair_among ws text) v e

fair_first : (text : List ℕ) (v : RequestWord) → word_of text ≡ Some v → IsFair text
unfolding word_of
fair_first text v e = fair_among all_words text v e

-- ## A request's text
read_bodies : (v : RequestWord) (ns : List ℕ) (words : List (List ℕ)) (r : Request) (o : Option (List (List ℕ))) → bodies_in words ≡ o → by_bodies v ns o ≡ Read r
    → (bodies : List (List ℕ)) × (bodies_in words ≡ Some bodies)
read_bodies v ns words r None h e = absurd cc
read_bodies v ns words r (Some bodies) h e = (bodies, h)

read_numbers : (v : RequestWord) (words : List (List ℕ)) (r : Request) (o : Option (List ℕ)) → numbers_in (leasts_of v) words ≡ o
    → by_numbers v o (drop (length (leasts_of v)) words) ≡ Read r → AreFair words
read_numbers v words r None h e = absurd cc
read_numbers v words r (Some ns) h e =
    let b = read_bodies v ns (drop (length (leasts_of v)) words) r (bodies_in (drop (length (leasts_of v)) words)) refl e in
    fair_words (leasts_of v) ns words b.0 h b.1

read_count : (v : RequestWord) (words : List (List ℕ)) (r : Request) (b : Bool) → by_count v words b ≡ Read r → AreFair (drop 1 words)
read_count v words r true e = read_numbers v (drop 1 words) r (numbers_in (leasts_of v) (drop 1 words)) refl e
read_count v words r false e = absurd cc

read_word : (words : List (List ℕ)) (r : Request) (o : Option RequestWord) → word_of (first_word words) ≡ o → by_word o words ≡ Read r → IsFair (first_word words) × AreFair (drop 1 words)
read_word words r None h e = absurd cc
read_word words r (Some v) h e = (fair_first (first_word words) v h, read_count v words r _ e)

-- the first word isn't empty, or the words aren't
fair_all : (words : List (List ℕ)) → IsFair (first_word words) → AreFair (drop 1 words) → AreFair words
fair_all [] h k = tt
fair_all ([] ∷ words) h k = (refl, k)
fair_all ((b ∷ bs) ∷ words) h k = (h, k)

pub fair_request : (text : List ℕ) (r : Request) → reading_of text ≡ Read r → IsFair text
unfolding reading_of
fair_request text r e =
    let h = read_word (words_of text) r (word_of (first_word (words_of text))) refl e in
    subst IsFair (words_joined text) (fair_joined (words_of text) (fair_all (words_of text) h.0 h.1))

-- ## A reply's text
pub fair_spaced : (w : List ℕ) → IsFair w → IsFair (spaced w)
fair_spaced w h = fair-cons 32 w refl h

fair_one : (n : ℕ) → IsWide n → IsFair (numbers_text (n ∷ []))
unfolding numbers_text
fair_one n h = fair-append (spaced (decimal n)) [] (fair_spaced (decimal n) (fair_decimal n h)) refl

fair_two : (m n : ℕ) → IsWide m → IsWide n → IsFair (numbers_text (m ∷ n ∷ []))
unfolding numbers_text
fair_two m n h k = fair-append (spaced (decimal m)) (numbers_text (n ∷ [])) (fair_spaced (decimal m) (fair_decimal m h)) (fair_one n k)

fair_edits : (bs : List (List ℕ)) → IsFair (bodies_text bs)
unfolding bodies_text
fair_edits [] = refl
fair_edits (b ∷ bs) = fair-append (spaced (hex_text b)) (bodies_text bs) (fair_spaced (hex_text b) (fair_hex b)) (fair_edits bs)

fair_kind : (b : Bool) → IsFair (kind_text b)
fair_kind true = refl
fair_kind false = refl

fair_accepted : (b : Bool) → IsFair (accepted_text b)
fair_accepted true = refl
fair_accepted false = refl

fair_told : (t : Option SegmentInfo) → AreWide t → IsFair (told_text t)
fair_told None h = refl
fair_told (Some g) h =
    fair-append (numbers_text (g.start ∷ []) ++ kind_text g.is_final ++ numbers_text (g.epoch ∷ []) ++ accepted_text g.accepted) (numbers_text (g.end ∷ []))
    (fair-append (numbers_text (g.start ∷ []) ++ kind_text g.is_final ++ numbers_text (g.epoch ∷ [])) (accepted_text g.accepted)
    (fair-append (numbers_text (g.start ∷ []) ++ kind_text g.is_final) (numbers_text (g.epoch ∷ []))
    (fair-append (numbers_text (g.start ∷ [])) (kind_text g.is_final) (fair_one g.start h.0) (fair_kind g.is_final)) (fair_one g.epoch h.2))
    (fair_accepted g.accepted))
    (fair_one g.end h.1)

fair_newest : (s : Option ℕ) → IsWideIf s → IsFair (newest_text s)
fair_newest None h = refl
fair_newest (Some n) h = fair_one n h

fair_field : (s : Option ℕ) → IsWideIf s → IsFair (field_text s)
fair_field None h = refl
fair_field (Some n) h = fair_one n h

fair_name : (c : Refusal) → IsFair (refusal_name c) × IsWide (refusal_number c)
unfolding refusal_name
fair_name refusal.Down = (refl, omega arith)
fair_name (refusal.Limit n) = (refl, omega arith)
fair_name (refusal.EpochRefused n) = (refl, omega arith)
fair_name (refusal.OldSerial n) = (refl, omega arith)
fair_name (refusal.NotWriter n) = (refl, omega arith)
fair_name refusal.NoOpenSegment = (refl, omega arith)
fair_name (refusal.WrongSegment n) = (refl, omega arith)
fair_name (refusal.WrongTxid n) = (refl, omega arith)
fair_name (refusal.SegmentFinal n) = (refl, omega arith)
fair_name (refusal.SegmentHasEdits n) = (refl, omega arith)
fair_name refusal.NoSegment = (refl, omega arith)
fair_name (refusal.OtherEpoch n) = (refl, omega arith)
fair_name (refusal.LengthDiffers n) = (refl, omega arith)
fair_name (refusal.Purged n) = (refl, omega arith)
fair_name (refusal.NotHere n) = (refl, omega arith)
fair_name refusal.DiskFault = (refl, omega arith)
fair_name refusal.OutOfMemory = (refl, omega arith)
fair_name refusal.BadFile = (refl, omega arith)

pub fair_reply : (a : Reply) → IsReadable a → IsFair (reply_text a)
unfolding reply_text
fair_reply reply.Ok h = refl
fair_reply (reply.State p) h = fair-append (codes "state") (numbers_text (p ∷ [])) refl (fair_one p h)
fair_reply (reply.NewEpoch s) h = fair-append (codes "new") (newest_text s) refl (fair_newest s h)
fair_reply (reply.Prepared w c t) h =
    fair-append (codes "prepared" ++ numbers_text (w ∷ c ∷ [])) (told_text t) (fair-append (codes "prepared") (numbers_text (w ∷ c ∷ [])) refl (fair_two w c h.0 h.1)) (fair_told t h.2)
fair_reply (reply.Edits b) h =
    fair-append (codes "edits" ++ numbers_text (b.first ∷ [])) (bodies_text b.bodies) (fair-append (codes "edits") (numbers_text (b.first ∷ [])) refl (fair_one b.first h.0)) (fair_edits b.bodies)
fair_reply (reply.Segments lines) h = absurd h
fair_reply (reply.Refused c) h =
    fair-append (codes "refused" ++ numbers_text (refusal_number c ∷ []) ++ spaced (refusal_name c)) (field_text (refusal_field c))
    (fair-append (codes "refused" ++ numbers_text (refusal_number c ∷ [])) (spaced (refusal_name c))
    (fair-append (codes "refused") (numbers_text (refusal_number c ∷ [])) refl (fair_one (refusal_number c) (fair_name c).1)) (fair_spaced (refusal_name c) (fair_name c).0))
    (fair_field (refusal_field c) h)
