-- The text of a reply is its words, and it is read exactly where it is one.
use Rattle.std.proofs.Common.{ℕ, ◌≡◌, ◌<◌, ◌^◌, List, [], ◌∷◌, ◌++◌, map, Option, Some, None, Bool, true, false, refl, sym, ap, ◌∙◌, arith, decimal, append_assoc, append-nil}
use Rattle.std.specs.Prelude.{codes}
use Rattle.base_words.specs.Words.{words_of}
use Rattle.base_words.specs.Hex.{hex_text}
use Rattle.base_words.proofs.WordLaws.{words_some}
use Rattle.journal_core.specs.Refusals.{refusal_number, refusal_name, refusal_field}
use Rattle.journal_core.specs.declared.segment_info.SegmentInfo.{SegmentInfo}
use Rattle.journal_core.specs.declared.request.Request.{Request}
use Rattle.journal_core.specs.declared.reply.Reply.{Reply}
use Rattle.journal_core.specs.declared.reply.Reply.TheVariants as reply
use Rattle.journal_core.specs.declared.refusal.Refusal.{Refusal}
use Rattle.journal_core.specs.declared.refusal.Refusal.TheVariants as refusal
use Rattle.journal_text.specs.Texts.{spaced, numbers_text, bodies_text, kind_text, accepted_text, told_text, newest_text, field_text, reply_text}
use Rattle.journal_text.specs.ReplyReading.{reply_among, reply_of}
use Rattle.journal_text.specs.Exact.{AreWide, IsWideIf, IsReadable, IsTextOf, RepliesAreRead, OnlyTextsAreRead, first_of, rest_of, kind_word, accepted_word, newest_word, told_words, field_words}
use Rattle.journal_text.proofs.Spaced.{NoSpace, AreApart, spaced_all, decimal_no_space, bodies_apart, words_back, line_is}
use Rattle.journal_text.proofs.Sound.{among_sound}
use Rattle.journal_text.proofs.Back.{reply_back}

-- ## The text of a reply is its words
bodies_spaced : (bs : List (List ℕ)) → bodies_text bs ≡ spaced_all (map hex_text bs)
unfolding bodies_text
bodies_spaced [] = refl
bodies_spaced (b ∷ bs) = ap (λ xs. 32 ∷ (hex_text b ++ xs)) (bodies_spaced bs)

numbers_spaced : (ns : List ℕ) → numbers_text ns ≡ spaced_all (map decimal ns)
unfolding numbers_text
numbers_spaced [] = refl
numbers_spaced (n ∷ ns) = ap (λ xs. 32 ∷ (decimal n ++ xs)) (numbers_spaced ns)

spaced-append : (ws vs : List (List ℕ)) → spaced_all (ws ++ vs) ≡ spaced_all ws ++ spaced_all vs
spaced-append [] vs = refl
spaced-append (w ∷ ws) vs = ap (λ xs. 32 ∷ (w ++ xs)) (spaced-append ws vs) ∙ ap (λ xs. 32 ∷ xs) (sym (append_assoc w (spaced_all ws) (spaced_all vs)))

-- one word alone
alone : (w : List ℕ) → 32 ∷ w ≡ spaced_all (w ∷ [])
alone w = ap (λ xs. 32 ∷ xs) (sym (append-nil w))

kind_spaced : (b : Bool) → kind_text b ≡ spaced_all (kind_word b ∷ [])
kind_spaced true = refl
kind_spaced false = refl

accepted_spaced : (b : Bool) → accepted_text b ≡ spaced_all (accepted_word b ∷ [])
accepted_spaced true = refl
accepted_spaced false = refl

newest_spaced : (s : Option ℕ) → newest_text s ≡ spaced_all (newest_word s ∷ [])
newest_spaced None = refl
newest_spaced (Some n) = numbers_spaced (n ∷ [])

-- five parts
five : (a b c d e : List ℕ) (v w x y z : List ℕ) → a ≡ spaced_all (v ∷ []) → b ≡ spaced_all (w ∷ []) → c ≡ spaced_all (x ∷ []) → d ≡ spaced_all (y ∷ []) → e ≡ spaced_all (z ∷ [])
    → a ++ b ++ c ++ d ++ e ≡ spaced_all (v ∷ w ∷ x ∷ y ∷ z ∷ [])
five a b c d e v w x y z h i j k l =
    ap (λ q. q ++ b ++ c ++ d ++ e) h ∙ ap (λ q. spaced_all (v ∷ []) ++ q ++ c ++ d ++ e) i ∙ ap (λ q. spaced_all (v ∷ []) ++ spaced_all (w ∷ []) ++ q ++ d ++ e) j
    ∙ ap (λ q. spaced_all (v ∷ []) ++ spaced_all (w ∷ []) ++ spaced_all (x ∷ []) ++ q ++ e) k
    ∙ ap (λ q. spaced_all (v ∷ []) ++ spaced_all (w ∷ []) ++ spaced_all (x ∷ []) ++ spaced_all (y ∷ []) ++ q) l
    ∙ ap (λ q. q ++ spaced_all (x ∷ []) ++ spaced_all (y ∷ []) ++ spaced_all (z ∷ [])) (sym (spaced-append (v ∷ []) (w ∷ [])))
    ∙ ap (λ q. q ++ spaced_all (y ∷ []) ++ spaced_all (z ∷ [])) (sym (spaced-append (v ∷ w ∷ []) (x ∷ [])))
    ∙ ap (λ q. q ++ spaced_all (z ∷ [])) (sym (spaced-append (v ∷ w ∷ x ∷ []) (y ∷ []))) ∙ sym (spaced-append (v ∷ w ∷ x ∷ y ∷ []) (z ∷ []))

told_spaced : (t : Option SegmentInfo) → told_text t ≡ spaced_all (told_words t)
told_spaced None = refl
told_spaced (Some g) =
    five (numbers_text (g.start ∷ [])) (kind_text g.is_final) (numbers_text (g.epoch ∷ [])) (accepted_text g.accepted) (numbers_text (g.end ∷ []))
    (decimal g.start) (kind_word g.is_final) (decimal g.epoch) (accepted_word g.accepted) (decimal g.end)
    (numbers_spaced (g.start ∷ [])) (kind_spaced g.is_final) (numbers_spaced (g.epoch ∷ [])) (accepted_spaced g.accepted) (numbers_spaced (g.end ∷ []))

field_spaced : (field : Option ℕ) → field_text field ≡ spaced_all (field_words field)
field_spaced None = refl
field_spaced (Some n) = numbers_spaced (n ∷ [])

-- three parts after a word
three : (w a b c : List ℕ) (us vs ws : List (List ℕ)) → a ≡ spaced_all us → b ≡ spaced_all vs → c ≡ spaced_all ws → w ++ a ++ b ++ c ≡ w ++ spaced_all (us ++ vs ++ ws)
three w a b c us vs ws h i j =
    append_assoc (w ++ a) b c ∙ append_assoc w a (b ++ c)
    ∙ ap (λ q. w ++ (q ++ (b ++ c))) h ∙ ap (λ q. w ++ (spaced_all us ++ (q ++ c))) i ∙ ap (λ q. w ++ (spaced_all us ++ (spaced_all vs ++ q))) j
    ∙ ap (λ q. w ++ q) (sym (append_assoc (spaced_all us) (spaced_all vs) (spaced_all ws)) ∙ ap (λ q. q ++ spaced_all ws) (sym (spaced-append us vs)) ∙ sym (spaced-append (us ++ vs) ws))

-- two parts after a word
two : (w a b : List ℕ) (us vs : List (List ℕ)) → a ≡ spaced_all us → b ≡ spaced_all vs → w ++ a ++ b ≡ w ++ spaced_all (us ++ vs)
two w a b us vs h i = append_assoc w a b ∙ ap (λ q. w ++ (q ++ b)) h ∙ ap (λ q. w ++ (spaced_all us ++ q)) i ∙ ap (λ q. w ++ q) (sym (spaced-append us vs))

pub text_is_words : (a : Reply) → IsReadable a → reply_text a ≡ first_of a ++ spaced_all (rest_of a)
unfolding reply_text
text_is_words reply.Ok h = sym (append-nil (codes "ok"))
text_is_words (reply.State p) h = ap (λ q. codes "state" ++ q) (numbers_spaced (p ∷ []))
text_is_words (reply.NewEpoch s) h = ap (λ q. codes "new" ++ q) (newest_spaced s)
text_is_words (reply.Prepared w c t) h =
    two (codes "prepared") (numbers_text (w ∷ c ∷ [])) (told_text t) (decimal w ∷ decimal c ∷ []) (told_words t) (numbers_spaced (w ∷ c ∷ [])) (told_spaced t)
text_is_words (reply.Edits b) h =
    two (codes "edits") (numbers_text (b.first ∷ [])) (bodies_text b.bodies) (decimal b.first ∷ []) (map hex_text b.bodies) (numbers_spaced (b.first ∷ [])) (bodies_spaced b.bodies)
text_is_words (reply.Segments lines) h = absurd h
text_is_words (reply.Refused c) h =
    three (codes "refused") (numbers_text (refusal_number c ∷ [])) (spaced (refusal_name c)) (field_text (refusal_field c))
    (decimal (refusal_number c) ∷ []) (refusal_name c ∷ []) (field_words (refusal_field c))
    (numbers_spaced (refusal_number c ∷ [])) (alone (refusal_name c)) (field_spaced (refusal_field c))

-- ## Its words have no space
names_apart : (c : Refusal) → NoSpace (refusal_name c)
unfolding refusal_name
names_apart refusal.Down = (refl, (refl, (refl, (refl, tt))))
names_apart (refusal.Limit n) = (refl, (refl, (refl, (refl, (refl, tt)))))
names_apart (refusal.EpochRefused n) = (refl, (refl, (refl, (refl, (refl, (refl, (refl, (refl, (refl, (refl, (refl, (refl, tt))))))))))))
names_apart (refusal.OldSerial n) = (refl, (refl, (refl, (refl, (refl, (refl, (refl, (refl, (refl, tt)))))))))
names_apart (refusal.NotWriter n) = (refl, (refl, (refl, (refl, (refl, (refl, (refl, (refl, (refl, tt)))))))))
names_apart refusal.NoOpenSegment = (refl, (refl, (refl, (refl, (refl, (refl, (refl, (refl, (refl, (refl, (refl, (refl, (refl, tt)))))))))))))
names_apart (refusal.WrongSegment n) = (refl, (refl, (refl, (refl, (refl, (refl, (refl, (refl, (refl, (refl, (refl, (refl, tt))))))))))))
names_apart (refusal.WrongTxid n) = (refl, (refl, (refl, (refl, (refl, (refl, (refl, (refl, (refl, tt)))))))))
names_apart (refusal.SegmentFinal n) = (refl, (refl, (refl, (refl, (refl, (refl, (refl, (refl, (refl, (refl, (refl, (refl, tt))))))))))))
names_apart (refusal.SegmentHasEdits n) = (refl, (refl, (refl, (refl, (refl, (refl, (refl, (refl, (refl, (refl, (refl, (refl, (refl, (refl, (refl, tt)))))))))))))))
names_apart refusal.NoSegment = (refl, (refl, (refl, (refl, (refl, (refl, (refl, (refl, (refl, tt)))))))))
names_apart (refusal.OtherEpoch n) = (refl, (refl, (refl, (refl, (refl, (refl, (refl, (refl, (refl, (refl, tt))))))))))
names_apart (refusal.LengthDiffers n) = (refl, (refl, (refl, (refl, (refl, (refl, (refl, (refl, (refl, (refl, (refl, (refl, (refl, tt)))))))))))))
names_apart (refusal.Purged n) = (refl, (refl, (refl, (refl, (refl, (refl, tt))))))
names_apart (refusal.NotHere n) = (refl, (refl, (refl, (refl, (refl, (refl, (refl, tt)))))))
names_apart refusal.DiskFault = (refl, (refl, (refl, (refl, (refl, (refl, (refl, (refl, (refl, tt)))))))))
names_apart refusal.OutOfMemory = (refl, (refl, (refl, (refl, (refl, (refl, (refl, (refl, (refl, (refl, (refl, tt)))))))))))
names_apart refusal.BadFile = (refl, (refl, (refl, (refl, (refl, (refl, (refl, tt)))))))

first_apart : (a : Reply) → NoSpace (first_of a)
first_apart reply.Ok = (refl, (refl, tt))
first_apart (reply.State p) = (refl, (refl, (refl, (refl, (refl, tt)))))
first_apart (reply.NewEpoch s) = (refl, (refl, (refl, tt)))
first_apart (reply.Prepared w c t) = (refl, (refl, (refl, (refl, (refl, (refl, (refl, (refl, tt))))))))
first_apart (reply.Edits b) = (refl, (refl, (refl, (refl, (refl, tt)))))
first_apart (reply.Segments lines) = (refl, (refl, (refl, (refl, (refl, (refl, (refl, (refl, tt))))))))
first_apart (reply.Refused c) = (refl, (refl, (refl, (refl, (refl, (refl, (refl, tt)))))))

newest_apart : (s : Option ℕ) → IsWideIf s → NoSpace (newest_word s)
newest_apart None h = (refl, (refl, (refl, (refl, tt))))
newest_apart (Some n) h = decimal_no_space n h

kind_apart : (b : Bool) → NoSpace (kind_word b)
kind_apart true = (refl, (refl, (refl, (refl, (refl, tt)))))
kind_apart false = (refl, (refl, (refl, (refl, (refl, (refl, (refl, (refl, (refl, (refl, tt))))))))))

accepted_apart : (b : Bool) → NoSpace (accepted_word b)
accepted_apart true = (refl, (refl, (refl, tt)))
accepted_apart false = (refl, (refl, tt))

told_apart : (t : Option SegmentInfo) → AreWide t → AreApart (told_words t)
told_apart None h = ((refl, (refl, (refl, (refl, tt)))), tt)
told_apart (Some g) h = (decimal_no_space g.start h.0, (kind_apart g.is_final, (decimal_no_space g.epoch h.2, (accepted_apart g.accepted, (decimal_no_space g.end h.1, tt)))))

field_apart : (field : Option ℕ) → IsWideIf field → AreApart (field_words field)
field_apart None h = tt
field_apart (Some n) h = (decimal_no_space n h, tt)

number_small : (c : Refusal) → refusal_number c < 2 ^ 64
number_small refusal.Down = omega arith
number_small (refusal.Limit n) = omega arith
number_small (refusal.EpochRefused n) = omega arith
number_small (refusal.OldSerial n) = omega arith
number_small (refusal.NotWriter n) = omega arith
number_small refusal.NoOpenSegment = omega arith
number_small (refusal.WrongSegment n) = omega arith
number_small (refusal.WrongTxid n) = omega arith
number_small (refusal.SegmentFinal n) = omega arith
number_small (refusal.SegmentHasEdits n) = omega arith
number_small refusal.NoSegment = omega arith
number_small (refusal.OtherEpoch n) = omega arith
number_small (refusal.LengthDiffers n) = omega arith
number_small (refusal.Purged n) = omega arith
number_small (refusal.NotHere n) = omega arith
number_small refusal.DiskFault = omega arith
number_small refusal.OutOfMemory = omega arith
number_small refusal.BadFile = omega arith

rest_apart : (a : Reply) → IsReadable a → AreApart (rest_of a)
rest_apart reply.Ok h = tt
rest_apart (reply.State p) h = (decimal_no_space p h, tt)
rest_apart (reply.NewEpoch s) h = (newest_apart s h, tt)
rest_apart (reply.Prepared w c t) h = (decimal_no_space w h.0, (decimal_no_space c h.1, told_apart t h.2))
rest_apart (reply.Edits b) h = (decimal_no_space b.first h.0, bodies_apart b.bodies)
rest_apart (reply.Segments lines) h = absurd h
rest_apart (reply.Refused c) h = (decimal_no_space (refusal_number c) (number_small c), (names_apart c, field_apart (refusal_field c) h))

-- ## The laws
pub replies_read : RepliesAreRead
unfolding reply_of
replies_read r a h fits =
    ap (reply_among r) (ap words_of (text_is_words a h) ∙ words_back (rest_of a) (first_of a) (first_apart a) (rest_apart a h)) ∙ reply_back r a h fits.0 fits.1

some_words : (r : Request) (line : List ℕ) (a : Reply) (ws : List (List ℕ)) → words_of line ≡ ws → reply_among r ws ≡ Some a → IsTextOf r line a
some_words r line a [] e h = absurd (words_some line e)
some_words r line a (w ∷ ws) e h =
    let said = among_sound r w ws a h in
    let text : first_of a ++ spaced_all (rest_of a) ≡ line = ap (λ x. x ++ spaced_all (rest_of a)) said.first ∙ ap (λ x. w ++ spaced_all x) said.rest ∙ line_is line w ws e in
    record { text = text_is_words a said.readable ∙ text; fits = (said.fits, said.told); readable = said.readable }

pub only_texts : OnlyTextsAreRead
unfolding reply_of
only_texts r line a e = some_words r line a (words_of line) refl e
