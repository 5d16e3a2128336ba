-- What is printed of a reply that answers the request is read as that reply.
use Rattle.std.proofs.Common.{ℕ, ◌≡◌, ◌≢◌, ◌<◌, ◌==◌, nat_le, List, [], ◌∷◌, length, map, Option, Some, None, Bool, true, false, cond, refl, sym, ap, ◌∙◌, arith, decimal}
use Rattle.std.specs.Prelude.{codes, unwrap_or}
use Rattle.std.specs.Str.{bytes_eq}
use Rattle.std.specs.Fmt.{digits}
use Rattle.std.specs.List.{AllByRecursion}
use Rattle.std.proofs.lemmas.Slice.Eq.{bytes_eq-Decides}
use Rattle.std.proofs.lemmas.Bool.{le-leb}
use Rattle.std.proofs.lemmas.Bool.Decides.{nat_tests}
use Rattle.base_words.specs.Hex.{hex_text}
use Rattle.base_words.specs.WordNumbers.{is_number}
use Rattle.journal_core.specs.Views.{BatchView, last_txid}
use Rattle.journal_core.specs.Limits.{max_number}
use Rattle.journal_core.specs.Answers.{BeginsAt, FitsRequest}
use Rattle.journal_core.specs.Refusals.{refusal_number, refusal_name, refusal_field}
use Rattle.journal_core.specs.declared.segment_info.SegmentInfo.{SegmentInfo}
use Rattle.journal_core.specs.declared.request.Request.{Request}
use Rattle.journal_core.specs.declared.request.Request.TheVariants as request
use Rattle.journal_core.specs.declared.reply.Reply.{Reply}
use Rattle.journal_core.specs.declared.reply.Reply.TheVariants as reply
use Rattle.journal_core.specs.declared.refusal.Refusal.{Refusal}
use Rattle.journal_core.specs.declared.refusal.Refusal.TheVariants as refusal
use Rattle.journal_text.specs.Reading.{number_in}
use Rattle.journal_text.specs.Lines.{IsBody}
use Rattle.journal_text.proofs.BodyLaws.{bodies_read}
use Rattle.journal_text.specs.ReplyReading.{begins_with, accepted_in, state_by, state_in, newest_by, newest_in, info_by, info_from, told_by, told_in}
use Rattle.journal_text.specs.ReplyReading.{prepared_by, prepared_in, batch_of, batch_by, bodies_by, edits_by, edits_in, all_refusals, same_field}
use Rattle.journal_text.specs.ReplyReading.{refusal_among, field_by, field_in, refusal_by, refusal_in, answer_in, refused, reply_among}
use Rattle.journal_text.specs.Exact.{IsWide, AreWide, IsWideIf, IsReadable, first_of, rest_of, kind_word, accepted_word, newest_word, told_words, field_words}
use Rattle.journal_text.proofs.Found.{number_back, kind_back, accepted_back}

-- ## A promise, and the newest start
state_back : (p : ℕ) → IsWide p → state_in (decimal p ∷ []) ≡ Some (reply.State p)
unfolding state_in
state_back p h = ap (λ o. state_by o true) (number_back p h)

none_number : number_in 0 (codes "none") ≡ None
unfolding number_in is_number digits
none_number = refl

none_apart : (n : ℕ) → IsWide n → begins_with (codes "none") (decimal n ∷ []) ≡ false
none_apart n h = by (bytes_eq (decimal n) (codes "none")) refl
  where
    by : (b : Bool) → bytes_eq (decimal n) (codes "none") ≡ b → b ≡ false
    by false e = refl
    by true e =
        let same : decimal n ≡ codes "none" = (bytes_eq-Decides (decimal n) (codes "none")).0 e in
        let read : number_in 0 (codes "none") ≡ Some n = ap (number_in 0) (sym same) ∙ number_back n h in
        absurd (cc (none_number, read))

newest_back : (s : Option ℕ) → IsWideIf s → newest_in (newest_word s ∷ []) ≡ Some (reply.NewEpoch s)
unfolding newest_in
newest_back None h = refl
newest_back (Some n) h = ap (λ b. newest_by b (number_in 0 (decimal n)) true) (none_apart n h) ∙ ap (λ o. newest_by false o true) (number_back n h)

-- ## A prepare answer
info_back : (g : SegmentInfo) → AreWide (Some g) → info_from (Some g.start) (kind_word g.is_final ∷ decimal g.epoch ∷ accepted_word g.accepted ∷ decimal g.end ∷ []) ≡ Some g
unfolding info_from
info_back g h =
    ap (λ k. info_by (Some g.start) k (number_in 0 (decimal g.epoch)) (accepted_in (accepted_word g.accepted ∷ decimal g.end ∷ []))
    (number_in 0 (decimal g.end)) true) (kind_back g.is_final (decimal g.epoch ∷ accepted_word g.accepted ∷ decimal g.end ∷ []))
    ∙ ap (λ e. info_by (Some g.start) (Some g.is_final) e (accepted_in (accepted_word g.accepted ∷ decimal g.end ∷ [])) (number_in 0 (decimal g.end)) true) (number_back g.epoch h.2)
    ∙ ap (λ a. info_by (Some g.start) (Some g.is_final) (Some g.epoch) a (number_in 0 (decimal g.end)) true) (accepted_back g.accepted (decimal g.end ∷ []))
    ∙ ap (λ n. info_by (Some g.start) (Some g.is_final) (Some g.epoch) (Some g.accepted) n true) (number_back g.end h.1)

none_first : (n : ℕ) (ws : List (List ℕ)) → IsWide n → begins_with (codes "none") (decimal n ∷ ws) ≡ false
none_first n ws h = none_apart n h

told_back : (t : Option SegmentInfo) → AreWide t → told_in (told_words t) ≡ Some t
unfolding told_in
told_back None h = refl
told_back (Some g) h =
    let ws : List (List ℕ) = kind_word g.is_final ∷ decimal g.epoch ∷ accepted_word g.accepted ∷ decimal g.end ∷ [] in
    ap (λ b. told_by b false (info_from (number_in 0 (decimal g.start)) ws)) (none_first g.start ws h.0)
    ∙ ap (λ o. told_by false false (info_from o ws)) (number_back g.start h.0) ∙ ap (λ i. told_by false false i) (info_back g h)

prepared_back : (w c : ℕ) (t : Option SegmentInfo) → IsWide w → IsWide c → AreWide t → prepared_in (decimal w ∷ decimal c ∷ told_words t) ≡ Some (reply.Prepared w c t)
unfolding prepared_in
prepared_back w c t h k l =
    ap (λ x. prepared_by x (number_in 0 (decimal c)) (told_in (told_words t))) (number_back w h) ∙ ap (λ x. prepared_by (Some w) x (told_in (told_words t))) (number_back c k)
    ∙ ap (λ x. prepared_by (Some w) (Some c) x) (told_back t l)

-- ## Edits
batch_back : (from first : ℕ) (bs : List (List ℕ)) → 0 < length bs → BeginsAt from (batch_of first bs) → bodies_by from first (Some bs) ≡ Some (reply.Edits (batch_of first bs))
batch_back from first [] l h = absurd (omega arith)
batch_back from first (b ∷ bs) l h =
    let same : (first == from) ≡ true = grind (arith, nat_tests, h.first) in
    let within : nat_le (last_txid (batch_of first (b ∷ bs))) max_number ≡ true = le-leb (last_txid (batch_of first (b ∷ bs))) max_number h.last in
    ap (λ x. batch_by x (nat_le (last_txid (batch_of first (b ∷ bs))) max_number) (batch_of first (b ∷ bs))) same ∙ ap (λ x. batch_by true x (batch_of first (b ∷ bs))) within

edits_back : (from first : ℕ) (bs : List (List ℕ)) → IsWide first → AllByRecursion IsBody bs → 0 < length bs → BeginsAt from (batch_of first bs)
    → edits_in from (decimal first ∷ map hex_text bs) ≡ Some (reply.Edits (batch_of first bs))
unfolding edits_in
edits_back from first bs h all some begins =
    ap (λ o. edits_by from o (map hex_text bs)) (number_back first h) ∙ ap (λ o. bodies_by from first o) (bodies_read bs all) ∙ batch_back from first bs some begins

-- ## Refusals
field_back : (field : Option ℕ) → IsWideIf field → field_in (field_words field) ≡ Some field
field_back None h = refl
field_back (Some n) h = ap (λ o. field_by false o true) (number_back n h)

same_back : (n : ℕ) → same_field (Some n) (Some n) ≡ true
same_back n = grind (arith, nat_tests)

cause_back : (c : Refusal) → c ≢ refusal.OutOfMemory → refusal_among (all_refusals (unwrap_or (refusal_field c) 0)) (refusal_number c) (refusal_name c) (refusal_field c) ≡ Some c
unfolding refusal_name
cause_back refusal.Down h = refl
cause_back (refusal.Limit n) h = ap (λ b. cond b (Some (refusal.Limit n)) None) (same_back n)
cause_back (refusal.EpochRefused n) h = ap (λ b. cond b (Some (refusal.EpochRefused n)) None) (same_back n)
cause_back (refusal.OldSerial n) h = ap (λ b. cond b (Some (refusal.OldSerial n)) None) (same_back n)
cause_back (refusal.NotWriter n) h = ap (λ b. cond b (Some (refusal.NotWriter n)) None) (same_back n)
cause_back refusal.NoOpenSegment h = refl
cause_back (refusal.WrongSegment n) h = ap (λ b. cond b (Some (refusal.WrongSegment n)) None) (same_back n)
cause_back (refusal.WrongTxid n) h = ap (λ b. cond b (Some (refusal.WrongTxid n)) None) (same_back n)
cause_back (refusal.SegmentFinal n) h = ap (λ b. cond b (Some (refusal.SegmentFinal n)) None) (same_back n)
cause_back (refusal.SegmentHasEdits n) h = ap (λ b. cond b (Some (refusal.SegmentHasEdits n)) None) (same_back n)
cause_back refusal.NoSegment h = refl
cause_back (refusal.OtherEpoch n) h = ap (λ b. cond b (Some (refusal.OtherEpoch n)) None) (same_back n)
cause_back (refusal.LengthDiffers n) h = ap (λ b. cond b (Some (refusal.LengthDiffers n)) None) (same_back n)
cause_back (refusal.Purged n) h = ap (λ b. cond b (Some (refusal.Purged n)) None) (same_back n)
cause_back (refusal.NotHere n) h = ap (λ b. cond b (Some (refusal.NotHere n)) None) (same_back n)
cause_back refusal.DiskFault h = refl
cause_back refusal.OutOfMemory h = absurd (h refl)
cause_back refusal.BadFile h = refl

numbers_wide : (c : Refusal) → IsWide (refusal_number c)
numbers_wide refusal.Down = omega arith
numbers_wide (refusal.Limit n) = omega arith
numbers_wide (refusal.EpochRefused n) = omega arith
numbers_wide (refusal.OldSerial n) = omega arith
numbers_wide (refusal.NotWriter n) = omega arith
numbers_wide refusal.NoOpenSegment = omega arith
numbers_wide (refusal.WrongSegment n) = omega arith
numbers_wide (refusal.WrongTxid n) = omega arith
numbers_wide (refusal.SegmentFinal n) = omega arith
numbers_wide (refusal.SegmentHasEdits n) = omega arith
numbers_wide refusal.NoSegment = omega arith
numbers_wide (refusal.OtherEpoch n) = omega arith
numbers_wide (refusal.LengthDiffers n) = omega arith
numbers_wide (refusal.Purged n) = omega arith
numbers_wide (refusal.NotHere n) = omega arith
numbers_wide refusal.DiskFault = omega arith
numbers_wide refusal.OutOfMemory = omega arith
numbers_wide refusal.BadFile = omega arith

refusal_back : (c : Refusal) → c ≢ refusal.OutOfMemory → IsWideIf (refusal_field c) → refusal_in (rest_of (reply.Refused c)) ≡ Some c
unfolding refusal_in
refusal_back c h w =
    let name : Option (List ℕ) = Some (refusal_name c) in
    ap (λ n. refusal_by n name (field_in (field_words (refusal_field c)))) (number_back (refusal_number c) (numbers_wide c))
    ∙ ap (λ f. refusal_by (Some (refusal_number c)) name f) (field_back (refusal_field c) w) ∙ cause_back c h

-- ## The reply
refused_back : (r : Request) (c : Refusal) → c ≢ refusal.OutOfMemory → IsWideIf (refusal_field c) → reply_among r (codes "refused" ∷ rest_of (reply.Refused c)) ≡ Some (reply.Refused c)
refused_back r c h w = ap refused (refusal_back c h w)

memory_apart : (c : Refusal) → reply.Refused c ≢ reply.Refused refusal.OutOfMemory → c ≢ refusal.OutOfMemory
memory_apart c h e = h (ap (λ x. reply.Refused x) e)

ok_answers : (r : Request) → FitsRequest r reply.Ok → answer_in r (codes "ok") [] ≡ Some reply.Ok
unfolding answer_in
ok_answers request.State fit = absurd fit
ok_answers (request.NewEpoch e) fit = absurd fit
ok_answers (request.Start h m) fit = refl
ok_answers (request.Journal h m b) fit = refl
ok_answers (request.Finalize h m e) fit = refl
ok_answers (request.Prepare h m) fit = absurd fit
ok_answers (request.Fetch h m f) fit = absurd fit
ok_answers (request.Accept h b) fit = refl
ok_answers (request.Purge h m) fit = refl
ok_answers (request.Read f) fit = absurd fit
ok_answers request.Manifest fit = absurd fit

state_answers : (r : Request) (p : ℕ) → IsWide p → FitsRequest r (reply.State p) → answer_in r (codes "state") (decimal p ∷ []) ≡ Some (reply.State p)
unfolding answer_in
state_answers request.State p w fit = state_back p w
state_answers (request.NewEpoch e) p w fit = absurd fit
state_answers (request.Start h m) p w fit = absurd fit
state_answers (request.Journal h m b) p w fit = absurd fit
state_answers (request.Finalize h m e) p w fit = absurd fit
state_answers (request.Prepare h m) p w fit = absurd fit
state_answers (request.Fetch h m f) p w fit = absurd fit
state_answers (request.Accept h b) p w fit = absurd fit
state_answers (request.Purge h m) p w fit = absurd fit
state_answers (request.Read f) p w fit = absurd fit
state_answers request.Manifest p w fit = absurd fit

newest_answers : (r : Request) (s : Option ℕ) → IsWideIf s → FitsRequest r (reply.NewEpoch s) → answer_in r (codes "new") (newest_word s ∷ []) ≡ Some (reply.NewEpoch s)
unfolding answer_in
newest_answers request.State s w fit = absurd fit
newest_answers (request.NewEpoch e) s w fit = newest_back s w
newest_answers (request.Start h m) s w fit = absurd fit
newest_answers (request.Journal h m b) s w fit = absurd fit
newest_answers (request.Finalize h m e) s w fit = absurd fit
newest_answers (request.Prepare h m) s w fit = absurd fit
newest_answers (request.Fetch h m f) s w fit = absurd fit
newest_answers (request.Accept h b) s w fit = absurd fit
newest_answers (request.Purge h m) s w fit = absurd fit
newest_answers (request.Read f) s w fit = absurd fit
newest_answers request.Manifest s w fit = absurd fit

prepared_answers : (r : Request) (x c : ℕ) (t : Option SegmentInfo) → IsWide x → IsWide c → AreWide t → FitsRequest r (reply.Prepared x c t)
    → answer_in r (codes "prepared") (decimal x ∷ decimal c ∷ told_words t) ≡ Some (reply.Prepared x c t)
unfolding answer_in
prepared_answers request.State x c t u v w fit = absurd fit
prepared_answers (request.NewEpoch e) x c t u v w fit = absurd fit
prepared_answers (request.Start h m) x c t u v w fit = absurd fit
prepared_answers (request.Journal h m b) x c t u v w fit = absurd fit
prepared_answers (request.Finalize h m e) x c t u v w fit = absurd fit
prepared_answers (request.Prepare h m) x c t u v w fit = prepared_back x c t u v w
prepared_answers (request.Fetch h m f) x c t u v w fit = absurd fit
prepared_answers (request.Accept h b) x c t u v w fit = absurd fit
prepared_answers (request.Purge h m) x c t u v w fit = absurd fit
prepared_answers (request.Read f) x c t u v w fit = absurd fit
prepared_answers request.Manifest x c t u v w fit = absurd fit

edits_answer : (r : Request) (a : BatchView) → IsReadable (reply.Edits a) → FitsRequest r (reply.Edits a) → answer_in r (codes "edits") (rest_of (reply.Edits a)) ≡ Some (reply.Edits a)
unfolding answer_in
edits_answer request.State a w fit = absurd fit
edits_answer (request.NewEpoch e) a w fit = absurd fit
edits_answer (request.Start h m) a w fit = absurd fit
edits_answer (request.Journal h m b) a w fit = absurd fit
edits_answer (request.Finalize h m e) a w fit = absurd fit
edits_answer (request.Prepare h m) a w fit = absurd fit
edits_answer (request.Fetch h m f) a w fit = edits_back f a.first a.bodies w.0 w.1 w.2 fit
edits_answer (request.Accept h b) a w fit = absurd fit
edits_answer (request.Purge h m) a w fit = absurd fit
edits_answer (request.Read f) a w fit = edits_back f a.first a.bodies w.0 w.1 w.2 fit
edits_answer request.Manifest a w fit = absurd fit

pub reply_back : (r : Request) (a : Reply) → IsReadable a → FitsRequest r a → a ≢ reply.Refused refusal.OutOfMemory → reply_among r (first_of a ∷ rest_of a) ≡ Some a
reply_back r reply.Ok w fit m = ok_answers r fit
reply_back r (reply.State p) w fit m = state_answers r p w fit
reply_back r (reply.NewEpoch s) w fit m = newest_answers r s w fit
reply_back r (reply.Prepared x c t) w fit m = prepared_answers r x c t w.0 w.1 w.2 fit
reply_back r (reply.Edits b) w fit m = edits_answer r b w fit
reply_back r (reply.Segments lines) w fit m = absurd w
reply_back r (reply.Refused c) w fit m = refused_back r c (memory_apart c m) w
