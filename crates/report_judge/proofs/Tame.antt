-- Texts without a line end and without the arrow's `>`.
use Rattle.std.proofs.Common.{ℕ, ◌≡◌, ◌≢◌, ◌<◌, ◌+◌, ◌^◌, ◌/◌, ◌%◌, ◌==◌, ◌&&◌, List, [], ◌∷◌, ◌++◌, Bool, true, false, not, Option, Some, None, refl, sym, ap, ◌∙◌}
use Rattle.std.proofs.Common.{arith, decimal}
use Rattle.std.specs.Prelude.{codes}
use Rattle.std.specs.List.{list_all, AllByRecursion}
use Rattle.std.proofs.lemmas.Bool.Decides.{nat_tests}
use Rattle.std.proofs.lemmas.Bool.{and_parts, false≢true}
use Rattle.std.proofs.lemmas.List.Folds.{list_all-append}
use Rattle.std.proofs.lemmas.Fmt.{decimal_by_steps}
use Rattle.base_words.specs.Hex.{hex_digit, hex_text}
use Rattle.journal_core.specs.Refusals.{refusal_number, refusal_name, refusal_field}
use Rattle.journal_core.specs.declared.segment_info.SegmentInfo.{SegmentInfo}
use Rattle.journal_core.specs.declared.request.Request.{Request}
use Rattle.journal_core.specs.declared.request.Request.TheVariants as request
use Rattle.journal_core.specs.declared.reply.Reply.{Reply}
use Rattle.journal_core.specs.declared.reply.Reply.TheVariants as reply
use Rattle.journal_core.specs.declared.refusal.Refusal.{Refusal}
use Rattle.journal_core.specs.declared.refusal.Refusal.TheVariants as refusal
use Rattle.journal_text.specs.Texts.{numbers_text, bodies_text, request_text, reply_text, kind_text, accepted_text, told_text, newest_text, field_text, spaced}
use Rattle.journal_text.specs.Lines.{AreNumbers, IsRequest, numbers_for, word_for}
use Rattle.journal_text.specs.Reading.{leasts_of}
use Rattle.journal_text.specs.Exact.{IsWide, AreWide, IsWideIf, IsReadable}
use Rattle.journal_history.specs.declared.stop.Stop.{Stop}
use Rattle.journal_history.specs.declared.stop.Stop.TheVariants as stop
use Rattle.journal_history.specs.declared.node_ask.NodeAsk.{NodeAsk}
use Rattle.journal_history.specs.declared.node_ask.NodeAsk.TheVariants as ask
use Rattle.journal_history.specs.declared.node_ask.NodeAnswer.{NodeAnswer}
use Rattle.journal_history.specs.declared.node_ask.NodeAnswer.TheVariants as answer
use Rattle.journal_history.specs.declared.record.Told.{Told}
use Rattle.journal_history.specs.declared.record.Told.TheVariants as told
use Rattle.play_script.specs.Lines.{Lacks}
use Rattle.play_report.specs.Text.{choice_text, stop_text, late_text, ask_text, answer_text, heard_text, done_text}
use Rattle.journal_core.specs.declared.cut.Cut.{Cut}
use Rattle.journal_core.specs.declared.cut.Cut.TheVariants as cut
use Rattle.report_judge.specs.Written.{IsStop, IsAsked, IsReplied, IsDone, IsAnswered, IsHeard, IsOrder}

-- neither a line end nor `>`
abbrev pub is_tame : ℕ → Bool
is_tame b = not (b == 10) && not (b == 62)

abbrev pub Tame : List ℕ → Type 0
Tame xs = list_all is_tame xs ≡ true

both : (a b : Bool) → a ≡ true → b ≡ true → (a && b) ≡ true
both a b e f = rw (e, f) refl

pub tame_append : (xs ys : List ℕ) → Tame xs → Tame ys → Tame (xs ++ ys)
tame_append xs ys h k = list_all-append is_tame xs ys ∙ both (list_all is_tame xs) (list_all is_tame ys) h k

pub tame_cons : (b : ℕ) (xs : List ℕ) → is_tame b ≡ true → Tame xs → Tame (b ∷ xs)
tame_cons b xs h k = both (is_tame b) (list_all is_tame xs) h k

end_apart : (b : ℕ) → is_tame b ≡ true → (b ≢ 10) × (b ≢ 62)
end_apart b h = (λ e. absurd (false≢true (sym (ap is_tame e) ∙ h)), λ e. absurd (false≢true (sym (ap is_tame e) ∙ h)))

pub no_end : (xs : List ℕ) → Tame xs → Lacks 10 xs
no_end [] h = tt
no_end (x ∷ xs) h = let p = and_parts (is_tame x) (list_all is_tame xs) h in ((end_apart x p.0).0, no_end xs p.1)

pub no_mark : (xs : List ℕ) → Tame xs → Lacks 62 xs
no_mark [] h = tt
no_mark (x ∷ xs) h = let p = and_parts (is_tame x) (list_all is_tame xs) h in ((end_apart x p.0).1, no_mark xs p.1)

-- ## Words
digit_tame : (d : ℕ) → d < 10 → is_tame (48 + d) ≡ true
digit_tame d l = grind (arith, nat_tests)

pub tame_decimal : (n : ℕ) → n < 2 ^ 64 → Tame (decimal n)
tame_decimal n h =
    decimal_by_steps (λ m ds. Tame ds) (λ m l. tame_cons (48 + m) [] (digit_tame m (omega (arith, l))) refl)
    (λ m ds l k. tame_append ds ((48 + m % 10) ∷ []) k (tame_cons (48 + m % 10) [] (digit_tame (m % 10) (omega arith)) refl)) n h

hex_tame : (d : ℕ) → is_tame (hex_digit d) ≡ true
hex_tame d = grind (arith, nat_tests)

tame_hex : (bs : List ℕ) → Tame (hex_text bs)
unfolding hex_text
tame_hex [] = refl
tame_hex (b ∷ bs) = tame_cons (hex_digit (b / 16)) (hex_digit (b % 16) ∷ hex_text bs) (hex_tame (b / 16)) (tame_cons (hex_digit (b % 16)) (hex_text bs) (hex_tame (b % 16)) (tame_hex bs))

abbrev AllWide : List ℕ → Type 0
AllWide ns = AllByRecursion IsWide ns

tame_spaced : (w : List ℕ) → Tame w → Tame (spaced w)
tame_spaced w h = tame_cons 32 w refl h

pub tame_numbers : (ns : List ℕ) → AllWide ns → Tame (numbers_text ns)
unfolding numbers_text
tame_numbers [] h = refl
tame_numbers (n ∷ ns) h = tame_append (spaced (decimal n)) (numbers_text ns) (tame_spaced (decimal n) (tame_decimal n h.0)) (tame_numbers ns h.1)

tame_bodies : (bs : List (List ℕ)) → Tame (bodies_text bs)
unfolding bodies_text
tame_bodies [] = refl
tame_bodies (b ∷ bs) = tame_append (spaced (hex_text b)) (bodies_text bs) (tame_spaced (hex_text b) (tame_hex b)) (tame_bodies bs)

-- ## Requests
all_wide : (ls ns : List ℕ) → AreNumbers ls ns → AllWide ns
all_wide [] [] h = tt
all_wide [] (n ∷ ns) h = absurd h
all_wide (l ∷ ls) [] h = absurd h
all_wide (l ∷ ls) (n ∷ ns) h = (h.1, all_wide ls ns h.2)

three : (a b c : List ℕ) → Tame a → Tame b → Tame c → Tame (a ++ b ++ c)
three a b c h k l = tame_append (a ++ b) c (tame_append a b h k) l

request_by : (r : Request) → AllWide (numbers_for r) → Tame (request_text r)
unfolding request_text
request_by request.State h = refl
request_by (request.NewEpoch epoch) h = tame_append (codes "new") (numbers_text (epoch ∷ [])) refl (tame_numbers (epoch ∷ []) h)
request_by (request.Start head start) h = tame_append (codes "start") (numbers_text (numbers_for (request.Start head start))) refl (tame_numbers (numbers_for (request.Start head start)) h)
request_by (request.Journal head start batch) h =
    three (codes "journal") (numbers_text (numbers_for (request.Journal head start batch))) (bodies_text batch.bodies) refl (tame_numbers (numbers_for (request.Journal head start batch)) h)
    (tame_bodies batch.bodies)
request_by (request.Finalize head start end) h =
    tame_append (codes "finalize") (numbers_text (numbers_for (request.Finalize head start end))) refl (tame_numbers (numbers_for (request.Finalize head start end)) h)
request_by (request.Prepare head start) h = tame_append (codes "prepare") (numbers_text (numbers_for (request.Prepare head start))) refl (tame_numbers (numbers_for (request.Prepare head start)) h)
request_by (request.Fetch head start from) h =
    tame_append (codes "fetch") (numbers_text (numbers_for (request.Fetch head start from))) refl (tame_numbers (numbers_for (request.Fetch head start from)) h)
request_by (request.Accept head batch) h =
    three (codes "accept") (numbers_text (numbers_for (request.Accept head batch))) (bodies_text batch.bodies) refl (tame_numbers (numbers_for (request.Accept head batch)) h)
    (tame_bodies batch.bodies)
request_by (request.Purge head min) h = tame_append (codes "purge") (numbers_text (numbers_for (request.Purge head min))) refl (tame_numbers (numbers_for (request.Purge head min)) h)
request_by (request.Read from) h = tame_append (codes "read") (numbers_text (from ∷ [])) refl (tame_numbers (from ∷ []) h)
request_by request.Manifest h = refl

pub tame_request : (r : Request) → IsRequest r → Tame (request_text r)
tame_request r h = request_by r (all_wide (leasts_of (word_for r)) (numbers_for r) h.numbers)

-- ## Replies
name_tame : (c : Refusal) → Tame (refusal_name c)
unfolding refusal_name
name_tame refusal.Down = refl
name_tame (refusal.Limit n) = refl
name_tame (refusal.EpochRefused n) = refl
name_tame (refusal.OldSerial n) = refl
name_tame (refusal.NotWriter n) = refl
name_tame refusal.NoOpenSegment = refl
name_tame (refusal.WrongSegment n) = refl
name_tame (refusal.WrongTxid n) = refl
name_tame (refusal.SegmentFinal n) = refl
name_tame (refusal.SegmentHasEdits n) = refl
name_tame refusal.NoSegment = refl
name_tame (refusal.OtherEpoch n) = refl
name_tame (refusal.LengthDiffers n) = refl
name_tame (refusal.Purged n) = refl
name_tame (refusal.NotHere n) = refl
name_tame refusal.DiskFault = refl
name_tame refusal.OutOfMemory = refl
name_tame refusal.BadFile = refl

number_wide : (c : Refusal) → IsWide (refusal_number c)
number_wide refusal.Down = omega arith
number_wide (refusal.Limit n) = omega arith
number_wide (refusal.EpochRefused n) = omega arith
number_wide (refusal.OldSerial n) = omega arith
number_wide (refusal.NotWriter n) = omega arith
number_wide refusal.NoOpenSegment = omega arith
number_wide (refusal.WrongSegment n) = omega arith
number_wide (refusal.WrongTxid n) = omega arith
number_wide (refusal.SegmentFinal n) = omega arith
number_wide (refusal.SegmentHasEdits n) = omega arith
number_wide refusal.NoSegment = omega arith
number_wide (refusal.OtherEpoch n) = omega arith
number_wide (refusal.LengthDiffers n) = omega arith
number_wide (refusal.Purged n) = omega arith
number_wide (refusal.NotHere n) = omega arith
number_wide refusal.DiskFault = omega arith
number_wide refusal.OutOfMemory = omega arith
number_wide refusal.BadFile = omega arith

field_tame : (field : Option ℕ) → IsWideIf field → Tame (field_text field)
field_tame None h = refl
field_tame (Some n) h = tame_numbers (n ∷ []) (h, tt)

newest_tame : (s : Option ℕ) → IsWideIf s → Tame (newest_text s)
newest_tame None h = refl
newest_tame (Some n) h = tame_numbers (n ∷ []) (h, tt)

kind_tame : (b : Bool) → Tame (kind_text b)
kind_tame true = refl
kind_tame false = refl

accepted_tame : (b : Bool) → Tame (accepted_text b)
accepted_tame true = refl
accepted_tame false = refl

segment_tame : (s : Option SegmentInfo) → AreWide s → Tame (told_text s)
segment_tame None h = refl
segment_tame (Some g) h =
    let a = tame_append (numbers_text (g.start ∷ [])) (kind_text g.is_final) (tame_numbers (g.start ∷ []) (h.0, tt)) (kind_tame g.is_final) in
    let b = tame_append (numbers_text (g.start ∷ []) ++ kind_text g.is_final) (numbers_text (g.epoch ∷ [])) a (tame_numbers (g.epoch ∷ []) (h.2, tt)) in
    let c = tame_append (numbers_text (g.start ∷ []) ++ kind_text g.is_final ++ numbers_text (g.epoch ∷ [])) (accepted_text g.accepted) b (accepted_tame g.accepted) in
    tame_append (numbers_text (g.start ∷ []) ++ kind_text g.is_final ++ numbers_text (g.epoch ∷ []) ++ accepted_text g.accepted) (numbers_text (g.end ∷ [])) c (tame_numbers (g.end ∷ []) (h.1, tt))

pub tame_reply : (a : Reply) → IsReadable a → Tame (reply_text a)
unfolding reply_text
tame_reply reply.Ok h = refl
tame_reply (reply.State p) h = tame_append (codes "state") (numbers_text (p ∷ [])) refl (tame_numbers (p ∷ []) (h, tt))
tame_reply (reply.NewEpoch s) h = tame_append (codes "new") (newest_text s) refl (newest_tame s h)
tame_reply (reply.Prepared w c s) h = three (codes "prepared") (numbers_text (w ∷ c ∷ [])) (told_text s) refl (tame_numbers (w ∷ c ∷ []) (h.0, (h.1, tt))) (segment_tame s h.2)
tame_reply (reply.Edits b) h = three (codes "edits") (numbers_text (b.first ∷ [])) (bodies_text b.bodies) refl (tame_numbers (b.first ∷ []) (h.0, tt)) (tame_bodies b.bodies)
tame_reply (reply.Segments lines) h = absurd h
tame_reply (reply.Refused c) h =
    tame_append (codes "refused" ++ numbers_text (refusal_number c ∷ []) ++ spaced (refusal_name c)) (field_text (refusal_field c))
    (three (codes "refused") (numbers_text (refusal_number c ∷ [])) (spaced (refusal_name c)) refl (tame_numbers (refusal_number c ∷ []) (number_wide c, tt)) (tame_spaced (refusal_name c)
    (name_tame c)))
    (field_tame (refusal_field c) h)

-- ## What was asked, and what came of it
choice_tame : (c : Cut) → Tame (choice_text c)
choice_tame cut.Old = refl
choice_tame cut.New = refl
choice_tame cut.A5 = refl

stop_tame : (calls : ℕ) (s : Stop) → IsWide calls → IsStop s → Tame (stop_text calls s)
stop_tame calls (stop.Effects keep) h k = tame_append (codes "stop") (numbers_text (calls ∷ keep ∷ [])) refl (tame_numbers (calls ∷ keep ∷ []) (h, (k, tt)))
stop_tame calls (stop.DiskCalls made choice) h k =
    three (codes "cut") (numbers_text (calls ∷ made ∷ [])) (choice_text choice) refl (tame_numbers (calls ∷ made ∷ []) (h, (k, tt))) (choice_tame choice)

late_tame : (late : Bool) → Tame (late_text late)
late_tame true = refl
late_tame false = refl

pub tame_ask : (q : NodeAsk) → IsAsked q → Tame (ask_text q)
unfolding ask_text
tame_ask (ask.Act late r) h = tame_append (late_text late) (request_text r) (late_tame late) (tame_request r h)
tame_ask ask.Kill h = refl
tame_ask ask.Restart h = refl
tame_ask (ask.Arm calls s) h = stop_tame calls s h.0 h.1

replied_tame : (r : Request) (a : NodeAnswer) → IsReplied r a → Tame (answer_text a)
unfolding answer_text
replied_tame r (answer.Replied reply) h = tame_reply reply h.0
replied_tame r (answer.Stopped keep) h = tame_append (codes "stopped") (numbers_text (keep ∷ [])) refl (tame_numbers (keep ∷ []) (h, tt))
replied_tame r answer.Done h = absurd h
replied_tame r answer.Idle h = absurd h
replied_tame r (answer.NotOpened fail) h = absurd h

ordered_tame : (a : NodeAnswer) → IsDone a → Tame (answer_text a)
unfolding answer_text
ordered_tame (answer.Replied reply) h = absurd h
ordered_tame (answer.Stopped keep) h = absurd h
ordered_tame answer.Done h = refl
ordered_tame answer.Idle h = refl
ordered_tame (answer.NotOpened fail) h = absurd h

pub tame_answer : (q : NodeAsk) (a : NodeAnswer) → IsAnswered q a → Tame (answer_text a)
tame_answer (ask.Act late r) a h = replied_tame r a h
tame_answer ask.Kill a h = ordered_tame a h
tame_answer ask.Restart a h = ordered_tame a h
tame_answer (ask.Arm calls s) a h = ordered_tame a h

pub tame_heard : (r : Request) (t : Told) → IsHeard r t → Tame (heard_text t)
unfolding heard_text
tame_heard r (told.Reply reply) h = tame_reply reply h.0
tame_heard r told.Dropped h = refl
tame_heard r told.Muted h = refl
tame_heard r told.Silent h = refl

pub tame_done : (done : Bool) → Tame (done_text done)
tame_done true = refl
tame_done false = refl

pub tame_order : (q : NodeAsk) → IsOrder q → Tame (ask_text q)
unfolding ask_text
tame_order (ask.Act late r) h = absurd h
tame_order ask.Kill h = refl
tame_order ask.Restart h = refl
tame_order (ask.Arm calls s) h = stop_tame calls s h.0 h.1
