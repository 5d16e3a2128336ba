-- How often the sign and the point stand in a tagged line.
use Rattle.std.proofs.Common.{ℕ, ◌≡◌, ◌≢◌, ◌<◌, ◌≤◌, ◌+◌, ◌^◌, ◌/◌, ◌%◌, ◌==◌, List, [], ◌∷◌, ◌++◌, Option, Some, None, Bool, true, false, refl, sym, ap, ◌∙◌, subst, arith, decimal, append_assoc}
use Rattle.std.specs.Prelude.{codes}
use Rattle.std.proofs.lemmas.Bool.Decides.{nat_tests}
use Rattle.std.proofs.lemmas.Fmt.{decimal_by_steps}
use Rattle.base_words.specs.Hex.{hex_digit, hex_text}
use Rattle.journal_core.specs.declared.request.Request.{Request}
use Rattle.journal_core.specs.declared.request.Request.TheVariants as request
use Rattle.journal_core.specs.declared.reply.Reply.{Reply}
use Rattle.journal_core.specs.declared.reply.Reply.TheVariants as reply
use Rattle.journal_core.specs.declared.refusal.Refusal.{Refusal}
use Rattle.journal_core.specs.declared.refusal.Refusal.TheVariants as refusal
use Rattle.journal_core.specs.declared.segment_info.SegmentInfo.{SegmentInfo}
use Rattle.journal_core.specs.Refusals.{refusal_number, refusal_name, refusal_field}
use Rattle.journal_text.specs.Texts.{asked_by, spaced, numbers_text, bodies_text, kind_text, accepted_text, told_text, newest_text, field_text, request_text, reply_text}
use Rattle.journal_text.specs.Reading.{leasts_of}
use Rattle.journal_text.specs.Lines.{IsRequest, AreNumbers, word_for, numbers_for}
use Rattle.journal_text.specs.Exact.{IsWide, AreWide, IsWideIf, IsReadable}
use Rattle.pipe_seats.specs.Tagged.{count, IsPlain, tagged, IsTagged, CutLinesAreNone, GluedLinesAreNone, TextsArePlain}

pub count-append : (b : ℕ) (xs ys : List ℕ) → count b (xs ++ ys) ≡ count b xs + count b ys
count-append b [] ys = omega arith
count-append b (x ∷ xs) ys = let more = count-append b xs ys in omega (arith, more)

plain-append : (xs ys : List ℕ) → IsPlain xs → IsPlain ys → IsPlain (xs ++ ys)
plain-append xs ys h k = record { no_sign = omega (arith, count-append 35 xs ys, h.no_sign, k.no_sign); no_point = omega (arith, count-append 46 xs ys, h.no_point, k.no_point) }

-- a byte from 47 on is neither
high_plain : (x : ℕ) → 47 ≤ x → IsPlain (x ∷ [])
high_plain x l =
    let s : (x == 35) ≡ false = grind (arith, nat_tests, l) in
    let p : (x == 46) ≡ false = grind (arith, nat_tests, l) in
    record { no_sign = rw s refl; no_point = rw p refl }

plain-cons : (x : ℕ) (xs : List ℕ) → IsPlain (x ∷ []) → IsPlain xs → IsPlain (x ∷ xs)
plain-cons x xs h k = plain-append (x ∷ []) xs h k

none_plain : IsPlain []
none_plain = record { no_sign = refl; no_point = refl }

space_plain : IsPlain (32 ∷ [])
space_plain = record { no_sign = refl; no_point = refl }

decimal_plain : (n : ℕ) → n < 2 ^ 64 → IsPlain (decimal n)
decimal_plain n h =
    decimal_by_steps (λ m ds. IsPlain ds) (λ m l. high_plain (48 + m) (omega arith))
    (λ m ds l k. plain-append ds ((48 + m % 10) ∷ []) k (high_plain (48 + m % 10) (omega arith))) n h

-- ## A tagged line has one sign and one point
record HasOne (line : List ℕ) : Type 0 where
  sign : count 35 line ≡ 1
  point : count 46 line ≡ 1

four : (b : ℕ) (w x y z : List ℕ) → count b (w ++ x ++ y ++ z) ≡ count b w + count b x + count b y + count b z
four b w x y z = omega (arith, count-append b (w ++ x ++ y) z, count-append b (w ++ x) y, count-append b w x)

tagged_one : (life call : ℕ) (text : List ℕ) → life < 2 ^ 64 → call < 2 ^ 64 → IsPlain text → HasOne (tagged life call text)
tagged_one life call text l c h =
    let a = decimal_plain life l in
    let b = decimal_plain call c in
    record {
      sign = omega (arith, four 35 (35 ∷ decimal life) (32 ∷ decimal call) (32 ∷ text) (32 ∷ 46 ∷ []), a.no_sign, b.no_sign, h.no_sign);
      point = omega (arith, four 46 (35 ∷ decimal life) (32 ∷ decimal call) (32 ∷ text) (32 ∷ 46 ∷ []), a.no_point, b.no_point, h.no_point);
    }

line_one : (line : List ℕ) → IsTagged line → HasOne line
line_one line h = subst (λ (x : List ℕ). HasOne x) (sym h.is) (tagged_one h.life h.call h.text h.wide_life h.wide_call h.plain)

-- ## What is cut
none_left : (xs ys : List ℕ) → xs ++ ys ≡ [] → ys ≡ []
none_left [] ys e = e
none_left (x ∷ xs) ys e = absurd cc

-- what ends with a point has one in each of its ends
ends_with : (front rest z : List ℕ) → rest ≢ [] → front ++ rest ≡ z ++ 46 ∷ [] → 1 ≤ count 46 rest
ends_with [] rest z some e = let same : count 46 rest ≡ count 46 (z ++ 46 ∷ []) = ap (count 46) e in omega (arith, same, count-append 46 z (46 ∷ []))
ends_with (x ∷ front) rest [] some e = let none : front ++ rest ≡ [] = cc in absurd (some (none_left front rest none))
ends_with (x ∷ front) rest (y ∷ z) some e = let more : front ++ rest ≡ z ++ 46 ∷ [] = cc in ends_with front rest z some more

ended : (life call : ℕ) (text : List ℕ) → tagged life call text ≡ ((35 ∷ decimal life) ++ (32 ∷ decimal call) ++ (32 ∷ text) ++ 32 ∷ []) ++ 46 ∷ []
ended life call text = sym (append_assoc ((35 ∷ decimal life) ++ (32 ∷ decimal call) ++ (32 ∷ text)) (32 ∷ []) (46 ∷ []))

pub cut : CutLinesAreNone
cut front rest some h k =
    let last = ends_with front rest ((35 ∷ decimal h.life) ++ (32 ∷ decimal h.call) ++ (32 ∷ h.text) ++ 32 ∷ []) some (h.is ∙ ended h.life h.call h.text) in
    let whole = line_one (front ++ rest) h in
    let one = line_one front k in
    omega (arith, last, whole.point, one.point, count-append 46 front rest)

-- ## What is glued
begins_with : (front rest t : List ℕ) → front ≢ [] → front ++ rest ≡ 35 ∷ t → 1 ≤ count 35 front
begins_with [] rest t some e = absurd (some refl)
begins_with (x ∷ front) rest t some e =
    let same : x ≡ 35 = cc in
    let one : 1 ≤ count 35 (35 ∷ front) = omega arith in
    subst (λ (y : ℕ). 1 ≤ count 35 (y ∷ front)) (sym same) one

pub glued : GluedLinesAreNone
glued front rest line some h k g =
    let first = begins_with front rest (decimal h.life ++ (32 ∷ decimal h.call) ++ (32 ∷ h.text) ++ 32 ∷ 46 ∷ []) some h.is in
    let one = line_one line k in
    let both = line_one (front ++ line) g in
    omega (arith, first, one.sign, both.sign, count-append 35 front line)

-- ## Texts
numbers_plain : (ls ns : List ℕ) → AreNumbers ls ns → IsPlain (numbers_text ns)
unfolding numbers_text
numbers_plain [] [] h = none_plain
numbers_plain [] (n ∷ ns) h = absurd h
numbers_plain (l ∷ ls) [] h = absurd h
numbers_plain (l ∷ ls) (n ∷ ns) h = plain-append (spaced (decimal n)) (numbers_text ns) (plain-cons 32 (decimal n) space_plain (decimal_plain n h.1)) (numbers_plain ls ns h.2)

one_plain : (n : ℕ) → IsWide n → IsPlain (numbers_text (n ∷ []))
unfolding numbers_text
one_plain n h = plain-append (spaced (decimal n)) [] (plain-cons 32 (decimal n) space_plain (decimal_plain n h)) none_plain

two_plain : (m n : ℕ) → IsWide m → IsWide n → IsPlain (numbers_text (m ∷ n ∷ []))
unfolding numbers_text
two_plain m n h k = plain-append (spaced (decimal m)) (numbers_text (n ∷ [])) (plain-cons 32 (decimal m) space_plain (decimal_plain m h)) (one_plain n k)

digit_plain : (d : ℕ) → IsPlain (hex_digit d ∷ [])
digit_plain d = high_plain (hex_digit d) (grind (arith, nat_tests))

hex_plain : (bs : List ℕ) → IsPlain (hex_text bs)
unfolding hex_text
hex_plain [] = none_plain
hex_plain (b ∷ bs) = plain-cons (hex_digit (b / 16)) (hex_digit (b % 16) ∷ hex_text bs) (digit_plain (b / 16)) (plain-cons (hex_digit (b % 16)) (hex_text bs) (digit_plain (b % 16)) (hex_plain bs))

bodies_plain : (bs : List (List ℕ)) → IsPlain (bodies_text bs)
unfolding bodies_text
bodies_plain [] = none_plain
bodies_plain (b ∷ bs) = plain-append (spaced (hex_text b)) (bodies_text bs) (plain-cons 32 (hex_text b) space_plain (hex_plain b)) (bodies_plain bs)

after : (w xs : List ℕ) → IsPlain w → IsPlain xs → IsPlain (w ++ xs)
after w xs h k = plain-append w xs h k

asked_plain : (r : Request) → IsRequest r → IsPlain (numbers_text (numbers_for r))
asked_plain r h = numbers_plain (leasts_of (word_for r)) (numbers_for r) h.numbers

request_plain : (r : Request) → IsRequest r → IsPlain (request_text r)
unfolding request_text
request_plain request.State h = record { no_sign = refl; no_point = refl }
request_plain (request.NewEpoch e) h = after (codes "new") (numbers_text (e ∷ [])) (record { no_sign = refl; no_point = refl }) (asked_plain (request.NewEpoch e) h)
request_plain (request.Start d m) h = after (codes "start") (numbers_text (asked_by d (m ∷ []))) (record { no_sign = refl; no_point = refl }) (asked_plain (request.Start d m) h)
request_plain (request.Journal d m b) h =
    after (codes "journal" ++ numbers_text (asked_by d (m ∷ b.first ∷ []))) (bodies_text b.bodies)
    (after (codes "journal") (numbers_text (asked_by d (m ∷ b.first ∷ []))) (record { no_sign = refl; no_point = refl }) (asked_plain (request.Journal d m b) h)) (bodies_plain b.bodies)
request_plain (request.Finalize d m n) h = after (codes "finalize") (numbers_text (asked_by d (m ∷ n ∷ []))) (record { no_sign = refl; no_point = refl }) (asked_plain (request.Finalize d m n) h)
request_plain (request.Prepare d m) h = after (codes "prepare") (numbers_text (asked_by d (m ∷ []))) (record { no_sign = refl; no_point = refl }) (asked_plain (request.Prepare d m) h)
request_plain (request.Fetch d m f) h = after (codes "fetch") (numbers_text (asked_by d (m ∷ f ∷ []))) (record { no_sign = refl; no_point = refl }) (asked_plain (request.Fetch d m f) h)
request_plain (request.Accept d b) h =
    after (codes "accept" ++ numbers_text (asked_by d (b.first ∷ []))) (bodies_text b.bodies)
    (after (codes "accept") (numbers_text (asked_by d (b.first ∷ []))) (record { no_sign = refl; no_point = refl }) (asked_plain (request.Accept d b) h)) (bodies_plain b.bodies)
request_plain (request.Purge d m) h = after (codes "purge") (numbers_text (asked_by d (m ∷ []))) (record { no_sign = refl; no_point = refl }) (asked_plain (request.Purge d m) h)
request_plain (request.Read f) h = after (codes "read") (numbers_text (f ∷ [])) (record { no_sign = refl; no_point = refl }) (asked_plain (request.Read f) h)
request_plain request.Manifest h = record { no_sign = refl; no_point = refl }

kind_plain : (b : Bool) → IsPlain (kind_text b)
kind_plain true = record { no_sign = refl; no_point = refl }
kind_plain false = record { no_sign = refl; no_point = refl }

accepted_plain : (b : Bool) → IsPlain (accepted_text b)
accepted_plain true = record { no_sign = refl; no_point = refl }
accepted_plain false = record { no_sign = refl; no_point = refl }

told_plain : (t : Option SegmentInfo) → AreWide t → IsPlain (told_text t)
told_plain None h = record { no_sign = refl; no_point = refl }
told_plain (Some g) h =
    after (numbers_text (g.start ∷ []) ++ kind_text g.is_final ++ numbers_text (g.epoch ∷ []) ++ accepted_text g.accepted) (numbers_text (g.end ∷ []))
    (after (numbers_text (g.start ∷ []) ++ kind_text g.is_final ++ numbers_text (g.epoch ∷ [])) (accepted_text g.accepted)
    (after (numbers_text (g.start ∷ []) ++ kind_text g.is_final) (numbers_text (g.epoch ∷ []))
    (after (numbers_text (g.start ∷ [])) (kind_text g.is_final) (one_plain g.start h.0) (kind_plain g.is_final)) (one_plain g.epoch h.2))
    (accepted_plain g.accepted))
    (one_plain g.end h.1)

newest_plain : (s : Option ℕ) → IsWideIf s → IsPlain (newest_text s)
newest_plain None h = record { no_sign = refl; no_point = refl }
newest_plain (Some n) h = one_plain n h

field_plain : (s : Option ℕ) → IsWideIf s → IsPlain (field_text s)
field_plain None h = none_plain
field_plain (Some n) h = one_plain n h

name_plain : (c : Refusal) → IsPlain (refusal_name c) × IsWide (refusal_number c)
unfolding refusal_name
name_plain refusal.Down = (record { no_sign = refl; no_point = refl }, omega arith)
name_plain (refusal.Limit n) = (record { no_sign = refl; no_point = refl }, omega arith)
name_plain (refusal.EpochRefused n) = (record { no_sign = refl; no_point = refl }, omega arith)
name_plain (refusal.OldSerial n) = (record { no_sign = refl; no_point = refl }, omega arith)
name_plain (refusal.NotWriter n) = (record { no_sign = refl; no_point = refl }, omega arith)
name_plain refusal.NoOpenSegment = (record { no_sign = refl; no_point = refl }, omega arith)
name_plain (refusal.WrongSegment n) = (record { no_sign = refl; no_point = refl }, omega arith)
name_plain (refusal.WrongTxid n) = (record { no_sign = refl; no_point = refl }, omega arith)
name_plain (refusal.SegmentFinal n) = (record { no_sign = refl; no_point = refl }, omega arith)
name_plain (refusal.SegmentHasEdits n) = (record { no_sign = refl; no_point = refl }, omega arith)
name_plain refusal.NoSegment = (record { no_sign = refl; no_point = refl }, omega arith)
name_plain (refusal.OtherEpoch n) = (record { no_sign = refl; no_point = refl }, omega arith)
name_plain (refusal.LengthDiffers n) = (record { no_sign = refl; no_point = refl }, omega arith)
name_plain (refusal.Purged n) = (record { no_sign = refl; no_point = refl }, omega arith)
name_plain (refusal.NotHere n) = (record { no_sign = refl; no_point = refl }, omega arith)
name_plain refusal.DiskFault = (record { no_sign = refl; no_point = refl }, omega arith)
name_plain refusal.OutOfMemory = (record { no_sign = refl; no_point = refl }, omega arith)
name_plain refusal.BadFile = (record { no_sign = refl; no_point = refl }, omega arith)

reply_plain : (a : Reply) → IsReadable a → IsPlain (reply_text a)
unfolding reply_text
reply_plain reply.Ok h = record { no_sign = refl; no_point = refl }
reply_plain (reply.State p) h = after (codes "state") (numbers_text (p ∷ [])) (record { no_sign = refl; no_point = refl }) (one_plain p h)
reply_plain (reply.NewEpoch s) h = after (codes "new") (newest_text s) (record { no_sign = refl; no_point = refl }) (newest_plain s h)
reply_plain (reply.Prepared w c t) h =
    after (codes "prepared" ++ numbers_text (w ∷ c ∷ [])) (told_text t)
    (after (codes "prepared") (numbers_text (w ∷ c ∷ [])) (record { no_sign = refl; no_point = refl }) (two_plain w c h.0 h.1)) (told_plain t h.2)
reply_plain (reply.Edits b) h =
    after (codes "edits" ++ numbers_text (b.first ∷ [])) (bodies_text b.bodies)
    (after (codes "edits") (numbers_text (b.first ∷ [])) (record { no_sign = refl; no_point = refl }) (one_plain b.first h.0))
    (bodies_plain b.bodies)
reply_plain (reply.Segments lines) h = absurd h
reply_plain (reply.Refused c) h =
    after (codes "refused" ++ numbers_text (refusal_number c ∷ []) ++ spaced (refusal_name c)) (field_text (refusal_field c))
    (after (codes "refused" ++ numbers_text (refusal_number c ∷ [])) (spaced (refusal_name c))
    (after (codes "refused") (numbers_text (refusal_number c ∷ [])) (record { no_sign = refl; no_point = refl })
    (one_plain (refusal_number c) (name_plain c).1)) (plain-cons 32 (refusal_name c) space_plain (name_plain c).0))
    (field_plain (refusal_field c) h)

pub plain : TextsArePlain
plain = record { requests = request_plain; replies = reply_plain }
