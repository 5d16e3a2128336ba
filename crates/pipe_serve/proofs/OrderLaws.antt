-- From the bytes of two pipes to the calls of a life that a node got.
use Rattle.std.proofs.Common.{ℕ, ◌≡◌, ◌≢◌, ◌<◌, ◌+◌, ◌^◌, ◌==◌, ◌⊎◌, inl, inr, Bool, true, false, List, [], ◌∷◌, ◌++◌, Some, map, refl}
use Rattle.std.proofs.Common.{sym, ap, ◌∙◌, subst, arith, decimal, append_assoc, append-nil, ⊎_elim}
use Rattle.std.specs.Prelude.{codes}
use Rattle.std.specs.List.{AllByRecursion, concat, flat_map, list_all}
use Rattle.std.specs.Str.Parse.{digits_value}
use Rattle.std.proofs.lemmas.Bool.{and_parts}
use Rattle.std.proofs.lemmas.Bool.Decides.{nat_tests}
use Rattle.std.proofs.lemmas.Grind.{flat_map-append}
use Rattle.std.proofs.lemmas.List.{append_cancel_right, map-append}
use Rattle.base_words.specs.Words.{is_space}
use Rattle.base_words.proofs.NumberLaws.{value_of_decimal}
use Rattle.journal_core.specs.declared.request.Request.{Request}
use Rattle.journal_core.specs.declared.reply.Reply.{Reply}
use Rattle.journal_history.specs.declared.node_ask.NodeAnswer.{NodeAnswer}
use Rattle.journal_history.specs.declared.node_ask.NodeAnswer.TheVariants as answer
use Rattle.journal_history.specs.declared.record.Record.{Record}
use Rattle.journal_history.specs.declared.record.Record.TheVariants.{Call, Late, Operator, Outcome}
use Rattle.journal_history.specs.declared.record.Told.{Told}
use Rattle.journal_history.specs.declared.record.Told.TheVariants as told
use Rattle.journal_text.specs.Lines.{IsRequest}
use Rattle.journal_text.specs.Reading.{reading_of}
use Rattle.journal_text.specs.ReplyReading.{reply_of}
use Rattle.journal_text.specs.Texts.{request_text, reply_text}
use Rattle.journal_text.specs.declared.request_line.ReadRequest.TheVariants.{Read}
use Rattle.journal_text.proofs.LineLaws.{text_read}
use Rattle.journal_text.proofs.Spaced.{NoSpace, decimal_no_space}
use Rattle.journal_text.proofs.Texts.{replies_read}
use Rattle.journal_session.specs.Lines.{IsLine}
use Rattle.pipe_seats.specs.Tagged.{count, tagged}
use Rattle.pipe_seats.proofs.LineParts.{parts}
use Rattle.pipe_seats.specs.Tags.{Asked, GotAs, AreWritten, WasAsked, WasAnswered, IsHeardIn, WasHeard}
use Rattle.pipe_seats.proofs.Counts.{count-append}
use Rattle.pipe_serve.specs.Numbers.{AreSome}
use Rattle.pipe_serve.specs.Bytes.{AreFronts, IsReadIn, HasText, CallerLife, asked_line, asked_lines, IsHeardOn, IsAskedOn, IsCallerLife}
use Rattle.pipe_serve.specs.Bytes.{Taken, taken_line, reply_lines_by, reply_lines, IsAnsweredWith, IsTaken}
use Rattle.pipe_serve.specs.Bytes.{SessionBytes, written_lines, IsSessionBytes, keep_got, gots_of, all_taken, AreAtPipes, IsOther, BytesKeepOrder}
use Rattle.pipe_serve.proofs.ByteLaws.{IsSole, IsWhole, AreAmong, IsOneOf, AreSoleIn, all_after, all_among, one_read}
use Rattle.pipe_serve.proofs.NumberLaws.{were_asked, order_kept}
use Rattle.pipe_serve.proofs.TextLaws.{is_fair, IsFair, fair-append, fair_decimal, fair_spaced, fair_request, fair_reply}

-- ## The bytes of a tagged line
fair_none : (b : ℕ) (bytes : List ℕ) → is_fair b ≡ false → IsFair bytes → count b bytes ≡ 0
fair_none b [] off h = refl
fair_none b (x ∷ bytes) off h =
    let p = and_parts (is_fair x) (list_all is_fair bytes) h in
    let more = fair_none b bytes off p.1 in
    let fair : is_fair x ≡ true = p.0 in
    let ne : x ≢ b = λ e. let f : is_fair b ≡ true = subst (λ (y : ℕ). is_fair y ≡ true) e fair in absurd (cc (f, off)) in
    let apart : (x == b) ≡ false = grind (arith, nat_tests, ne) in
    let rest : 0 + count b bytes ≡ 0 = omega (arith, more) in
    rw apart rest

fair_line : (bytes : List ℕ) → IsFair bytes → IsLine bytes
fair_line [] h = tt
fair_line (x ∷ bytes) h =
    let p = and_parts (is_fair x) (list_all is_fair bytes) h in
    let fair : is_fair x ≡ true = p.0 in
    (λ e. let f : is_fair 10 ≡ true = subst (λ (y : ℕ). is_fair y ≡ true) e fair in absurd (cc f), fair_line bytes p.1)

line_on : (xs ys : List ℕ) → IsLine xs → IsLine ys → IsLine (xs ++ ys)
line_on [] ys h k = k
line_on (x ∷ xs) ys h k = (h.0, line_on xs ys h.1 k)

-- between its sign and its point
abbrev body : ℕ → ℕ → List ℕ → List ℕ
body life call text = ((decimal life ++ 32 ∷ decimal call) ++ 32 ∷ text) ++ 32 ∷ []

body_fair : (life call : ℕ) (text : List ℕ) → life < 2 ^ 64 → call < 2 ^ 64 → IsFair text → IsFair (body life call text)
body_fair life call text l c h =
    fair-append ((decimal life ++ 32 ∷ decimal call) ++ 32 ∷ text) (32 ∷ [])
    (fair-append (decimal life ++ 32 ∷ decimal call) (32 ∷ text)
    (fair-append (decimal life) (32 ∷ decimal call) (fair_decimal life l) (fair_spaced (decimal call) (fair_decimal call c))) (fair_spaced text h)) refl

has_body : (life call : ℕ) (text : List ℕ) → tagged life call text ≡ (35 ∷ body life call text) ++ 46 ∷ []
has_body life call text = sym (append_assoc (35 ∷ ((decimal life ++ 32 ∷ decimal call) ++ 32 ∷ text)) (32 ∷ []) (46 ∷ []))

sole_body : (bytes : List ℕ) → IsFair bytes → IsSole ((35 ∷ bytes) ++ 46 ∷ [])
sole_body bytes h =
    let none : count 35 bytes ≡ 0 = fair_none 35 bytes refl h in
    let sum : count 35 (bytes ++ 46 ∷ []) ≡ count 35 bytes + count 35 (46 ∷ []) = count-append 35 bytes (46 ∷ []) in
    record { rest = bytes ++ 46 ∷ []; begins = refl; one = omega (arith, none, sum); front = 35 ∷ bytes; ends = refl }

sole_tagged : (life call : ℕ) (text : List ℕ) → life < 2 ^ 64 → call < 2 ^ 64 → IsFair text → IsSole (tagged life call text)
sole_tagged life call text l c h = subst IsSole (sym (has_body life call text)) (sole_body (body life call text) (body_fair life call text l c h))

whole_tagged : (life call : ℕ) (text : List ℕ) → life < 2 ^ 64 → call < 2 ^ 64 → IsFair text → IsWhole (tagged life call text)
whole_tagged life call text l c h =
    let is : IsLine ((35 ∷ body life call text) ++ 46 ∷ []) =
    line_on (35 ∷ body life call text) (46 ∷ []) (λ e. cc e, fair_line (body life call text) (body_fair life call text l c h)) (λ e. cc e, tt) in
    record { one = subst IsLine (sym (has_body life call text)) is; kind = inl (sole_tagged life call text l c h) }

whole_bad : IsWhole (codes "bad")
whole_bad = record { one = (λ e. cc e, (λ e. cc e, (λ e. cc e, tt))); kind = inr (record { front = codes "ba"; last = 100; ends = refl; off = λ e. cc e }) }

-- ## What a tagged line tells
space_apart : (x : ℕ) (xs : List ℕ) → NoSpace (x ∷ xs) → 32 ≡ x → ⊥
space_apart x xs h e = let f : is_space 32 ≡ false = subst (λ (y : ℕ). is_space y ≡ false) (sym e) h.0 in absurd (cc f)

same_word : (xs ys b c : List ℕ) → NoSpace xs → NoSpace ys → xs ++ 32 ∷ b ≡ ys ++ 32 ∷ c → (xs ≡ ys) × (b ≡ c)
same_word [] [] b c h k e = (refl, cc e)
same_word [] (y ∷ ys) b c h k e = let f : 32 ≡ y = cc e in absurd (space_apart y ys k f)
same_word (x ∷ xs) [] b c h k e = let f : x ≡ 32 = cc e in absurd (space_apart x xs h (sym f))
same_word (x ∷ xs) (y ∷ ys) b c h k e =
    let head : x ≡ y = cc e in
    let tail : xs ++ 32 ∷ b ≡ ys ++ 32 ∷ c = cc e in
    let more = same_word xs ys b c h.1 k.1 tail in
    (cc (head, more.0), more.1)

same_number : (m n : ℕ) (b c : List ℕ) → m < 2 ^ 64 → n < 2 ^ 64 → decimal m ++ 32 ∷ b ≡ decimal n ++ 32 ∷ c → (m ≡ n) × (b ≡ c)
same_number m n b c h k e =
    let s = same_word (decimal m) (decimal n) b c (decimal_no_space m h) (decimal_no_space n k) e in
    (sym (value_of_decimal m h) ∙ ap (digits_value 10) s.0 ∙ value_of_decimal n k, s.1)

same_tags : (l m : ℕ) (t : List ℕ) (k n : ℕ) (u : List ℕ) → l < 2 ^ 64 → m < 2 ^ 64 → k < 2 ^ 64 → n < 2 ^ 64 → tagged l m t ≡ tagged k n u → (l ≡ k) × (m ≡ n) × (t ≡ u)
same_tags l m t k n u wl wm wk wn e =
    let all : 35 ∷ (decimal l ++ 32 ∷ (decimal m ++ 32 ∷ (t ++ 32 ∷ 46 ∷ []))) ≡ 35 ∷ (decimal k ++ 32 ∷ (decimal n ++ 32 ∷ (u ++ 32 ∷ 46 ∷ []))) = sym (parts l m t) ∙ e ∙ parts k n u in
    let tail : decimal l ++ 32 ∷ (decimal m ++ 32 ∷ (t ++ 32 ∷ 46 ∷ [])) ≡ decimal k ++ 32 ∷ (decimal n ++ 32 ∷ (u ++ 32 ∷ 46 ∷ [])) = cc all in
    let one = same_number l k (decimal m ++ 32 ∷ (t ++ 32 ∷ 46 ∷ [])) (decimal n ++ 32 ∷ (u ++ 32 ∷ 46 ∷ [])) wl wk tail in
    let two = same_number m n (t ++ 32 ∷ 46 ∷ []) (u ++ 32 ∷ 46 ∷ []) wm wn one.1 in
    (one.0, two.0, append_cancel_right t u (32 ∷ 46 ∷ []) two.1)

-- ## All writers
fronts_on : (xs ys : List (List ℕ)) (a b : List ℕ) → AreFronts xs a → AreFronts ys b → AreFronts (xs ++ ys) (a ++ b)
fronts_on [] ys a b h k = subst (λ (z : List ℕ). AreFronts ys (z ++ b)) (sym h) k
fronts_on (x ∷ xs) ys a b (front, rest, is, e, more) k =
    (front, rest ++ b, is, ap (λ (l : List ℕ). l ++ b) e ∙ append_assoc front rest b, fronts_on xs ys rest b more k)

all_on : {A : Type 0} (P : A → Type 0) (xs ys : List A) → AllByRecursion P xs → AllByRecursion P ys → AllByRecursion P (xs ++ ys)
all_on P [] ys h k = k
all_on P (x ∷ xs) ys h k = (h.0, all_on P xs ys h.1 k)

all_each : {A B : Type 0} (P : A → Type 0) (Q : B → Type 0) (f : A → List B) → ((x : A) → P x → AllByRecursion Q (f x)) → (xs : List A) → AllByRecursion P xs → AllByRecursion Q (flat_map f xs)
all_each P Q f on [] h = tt
all_each P Q f on (x ∷ xs) h = all_on Q (f x) (flat_map f xs) (on x h.0) (all_each P Q f on xs h.1)

all_map : {A B : Type 0} (P : A → Type 0) (Q : B → Type 0) (f : A → B) → ((x : A) → P x → Q (f x)) → (xs : List A) → AllByRecursion P xs → AllByRecursion Q (map f xs)
all_map P Q f on [] h = tt
all_map P Q f on (x ∷ xs) h = (on x h.0, all_map P Q f on xs h.1)

all_with : {A : Type 0} (P Q : A → Type 0) → ((x : A) → P x → Q x) → (xs : List A) → AllByRecursion P xs → AllByRecursion Q xs
all_with P Q on [] h = tt
all_with P Q on (x ∷ xs) h = (on x h.0, all_with P Q on xs h.1)

all_fronts : {A : Type 0} (P : A → Type 0) (lines : A → List (List ℕ)) (wrote : A → List ℕ) → ((x : A) → P x → AreFronts (lines x) (wrote x)) → (xs : List A) → AllByRecursion P xs
    → AreFronts (flat_map lines xs) (concat (map wrote xs))
all_fronts P lines wrote on [] h = refl
all_fronts P lines wrote on (x ∷ xs) h = fronts_on (lines x) (flat_map lines xs) (wrote x) (concat (map wrote xs)) (on x h.0) (all_fronts P lines wrote on xs h.1)

-- ## Calls
-- a call whose line was begun, with its life
abbrev OwnCall : Type 0
OwnCall = ℕ × Asked

abbrev own_line : OwnCall → List ℕ
own_line p = asked_line p.0 p.1

abbrev with_life : ℕ → Asked → OwnCall
with_life life a = (life, a)

abbrev own_calls : CallerLife → List OwnCall
own_calls c = map (with_life c.life) c.asked

abbrev IsCall : OwnCall → Type 0
IsCall p = (p.0 < 2 ^ 64) × (p.1.number < 2 ^ 64) × IsRequest p.1.request

calls_of_life : (life : ℕ) (read : List (List ℕ)) → life < 2 ^ 64 → (asked : List Asked) → AllByRecursion (IsAskedOn life read) asked → AllByRecursion IsCall (map (with_life life) asked)
calls_of_life life read wide asked h = all_map (IsAskedOn life read) IsCall (with_life life) (λ a k. (wide, k.wide, k.request)) asked h

are_calls : (c : CallerLife) → IsCallerLife c → AllByRecursion IsCall (own_calls c)
are_calls c h = calls_of_life c.life c.read h.wide c.asked h.asked

own_lines : (life : ℕ) (asked : List Asked) → map own_line (map (with_life life) asked) ≡ map (asked_line life) asked
own_lines life [] = refl
own_lines life (a ∷ asked) = ap (λ (l : List (List ℕ)). asked_line life a ∷ l) (own_lines life asked)

all_own_lines : (lives : List CallerLife) → map own_line (flat_map own_calls lives) ≡ flat_map asked_lines lives
all_own_lines [] = refl
all_own_lines (c ∷ lives) =
    map-append own_line (own_calls c) (flat_map own_calls lives)
    ∙ ap (λ (l : List (List ℕ)). l ++ map own_line (flat_map own_calls lives)) (own_lines c.life c.asked) ∙ ap (λ (l : List (List ℕ)). asked_lines c ++ l) (all_own_lines lives)

call_fair : (p : OwnCall) → IsCall p → IsFair (request_text p.1.request)
call_fair p h = fair_request (request_text p.1.request) p.1.request (text_read p.1.request h.2)

whole_call : (p : OwnCall) → IsCall p → IsWhole (own_line p)
whole_call p h = whole_tagged p.0 p.1.number (request_text p.1.request) h.0 h.1 (call_fair p h)

taken_fair : (t : Taken) → IsTaken t → IsFair t.text
taken_fair t h = fair_request t.text t.got.got.request h.reads

sole_taken : (t : Taken) → IsTaken t → IsSole (taken_line t)
sole_taken t h = sole_tagged t.life t.got.number t.text h.wide_life h.wide_number (taken_fair t h)

abbrev IsSameCall : OwnCall → Taken → Type 0
IsSameCall p t = (p.0 ≡ t.life) × (p.1.number ≡ t.got.number) × (p.1.request ≡ t.got.got.request)

same_call : (p : OwnCall) (t : Taken) → IsCall p → IsTaken t → own_line p ≡ taken_line t → IsSameCall p t
same_call p t h k e =
    let s = same_tags p.0 p.1.number (request_text p.1.request) t.life t.got.number t.text h.0 h.1 k.wide_life k.wide_number e in
    let r : Read p.1.request ≡ Read t.got.got.request = sym (text_read p.1.request h.2) ∙ ap reading_of s.2 ∙ k.reads in
    (s.0, s.1, cc r)

-- ## The calls of one life
abbrev keep_asked : Bool → Asked → List Asked → List Asked
keep_asked true a asked = a ∷ asked
keep_asked false a asked = asked

abbrev asked_of : ℕ → List OwnCall → List Asked
asked_of life [] = []
asked_of life (p ∷ calls) = keep_asked (p.0 == life) p.1 (asked_of life calls)

some_behind : (b : Bool) (a : Asked) (gots : List GotAs) (asked : List Asked) → AreSome gots asked → AreSome gots (keep_asked b a asked)
some_behind false a gots asked h = h
some_behind true a [] asked h = tt
some_behind true a (g ∷ gots) asked h = inr h

some_more : (b : Bool) (a : Asked) (g : GotAs) (gots : List GotAs) (asked : List Asked) → a.number ≡ g.number → a.request ≡ g.got.request → AreSome gots asked
    → AreSome (keep_got b g gots) (keep_asked b a asked)
some_more false a g gots asked n r h = h
some_more true a g gots asked n r h = inl (n, r, h)

some_of : (life : ℕ) (taken : List Taken) (calls : List OwnCall) → AllByRecursion IsTaken taken → AllByRecursion IsCall calls → AreAmong (map taken_line taken) (map own_line calls)
    → AreSome (gots_of life taken) (asked_of life calls)
some_of life [] calls h k among = tt
some_of life (t ∷ taken) [] h k among = absurd among
some_of life (t ∷ taken) (p ∷ calls) h k (inl (e, among)) =
    let s = same_call p t k.0 h.0 e in
    let more = some_more (t.life == life) p.1 t.got (gots_of life taken) (asked_of life calls) s.1 s.2 (some_of life taken calls h.1 k.1 among) in
    subst (λ (l : ℕ). AreSome (gots_of life (t ∷ taken)) (keep_asked (l == life) p.1 (asked_of life calls))) (sym s.0) more
some_of life (t ∷ taken) (p ∷ calls) h k (inr among) = some_behind (p.0 == life) p.1 (gots_of life (t ∷ taken)) (asked_of life calls) (some_of life (t ∷ taken) calls h k.1 among)

keep_on : (b : Bool) (a : Asked) (xs ys : List Asked) → keep_asked b a (xs ++ ys) ≡ keep_asked b a xs ++ ys
keep_on true a xs ys = refl
keep_on false a xs ys = refl

asked_on : (life : ℕ) (xs ys : List OwnCall) → asked_of life (xs ++ ys) ≡ asked_of life xs ++ asked_of life ys
asked_on life [] ys = refl
asked_on life (p ∷ xs) ys = ap (keep_asked (p.0 == life) p.1) (asked_on life xs ys) ∙ keep_on (p.0 == life) p.1 (asked_of life xs) (asked_of life ys)

own_kept : (life l : ℕ) (asked : List Asked) → (l == life) ≡ true → asked_of life (map (with_life l) asked) ≡ asked
own_kept life l [] e = refl
own_kept life l (a ∷ asked) e = ap (λ (b : Bool). keep_asked b a (asked_of life (map (with_life l) asked))) e ∙ ap (λ (xs : List Asked). a ∷ xs) (own_kept life l asked e)

own_dropped : (life l : ℕ) (asked : List Asked) → (l == life) ≡ false → asked_of life (map (with_life l) asked) ≡ []
own_dropped life l [] e = refl
own_dropped life l (a ∷ asked) e = ap (λ (b : Bool). keep_asked b a (asked_of life (map (with_life l) asked))) e ∙ own_dropped life l asked e

others_none : (life : ℕ) (lives : List CallerLife) → AllByRecursion (IsOther life) lives → asked_of life (flat_map own_calls lives) ≡ []
others_none life [] h = refl
others_none life (c ∷ lives) h =
    let ne : c.life ≢ life = h.0 in
    let off : (c.life == life) ≡ false = grind (arith, nat_tests, ne) in
    asked_on life (own_calls c) (flat_map own_calls lives)
    ∙ ap (λ (xs : List Asked). xs ++ asked_of life (flat_map own_calls lives)) (own_dropped life c.life c.asked off) ∙ others_none life lives h.1

only_own : (before after : List CallerLife) (c : CallerLife) → AllByRecursion (IsOther c.life) before → AllByRecursion (IsOther c.life) after
    → asked_of c.life (flat_map own_calls (before ++ c ∷ after)) ≡ c.asked
only_own before after c h k =
    let same : (c.life == c.life) ≡ true = grind (arith, nat_tests) in
    ap (asked_of c.life) (flat_map-append own_calls before (c ∷ after)) ∙ asked_on c.life (flat_map own_calls before) (flat_map own_calls (c ∷ after))
    ∙ ap (λ (xs : List Asked). xs ++ asked_of c.life (flat_map own_calls (c ∷ after))) (others_none c.life before h)
    ∙ asked_on c.life (own_calls c) (flat_map own_calls after)
    ∙ ap (λ (xs : List Asked). xs ++ asked_of c.life (flat_map own_calls after)) (own_kept c.life c.life c.asked same)
    ∙ ap (λ (xs : List Asked). c.asked ++ xs) (others_none c.life after k) ∙ append-nil c.asked

-- ## What the sessions took
abbrev lines_taken : SessionBytes → List (List ℕ)
lines_taken s = map taken_line s.taken

abbrev rest_of : SessionBytes → List ℕ
rest_of s = s.rest

all_lines_taken : (sessions : List SessionBytes) → flat_map lines_taken sessions ≡ map taken_line (all_taken sessions)
all_lines_taken [] = refl
all_lines_taken (s ∷ sessions) = ap (λ (l : List (List ℕ)). lines_taken s ++ l) (all_lines_taken sessions) ∙ sym (map-append taken_line s.taken (all_taken sessions))

are_taken : (sessions : List SessionBytes) → AllByRecursion IsSessionBytes sessions → AllByRecursion IsTaken (all_taken sessions)
are_taken sessions h = all_each IsSessionBytes IsTaken (λ s. s.taken) (λ s k. k.taken) sessions h

-- ## Numbers
abbrev Rises : ℕ → List Asked → Type 0
Rises n [] = Unit {0}
Rises n (a ∷ asked) = (n < a.number) × Rises a.number asked

written_rises : (node n : ℕ) (rs : List Record) (asked : List Asked) → AreWritten node n rs asked → Rises n asked
written_rises node n [] asked h = subst (Rises n) (sym h) tt
written_rises node n (Call m r t ∷ rs) asked (inl h) =
    let low : n < n + 1 = omega arith in
    subst (Rises n) (sym h.1.are) (low, written_rises node (n + 1) rs h.1.more h.1.rest)
written_rises node n (Call m r t ∷ rs) asked (inr h) = written_rises node n rs asked h.1
written_rises node n (Outcome text ∷ rs) asked h = written_rises node n rs asked h
written_rises node n (Late m r ∷ rs) asked h = absurd h
written_rises node n (Operator m ask done ∷ rs) asked h = absurd h

abbrev IsIn : Asked → List Asked → Type 0
IsIn a [] = ⊥
IsIn a (b ∷ asked) = (b ≡ a) ⊎ IsIn a asked

got_above : (n : ℕ) (asked : List Asked) (g : GotAs) → Rises n asked → WasAsked asked g → n < g.number
got_above n [] g h w = absurd w
got_above n (a ∷ asked) g h (inl w) = let low : n < a.number = h.0 in let same : a.number ≡ g.number = w.0 in omega (arith, low, same)
got_above n (a ∷ asked) g h (inr w) = let low : n < a.number = h.0 in let more = got_above a.number asked g h.1 w in omega (arith, low, more)

in_above : (n : ℕ) (asked : List Asked) (a : Asked) → Rises n asked → IsIn a asked → n < a.number
in_above n [] a h w = absurd w
in_above n (b ∷ asked) a h (inl e) = subst (λ (x : Asked). n < x.number) e h.0
in_above n (b ∷ asked) a h (inr w) = let low : n < b.number = h.0 in let more = in_above b.number asked a h.1 w in omega (arith, low, more)

-- what was written with a number is one call
one_request : (n : ℕ) (asked : List Asked) (a : Asked) (g : GotAs) → Rises n asked → IsIn a asked → WasAsked asked g → g.number ≡ a.number → a.request ≡ g.got.request
one_request n [] a g h i w e = absurd w
one_request n (b ∷ asked) a g h (inl i) (inl w) e = ap (λ (x : Asked). x.request) (sym i) ∙ w.1
one_request n (b ∷ asked) a g h (inl i) (inr w) e =
    let above = got_above b.number asked g h.1 w in
    let same : b.number ≡ a.number = ap (λ (x : Asked). x.number) i in
    absurd (omega (arith, above, same, e))
one_request n (b ∷ asked) a g h (inr i) (inl w) e =
    let above = in_above b.number asked a h.1 i in
    let same : b.number ≡ g.number = w.0 in
    absurd (omega (arith, above, same, e))
one_request n (b ∷ asked) a g h (inr i) (inr w) e = one_request b.number asked a g h.1 i w e

-- ## Lines that were read
read_before : (line : List ℕ) (xs ys : List (List ℕ)) → IsReadIn line xs → IsReadIn line (xs ++ ys)
read_before line [] ys h = absurd h
read_before line (x ∷ xs) ys (inl h) = inl h
read_before line (x ∷ xs) ys (inr h) = inr (read_before line xs ys h)

read_behind : (line : List ℕ) (xs ys : List (List ℕ)) → IsReadIn line ys → IsReadIn line (xs ++ ys)
read_behind line [] ys h = h
read_behind line (x ∷ xs) ys h = inr (read_behind line xs ys h)

one_before : (line : List ℕ) (xs ys : List (List ℕ)) → IsOneOf line xs → IsOneOf line (xs ++ ys)
one_before line [] ys h = absurd h
one_before line (x ∷ xs) ys (inl h) = inl h
one_before line (x ∷ xs) ys (inr h) = inr (one_before line xs ys h)

one_behind : (line : List ℕ) (xs ys : List (List ℕ)) → IsOneOf line ys → IsOneOf line (xs ++ ys)
one_behind line [] ys h = h
one_behind line (x ∷ xs) ys h = inr (one_behind line xs ys h)

one_on : (line : List ℕ) (xs ys : List (List ℕ)) → IsOneOf line (xs ++ ys) → IsOneOf line xs ⊎ IsOneOf line ys
one_on line [] ys h = inr h
one_on line (x ∷ xs) ys (inl e) = inl (inl e)
one_on line (x ∷ xs) ys (inr h) = ⊎_elim (λ k. inl (inr k)) (λ k. inr k) (one_on line xs ys h)

-- a reply's line isn't what tells that a line is none
reply_there : (line : List ℕ) (sessions : List SessionBytes) → (codes "bad" ≡ line → ⊥) → IsOneOf line (flat_map written_lines sessions) → IsOneOf line (flat_map reply_lines (all_taken sessions))
reply_there line [] off h = h
reply_there line (s ∷ sessions) off h =
    let replies = flat_map reply_lines s.taken in
    let others = flat_map reply_lines (all_taken sessions) in
    subst (IsOneOf line) (sym (flat_map-append reply_lines s.taken (all_taken sessions)))
    (⊎_elim (λ k. ⊎_elim (λ m. one_before line replies others m) (λ m. absurd (⊎_elim off (λ x. x) m)) (one_on line replies (codes "bad" ∷ []) k))
    (λ k. one_behind line replies others (reply_there line sessions off k)) (one_on line (written_lines s) (flat_map written_lines sessions) h))

whole_reply_by : (life n : ℕ) (r : Request) (a : NodeAnswer) → life < 2 ^ 64 → n < 2 ^ 64 → IsAnsweredWith r a → AllByRecursion IsWhole (reply_lines_by life n a)
whole_reply_by life n r (answer.Replied reply) l k h = (whole_tagged life n (reply_text reply) l k (fair_reply reply h.0), tt)
whole_reply_by life n r (answer.Stopped effects) l k h = tt
whole_reply_by life n r answer.Done l k h = tt
whole_reply_by life n r answer.Idle l k h = tt
whole_reply_by life n r (answer.NotOpened cause) l k h = tt

whole_reply : (t : Taken) → IsTaken t → AllByRecursion IsWhole (reply_lines t)
whole_reply t h = whole_reply_by t.life t.got.number t.got.got.request t.got.got.answer h.wide_life h.wide_number h.answered

whole_written : (s : SessionBytes) → IsSessionBytes s → AllByRecursion IsWhole (written_lines s)
whole_written s h = all_on IsWhole (flat_map reply_lines s.taken) (codes "bad" ∷ []) (all_each IsTaken IsWhole reply_lines whole_reply s.taken h.taken) (whole_bad, tt)

-- ## A reply that was heard
kept_all : (P : GotAs → Type 0) (b : Bool) (g : GotAs) (gots : List GotAs) → AllByRecursion P (keep_got b g gots) → (b ≡ true → P g) × AllByRecursion P gots
kept_all P true g gots h = (λ e. h.0, h.1)
kept_all P false g gots h = (λ e. absurd (cc e), h)

module _ (life n : ℕ) (r : Request) (reply : Reply) (wide_life : life < 2 ^ 64) (wide_number : n < 2 ^ 64) (text : HasText r reply) (Was : GotAs → Type 0)
    (same : (g : GotAs) → Was g → g.number ≡ n → r ≡ g.got.request) where
  answered_behind : (b : Bool) (g : GotAs) (gots : List GotAs) → WasAnswered gots n reply → WasAnswered (keep_got b g gots) n reply
  answered_behind true g gots h = inr h
  answered_behind false g gots h = h

  answered_by : (t : Taken) (gots : List GotAs) (a : NodeAnswer) → t.got.got.answer ≡ a → IsTaken t → IsAnsweredWith t.got.got.request a → ((t.life == life) ≡ true → Was t.got)
      → IsOneOf (tagged life n (reply_text reply)) (reply_lines_by t.life t.got.number a) → WasAnswered (keep_got (t.life == life) t.got gots) n reply
  answered_by t gots (answer.Replied other) is h well was (inl e) =
      let s = same_tags t.life t.got.number (reply_text other) life n (reply_text reply) h.wide_life h.wide_number wide_life wide_number e in
      let l : t.life ≡ life = s.0 in
      let mine : (t.life == life) ≡ true = grind (arith, nat_tests, l) in
      let request : r ≡ t.got.got.request = same t.got (was mine) s.1 in
      let one : Some other ≡ Some reply = sym (replies_read t.got.got.request other well.0 well.1) ∙ ap (reply_of t.got.got.request) s.2
      ∙ ap (λ (q : Request). reply_of q (reply_text reply)) (sym request) ∙ replies_read r reply text.0 text.1 in
      let equal : other ≡ reply = cc one in
      subst (λ (b : Bool). WasAnswered (keep_got b t.got gots) n reply) (sym mine) (inl (s.1, is ∙ ap (λ (x : Reply). answer.Replied x) equal))
  answered_by t gots (answer.Replied other) is h well was (inr e) = absurd e
  answered_by t gots (answer.Stopped effects) is h well was one = absurd one
  answered_by t gots answer.Done is h well was one = absurd one
  answered_by t gots answer.Idle is h well was one = absurd one
  answered_by t gots (answer.NotOpened cause) is h well was one = absurd one

  all_answered : (taken : List Taken) → AllByRecursion IsTaken taken → AllByRecursion Was (gots_of life taken) → IsOneOf (tagged life n (reply_text reply)) (flat_map reply_lines taken)
      → WasAnswered (gots_of life taken) n reply
  all_answered [] h w one = absurd one
  all_answered (t ∷ taken) h w one =
      let k = kept_all Was (t.life == life) t.got (gots_of life taken) w in
      ⊎_elim (λ here. answered_by t (gots_of life taken) t.got.got.answer refl h.0 h.0.answered k.0 here)
      (λ there. answered_behind (t.life == life) t.got (gots_of life taken) (all_answered taken h.1 k.1 there))
      (one_on (tagged life n (reply_text reply)) (reply_lines t) (flat_map reply_lines taken) one)

heard_by : (life : ℕ) (read : List (List ℕ)) (gots : List GotAs) (n : ℕ) (r : Request) (t : Told) → IsHeardOn life read n r t
    → ((reply : Reply) → HasText r reply → IsReadIn (tagged life n (reply_text reply)) read → WasAnswered gots n reply) → IsHeardIn gots n t
heard_by life read gots n r (told.Reply reply) h on = on reply h.0 h.1
heard_by life read gots n r told.Dropped h on = tt
heard_by life read gots n r told.Muted h on = tt
heard_by life read gots n r told.Silent h on = tt

heard_all : (life : ℕ) (read : List (List ℕ)) (gots : List GotAs) (part : List Asked) → AllByRecursion (IsAskedOn life read) part
    → ((a : Asked) → IsIn a part → IsAskedOn life read a → WasHeard gots a) → AllByRecursion (WasHeard gots) part
heard_all life read gots [] h on = tt
heard_all life read gots (a ∷ part) h on = (on a (inl refl) h.0, heard_all life read gots part h.1 (λ b i k. on b (inr i) k))

-- ## All of them
module _ (before after : List CallerLife) (c : CallerLife) (sessions : List SessionBytes) (others : AllByRecursion (IsOther c.life) before) (later : AllByRecursion (IsOther c.life) after)
    (at : AreAtPipes (before ++ c ∷ after) sessions) where
  abbrev lives : List CallerLife
  lives = before ++ c ∷ after

  all_calls : AllByRecursion IsCall (flat_map own_calls lives)
  all_calls = all_each IsCallerLife IsCall own_calls are_calls lives at.callers

  whole_calls : AllByRecursion IsWhole (flat_map asked_lines lives)
  whole_calls = subst (AllByRecursion IsWhole) (all_own_lines lives) (all_map IsCall IsWhole own_line whole_call (flat_map own_calls lives) all_calls)

  lines_among : AreAmong (map taken_line (all_taken sessions)) (map own_line (flat_map own_calls lives))
  lines_among =
      let fronts = all_fronts IsCallerLife asked_lines (λ x. x.wrote) (λ x h. h.wrote) lives at.callers in
      let sole = all_with IsSessionBytes (AreSoleIn lines_taken rest_of) (λ s h. all_map IsTaken IsSole taken_line sole_taken s.taken h.taken) sessions at.nodes in
      let among : AreAmong (flat_map lines_taken sessions) (flat_map asked_lines lives) =
      all_among lines_taken rest_of sessions (flat_map asked_lines lives) (concat (map (λ (x : CallerLife). x.wrote) lives)) fronts whole_calls sole at.requests in
      subst (λ (l : List (List ℕ)). AreAmong (map taken_line (all_taken sessions)) l) (sym (all_own_lines lives))
      (subst (λ (l : List (List ℕ)). AreAmong l (flat_map asked_lines lives)) (all_lines_taken sessions) among)

  gots_some : AreSome (gots_of c.life (all_taken sessions)) c.asked
  gots_some = subst (AreSome (gots_of c.life (all_taken sessions))) (only_own before after c others later)
      (some_of c.life (all_taken sessions) (flat_map own_calls lives) (are_taken sessions at.nodes) all_calls lines_among)

  own_life : IsCallerLife c
  own_life = (all_after IsCallerLife before (c ∷ after) at.callers).0

  -- the line of a reply that was read is one that a session wrote
  reply_written : (n : ℕ) (r : Request) (reply : Reply) → n < 2 ^ 64 → HasText r reply → IsReadIn (tagged c.life n (reply_text reply)) c.read
      → IsOneOf (tagged c.life n (reply_text reply)) (flat_map reply_lines (all_taken sessions))
  reply_written n r reply wide text read =
      let line = tagged c.life n (reply_text reply) in
      let sole : IsSole line = sole_tagged c.life n (reply_text reply) own_life.wide wide (fair_reply reply text.0) in
      let split = flat_map-append (λ (x : CallerLife). x.read) before (c ∷ after) in
      let there : IsReadIn line (flat_map (λ (x : CallerLife). x.read) lives) = subst (IsReadIn line) (sym split)
      (read_behind line (flat_map (λ (x : CallerLife). x.read) before) (flat_map (λ (x : CallerLife). x.read) (c ∷ after))
      (read_before line c.read (flat_map (λ (x : CallerLife). x.read) after) read)) in
      let fronts = all_fronts IsSessionBytes written_lines (λ s. s.wrote) (λ s h. h.wrote) sessions at.nodes in
      let whole = all_each IsSessionBytes IsWhole written_lines whole_written sessions at.nodes in
      reply_there line sessions (λ e. let f : codes "bad" ≡ 35 ∷ sole.rest = e ∙ sole.begins in absurd (cc f))
      (one_read (flat_map (λ (x : CallerLife). x.read) lives) (flat_map written_lines sessions) (concat (map (λ (s : SessionBytes). s.wrote) sessions)) line fronts whole sole at.replies there)

  all_heard : (node : ℕ) (rs : List Record) → AreWritten node 0 rs c.asked → AllByRecursion (WasHeard (gots_of c.life (all_taken sessions))) c.asked
  all_heard node rs written =
      let gots = gots_of c.life (all_taken sessions) in
      let were = were_asked c.asked gots gots_some in
      heard_all c.life c.read gots c.asked own_life.asked (λ a i k. heard_by c.life c.read gots a.number a.request a.told k.heard
      (λ reply text read. all_answered c.life a.number a.request reply own_life.wide k.wide text (WasAsked c.asked)
      (λ g w e. one_request 0 c.asked a g (written_rises node 0 rs c.asked written) i w e) (all_taken sessions) (are_taken sessions at.nodes) were
      (reply_written a.number a.request reply k.wide text read)))

pub bytes_kept : BytesKeepOrder
bytes_kept node rs before after c sessions numbers others later at =
    order_kept node c.life rs c.asked (gots_of c.life (all_taken sessions)) numbers (gots_some before after c sessions others later at)
    (all_heard before after c sessions others later at node rs numbers.written)
