-- What is read is the text of a reply that answers the request.
use Rattle.std.proofs.Common.{ℕ, ◌≡◌, ◌≢◌, ◌==◌, ◌&&◌, nat_le, List, [], ◌∷◌, map, drop, Option, Some, None, Bool, true, false, cond, refl, sym, ap, subst, ◌∙◌, arith, decimal}
use Rattle.std.specs.Prelude.{codes, unwrap_or}
use Rattle.std.specs.Str.{bytes_eq}
use Rattle.std.proofs.lemmas.Slice.Eq.{bytes_eq-Decides}
use Rattle.std.proofs.lemmas.Bool.{and_parts, leb-true}
use Rattle.std.proofs.lemmas.Bool.Decides.{nat_tests}
use Rattle.base_words.specs.Hex.{hex_text}
use Rattle.journal_core.specs.Views.{BatchView, last_txid}
use Rattle.journal_core.specs.Limits.{max_number}
use Rattle.journal_core.specs.Answers.{BeginsAt, IsDone, IsState, IsNewEpoch, IsPrepared, AreEdits, FitsRequest}
use Rattle.journal_core.specs.Refusals.{refusal_number, refusal_name, refusal_field}
use Rattle.journal_core.specs.declared.segment_info.SegmentInfo.{SegmentInfo}
use Rattle.journal_core.specs.declared.request.Request.{Request}
use Rattle.journal_core.specs.declared.request.Request.TheVariants as request
use Rattle.journal_core.specs.declared.reply.Reply.{Reply}
use Rattle.journal_core.specs.declared.reply.Reply.TheVariants as reply
use Rattle.journal_core.specs.declared.refusal.Refusal.{Refusal}
use Rattle.journal_core.specs.declared.refusal.Refusal.TheVariants as refusal
use Rattle.journal_text.specs.Reading.{bodies_in}
use Rattle.journal_text.proofs.BodyLaws.{bodies_found}
use Rattle.journal_text.specs.ReplyReading.{head_number, head_word, is_over, begins_with, kind_in, accepted_in, state_by, state_in, newest_by, newest_in}
use Rattle.journal_text.specs.ReplyReading.{info_by, info_from, told_by, told_in, prepared_by, prepared_in, batch_of, batch_by, bodies_by, edits_by}
use Rattle.journal_text.specs.ReplyReading.{edits_in, all_refusals, same_field, is_told, refusal_among, field_by, field_in, refusal_by, refusal_in}
use Rattle.journal_text.specs.ReplyReading.{if_begins, done_by, answer_in, refused, by_first, reply_among}
use Rattle.journal_text.specs.Exact.{IsWide, AreWide, IsWideIf, IsReadable, first_of, rest_of, kind_word, accepted_word, told_words, field_words}
use Rattle.journal_text.proofs.Found.{head_found, begin_found, over_found, kind_found, accepted_found}

-- the words are those of the reply's text, which is of this kind
pub record IsSaid (Fits : Reply → Type 0) (w : List ℕ) (ws : List (List ℕ)) (a : Reply) : Type 0 where
  pub first : first_of a ≡ w
  pub rest : rest_of a ≡ ws
  pub fits : Fits a
  pub told : a ≢ reply.Refused refusal.OutOfMemory
  pub readable : IsReadable a

-- ## A promise
state_said : (ws : List (List ℕ)) (o : Option ℕ) (over : Bool) (a : Reply) → head_number ws ≡ o → is_over (drop 1 ws) ≡ over → state_by o over ≡ Some a → IsSaid IsState (codes "state") ws a
state_said ws None over a h k e = absurd cc
state_said ws (Some p) false a h k e = absurd cc
state_said ws (Some p) true a h k e =
    let is : reply.State p ≡ a = cc in
    let f = head_found ws p h in
    let all : decimal p ∷ [] ≡ ws = sym (f.0 ∙ ap (λ vs. decimal p ∷ vs) (over_found (drop 1 ws) k)) in
    subst (λ x. IsSaid IsState (codes "state") ws x) is (record { first = refl; rest = all; fits = tt; told = λ q. cc; readable = f.1 })

pub state_sound : (ws : List (List ℕ)) (a : Reply) → state_in ws ≡ Some a → IsSaid IsState (codes "state") ws a
unfolding state_in
state_sound ws a e = state_said ws (head_number ws) (is_over (drop 1 ws)) a refl refl e

-- ## The newest start
newest_said : (ws : List (List ℕ)) (none : Bool) (o : Option ℕ) (over : Bool) (a : Reply) → begins_with (codes "none") ws ≡ none → head_number ws ≡ o → is_over (drop 1 ws) ≡ over
    → newest_by none o over ≡ Some a → IsSaid IsNewEpoch (codes "new") ws a
newest_said ws none o false a h k l e = absurd cc
newest_said ws true o true a h k l e =
    let is : reply.NewEpoch None ≡ a = cc in
    let all : codes "none" ∷ [] ≡ ws = sym (begin_found (codes "none") ws h ∙ ap (λ vs. codes "none" ∷ vs) (over_found (drop 1 ws) l)) in
    subst (λ x. IsSaid IsNewEpoch (codes "new") ws x) is (record { first = refl; rest = all; fits = tt; told = λ q. cc; readable = tt })
newest_said ws false None true a h k l e = absurd cc
newest_said ws false (Some s) true a h k l e =
    let is : reply.NewEpoch (Some s) ≡ a = cc in
    let f = head_found ws s k in
    let all : decimal s ∷ [] ≡ ws = sym (f.0 ∙ ap (λ vs. decimal s ∷ vs) (over_found (drop 1 ws) l)) in
    subst (λ x. IsSaid IsNewEpoch (codes "new") ws x) is (record { first = refl; rest = all; fits = tt; told = λ q. cc; readable = f.1 })

pub newest_sound : (ws : List (List ℕ)) (a : Reply) → newest_in ws ≡ Some a → IsSaid IsNewEpoch (codes "new") ws a
unfolding newest_in
newest_sound ws a e = newest_said ws (begins_with (codes "none") ws) (head_number ws) (is_over (drop 1 ws)) a refl refl refl e

-- ## A prepare answer
record IsInfo (start : Option ℕ) (ws : List (List ℕ)) (g : SegmentInfo) : Type 0 where
  starts : start ≡ Some g.start
  words : kind_word g.is_final ∷ decimal g.epoch ∷ accepted_word g.accepted ∷ decimal g.end ∷ [] ≡ ws
  epoch : IsWide g.epoch
  end : IsWide g.end

chain : (ws : List (List ℕ)) (k e a n : List ℕ) → ws ≡ k ∷ drop 1 ws → drop 1 ws ≡ e ∷ drop 1 (drop 1 ws) → drop 1 (drop 1 ws) ≡ a ∷ drop 1 (drop 1 (drop 1 ws))
    → drop 1 (drop 1 (drop 1 ws)) ≡ n ∷ drop 1 (drop 1 (drop 1 (drop 1 ws))) → drop 1 (drop 1 (drop 1 (drop 1 ws))) ≡ [] → k ∷ e ∷ a ∷ n ∷ [] ≡ ws
chain ws k e a n h i j l m =
    sym (h ∙ ap (λ vs. k ∷ vs) (i ∙ ap (λ vs. e ∷ vs) (j ∙ ap (λ vs. a ∷ vs) (l ∙ ap (λ vs. n ∷ vs) m))))

info_said : (start : Option ℕ) (ws : List (List ℕ)) (g : SegmentInfo) (s : Option ℕ) (k : Option Bool) (e : Option ℕ) (a : Option Bool) (n : Option ℕ) (o : Bool)
    → start ≡ s → kind_in ws ≡ k → head_number (drop 1 ws) ≡ e → accepted_in (drop 1 (drop 1 ws)) ≡ a → head_number (drop 1 (drop 1 (drop 1 ws))) ≡ n
    → is_over (drop 1 (drop 1 (drop 1 (drop 1 ws)))) ≡ o → info_by s k e a n o ≡ Some g → IsInfo start ws g
info_said start ws g None k e a n o hs hk he ha hn ho q = absurd cc
info_said start ws g (Some s) None e a n o hs hk he ha hn ho q = absurd cc
info_said start ws g (Some s) (Some k) None a n o hs hk he ha hn ho q = absurd cc
info_said start ws g (Some s) (Some k) (Some e) None n o hs hk he ha hn ho q = absurd cc
info_said start ws g (Some s) (Some k) (Some e) (Some a) None o hs hk he ha hn ho q = absurd cc
info_said start ws g (Some s) (Some k) (Some e) (Some a) (Some n) false hs hk he ha hn ho q = absurd cc
info_said start ws g (Some s) (Some k) (Some e) (Some a) (Some n) true hs hk he ha hn ho q =
    let told : SegmentInfo = record { start = s; end = n; epoch = e; is_final = k; accepted = a } in
    let is : told ≡ g = cc in
    let fe = head_found (drop 1 ws) e he in
    let fn = head_found (drop 1 (drop 1 (drop 1 ws))) n hn in
    let all = chain ws (kind_word k) (decimal e) (accepted_word a) (decimal n) (kind_found ws k hk) fe.0 (accepted_found (drop 1 (drop 1 ws)) a ha)
    fn.0 (over_found (drop 1 (drop 1 (drop 1 (drop 1 ws)))) ho) in
    subst (λ x. IsInfo start ws x) is (record { starts = hs; words = all; epoch = fe.1; end = fn.1 })

info_sound : (start : Option ℕ) (ws : List (List ℕ)) (g : SegmentInfo) → info_from start ws ≡ Some g → IsInfo start ws g
unfolding info_from
info_sound start ws g e =
    info_said start ws g start (kind_in ws) (head_number (drop 1 ws)) (accepted_in (drop 1 (drop 1 ws))) (head_number (drop 1 (drop 1 (drop 1 ws)))) (is_over (drop 1 (drop 1 (drop 1 (drop 1 ws)))))
    refl refl refl refl refl refl e

record IsToldBy (ws : List (List ℕ)) (t : Option SegmentInfo) : Type 0 where
  words : told_words t ≡ ws
  wide : AreWide t

told_said : (ws : List (List ℕ)) (t : Option SegmentInfo) (none over : Bool) (i : Option SegmentInfo) → begins_with (codes "none") ws ≡ none → is_over (drop 1 ws) ≡ over
    → info_from (head_number ws) (drop 1 ws) ≡ i → told_by none over i ≡ Some t → IsToldBy ws t
told_said ws t true false i h k l e = absurd cc
told_said ws t true true i h k l e =
    let none : Option SegmentInfo = None in
    let is : none ≡ t = cc in
    let all : codes "none" ∷ [] ≡ ws = sym (begin_found (codes "none") ws h ∙ ap (λ vs. codes "none" ∷ vs) (over_found (drop 1 ws) k)) in
    subst (λ x. IsToldBy ws x) is (record { words = all; wide = tt })
told_said ws t false over None h k l e = absurd cc
told_said ws t false over (Some g) h k l e =
    let is : Some g ≡ t = cc in
    let i = info_sound (head_number ws) (drop 1 ws) g l in
    let f = head_found ws g.start i.starts in
    subst (λ x. IsToldBy ws x) is (record { words = sym (f.0 ∙ ap (λ vs. decimal g.start ∷ vs) (sym i.words)); wide = (f.1, i.end, i.epoch) })

told_sound : (ws : List (List ℕ)) (t : Option SegmentInfo) → told_in ws ≡ Some t → IsToldBy ws t
unfolding told_in
told_sound ws t e = told_said ws t (begins_with (codes "none") ws) (is_over (drop 1 ws)) (info_from (head_number ws) (drop 1 ws)) refl refl refl e

prepared_said : (ws : List (List ℕ)) (a : Reply) (w c : Option ℕ) (t : Option (Option SegmentInfo)) → head_number ws ≡ w → head_number (drop 1 ws) ≡ c → told_in (drop 1 (drop 1 ws)) ≡ t
    → prepared_by w c t ≡ Some a → IsSaid IsPrepared (codes "prepared") ws a
prepared_said ws a None c t h k l e = absurd cc
prepared_said ws a (Some w) None t h k l e = absurd cc
prepared_said ws a (Some w) (Some c) None h k l e = absurd cc
prepared_said ws a (Some w) (Some c) (Some t) h k l e =
    let is : reply.Prepared w c t ≡ a = cc in
    let fw = head_found ws w h in
    let fc = head_found (drop 1 ws) c k in
    let ft = told_sound (drop 1 (drop 1 ws)) t l in
    let all : decimal w ∷ decimal c ∷ told_words t ≡ ws = sym (fw.0 ∙ ap (λ vs. decimal w ∷ vs) (fc.0 ∙ ap (λ vs. decimal c ∷ vs) (sym ft.words))) in
    subst (λ x. IsSaid IsPrepared (codes "prepared") ws x) is (record { first = refl; rest = all; fits = tt; told = λ q. cc; readable = (fw.1, fc.1, ft.wide) })

pub prepared_sound : (ws : List (List ℕ)) (a : Reply) → prepared_in ws ≡ Some a → IsSaid IsPrepared (codes "prepared") ws a
unfolding prepared_in
prepared_sound ws a e = prepared_said ws a (head_number ws) (head_number (drop 1 ws)) (told_in (drop 1 (drop 1 ws))) refl refl refl e

-- ## Edits
record IsBatch (from : ℕ) (b : BatchView) (a : Reply) : Type 0 where
  is : reply.Edits b ≡ a
  begins : BeginsAt from b

batch_said : (from : ℕ) (b : BatchView) (a : Reply) (x y : Bool) → (b.first == from) ≡ x → nat_le (last_txid b) max_number ≡ y → batch_by x y b ≡ Some a → IsBatch from b a
batch_said from b a false y h k e = absurd cc
batch_said from b a true false h k e = absurd cc
batch_said from b a true true h k e =
    let same : b.first ≡ from = grind (arith, nat_tests, h) in
    record { is = cc; begins = record { first = same; last = leb-true (last_txid b) max_number k } }

edits_said : (from : ℕ) (ws : List (List ℕ)) (a : Reply) (o : Option ℕ) (bs : Option (List (List ℕ))) → head_number ws ≡ o → bodies_in (drop 1 ws) ≡ bs
    → ((f : ℕ) → o ≡ Some f → bodies_by from f bs ≡ Some a) → edits_by from o (drop 1 ws) ≡ Some a → IsSaid (AreEdits from) (codes "edits") ws a
edits_said from ws a None bs h k l e = absurd cc
edits_said from ws a (Some f) None h k l e = absurd (let q = l f refl in cc)
edits_said from ws a (Some f) (Some []) h k l e = absurd (let q = l f refl in cc)
edits_said from ws a (Some f) (Some (b ∷ bs)) h k l e =
    let batch = batch_of f (b ∷ bs) in
    let q = batch_said from batch a (batch.first == from) (nat_le (last_txid batch) max_number) refl refl (l f refl) in
    let g = head_found ws f h in
    let found = bodies_found (drop 1 ws) (b ∷ bs) k in
    let all : decimal f ∷ map hex_text (b ∷ bs) ≡ ws = sym (g.0 ∙ ap (λ vs. decimal f ∷ vs) (sym found.0)) in
    subst (λ x. IsSaid (AreEdits from) (codes "edits") ws x) q.is (record { first = refl; rest = all; fits = q.begins; told = λ u. cc; readable = (g.1, found.1, omega arith) })

edits_step : (from : ℕ) (ws : List (List ℕ)) (a : Reply) (o : Option ℕ) → edits_by from o (drop 1 ws) ≡ Some a → (f : ℕ) → o ≡ Some f → bodies_by from f (bodies_in (drop 1 ws)) ≡ Some a
edits_step from ws a o e f h = sym (ap (λ x. edits_by from x (drop 1 ws)) h) ∙ e

pub edits_sound : (from : ℕ) (ws : List (List ℕ)) (a : Reply) → edits_in from ws ≡ Some a → IsSaid (AreEdits from) (codes "edits") ws a
unfolding edits_in
edits_sound from ws a e = edits_said from ws a (head_number ws) (bodies_in (drop 1 ws)) refl refl (edits_step from ws a (head_number ws) e) e

-- ## Refusals
record TellsAll (number : ℕ) (name : List ℕ) (field : Option ℕ) (r : Refusal) : Type 0 where
  number_is : refusal_number r ≡ number
  name_is : name ≡ refusal_name r
  field_is : refusal_field r ≡ field

field_same : (a b : Option ℕ) → same_field a b ≡ true → a ≡ b
field_same None None e = refl
field_same (Some a) None e = absurd cc
field_same None (Some b) e = absurd cc
field_same (Some a) (Some b) e = let same : a ≡ b = grind (arith, nat_tests, e) in ap (λ n. Some n) same

all_told : (number : ℕ) (name : List ℕ) (field : Option ℕ) (r : Refusal) → is_told number name field r ≡ true → TellsAll number name field r
all_told number name field r e =
    let t = and_parts (refusal_number r == number) (bytes_eq name (refusal_name r) && same_field (refusal_field r) field) e in
    let u = and_parts (bytes_eq name (refusal_name r)) (same_field (refusal_field r) field) t.1 in
    let same : refusal_number r ≡ number = grind (arith, nat_tests, t.0) in
    record { number_is = same; name_is = (bytes_eq-Decides name (refusal_name r)).0 u.0; field_is = field_same (refusal_field r) field u.1 }

-- none of them tells lack of memory
abbrev NoMemory : List Refusal → Type 0
NoMemory [] = Unit {0}
NoMemory (r ∷ rs) = (r ≢ refusal.OutOfMemory) × NoMemory rs

record IsCause (number : ℕ) (name : List ℕ) (field : Option ℕ) (r : Refusal) : Type 0 where
  tells : TellsAll number name field r
  memory : r ≢ refusal.OutOfMemory

among_said : (rs : List Refusal) (number : ℕ) (name : List ℕ) (field : Option ℕ) (r : Refusal) → NoMemory rs → refusal_among rs number name field ≡ Some r → IsCause number name field r
among_said [] number name field r m e = absurd cc
among_said (x ∷ rs) number name field r m e = by (is_told number name field x) refl e (λ q. among_said rs number name field r m.1 q)
  where
    by : (b : Bool) → is_told number name field x ≡ b → cond b (Some x) (refusal_among rs number name field) ≡ Some r
        → (refusal_among rs number name field ≡ Some r → IsCause number name field r) → IsCause number name field r
    by true h q more = let is : x ≡ r = cc in subst (λ y. IsCause number name field y) is (record { tells = all_told number name field x h; memory = m.0 })
    by false h q more = more q

all_known : (n : ℕ) → NoMemory (all_refusals n)
all_known n = (
  λ e. cc,
  (
    λ e. cc,
    (
      λ e. cc,
      (
        λ e. cc,
        (
          λ e. cc,
          (
            λ e. cc,
            (
              λ e. cc,
              (
                λ e. cc,
                (
                  λ e. cc,
                  (
                    λ e. cc,
                    (λ e. cc, (λ e. cc, (λ e. cc, (λ e. cc, (λ e. cc, (λ e. cc, (λ e. cc, tt))))))),
                  ),
                ),
              ),
            ),
          ),
        ),
      ),
    ),
  ),
)

head_word_found : (ws : List (List ℕ)) (w : List ℕ) → head_word ws ≡ Some w → ws ≡ w ∷ drop 1 ws
head_word_found [] w e = absurd cc
head_word_found (v ∷ ws) w e = let is : v ≡ w = cc in ap (λ x. x ∷ ws) is

record IsField (ws : List (List ℕ)) (field : Option ℕ) : Type 0 where
  words : field_words field ≡ ws
  wide : IsWideIf field

field_said : (ws : List (List ℕ)) (field : Option ℕ) (over : Bool) (o : Option ℕ) (end : Bool) → is_over ws ≡ over → head_number ws ≡ o
    → is_over (drop 1 ws) ≡ end → field_by over o end ≡ Some field → IsField ws field
field_said ws field true o end h k l e =
    let none : Option ℕ = None in
    let is : none ≡ field = cc in
    subst (λ x. IsField ws x) is (record { words = sym (over_found ws h); wide = tt })
field_said ws field false None end h k l e = absurd cc
field_said ws field false (Some n) false h k l e = absurd cc
field_said ws field false (Some n) true h k l e =
    let is : Some n ≡ field = cc in
    let f = head_found ws n k in
    let all : decimal n ∷ [] ≡ ws = sym (f.0 ∙ ap (λ vs. decimal n ∷ vs) (over_found (drop 1 ws) l)) in
    subst (λ x. IsField ws x) is (record { words = all; wide = f.1 })

field_sound : (ws : List (List ℕ)) (field : Option ℕ) → field_in ws ≡ Some field → IsField ws field
field_sound ws field e = field_said ws field (is_over ws) (head_number ws) (is_over (drop 1 ws)) refl refl refl e

refusal_said : (ws : List (List ℕ)) (r : Refusal) (n : Option ℕ) (name : Option (List ℕ)) (field : Option (Option ℕ)) → head_number ws ≡ n → head_word (drop 1 ws) ≡ name
    → field_in (drop 1 (drop 1 ws)) ≡ field → refusal_by n name field ≡ Some r → (rest_of (reply.Refused r) ≡ ws) × (r ≢ refusal.OutOfMemory) × IsWideIf (refusal_field r)
refusal_said ws r None name field h k l e = absurd cc
refusal_said ws r (Some n) None field h k l e = absurd cc
refusal_said ws r (Some n) (Some name) None h k l e = absurd cc
refusal_said ws r (Some n) (Some name) (Some field) h k l e =
    let c = among_said (all_refusals (unwrap_or field 0)) n name field r (all_known (unwrap_or field 0)) e in
    let fn = head_found ws n h in
    let fw = head_word_found (drop 1 ws) name k in
    let ff = field_sound (drop 1 (drop 1 ws)) field l in
    let same : rest_of (reply.Refused r) ≡ decimal n ∷ name ∷ field_words field =
    ap (λ x. decimal x ∷ refusal_name r ∷ field_words (refusal_field r)) c.tells.number_is
    ∙ ap (λ x. decimal n ∷ x ∷ field_words (refusal_field r)) (sym c.tells.name_is)
    ∙ ap (λ x. decimal n ∷ name ∷ field_words x) c.tells.field_is in
    (same ∙ sym (fn.0 ∙ ap (λ vs. decimal n ∷ vs) (fw ∙ ap (λ vs. name ∷ vs) (sym ff.words))), c.memory, subst (λ x. IsWideIf x) (sym c.tells.field_is) ff.wide)

refusal_sound : (ws : List (List ℕ)) (r : Refusal) → refusal_in ws ≡ Some r → (rest_of (reply.Refused r) ≡ ws) × (r ≢ refusal.OutOfMemory) × IsWideIf (refusal_field r)
unfolding refusal_in
refusal_sound ws r e = refusal_said ws r (head_number ws) (head_word (drop 1 ws)) (field_in (drop 1 (drop 1 ws))) refl refl refl e

-- a refusal answers any request
refusals_fit : (r : Request) (c : Refusal) → FitsRequest r (reply.Refused c)
refusals_fit request.State c = tt
refusals_fit (request.NewEpoch e) c = tt
refusals_fit (request.Start h m) c = tt
refusals_fit (request.Journal h m b) c = tt
refusals_fit (request.Finalize h m e) c = tt
refusals_fit (request.Prepare h m) c = tt
refusals_fit (request.Fetch h m f) c = tt
refusals_fit (request.Accept h b) c = tt
refusals_fit (request.Purge h m) c = tt
refusals_fit (request.Read f) c = tt
refusals_fit request.Manifest c = tt

refused_said : (r : Request) (ws : List (List ℕ)) (a : Reply) (o : Option Refusal) → refusal_in ws ≡ o → refused o ≡ Some a → IsSaid (FitsRequest r) (codes "refused") ws a
refused_said r ws a None h e = absurd cc
refused_said r ws a (Some c) h e =
    let is : reply.Refused c ≡ a = cc in
    let s = refusal_sound ws c h in
    subst (λ x. IsSaid (FitsRequest r) (codes "refused") ws x) is (record { first = refl; rest = s.0; fits = refusals_fit r c; told = λ q. s.1 cc; readable = s.2 })

-- ## The reply
begun : (Fits : Reply → Type 0) (w text : List ℕ) (ws : List (List ℕ)) (a : Reply) (o : Option Reply) (b : Bool) → bytes_eq w text ≡ b
    → (o ≡ Some a → IsSaid Fits text ws a) → if_begins b o ≡ Some a → IsSaid Fits w ws a
begun Fits w text ws a o false h f e = absurd cc
begun Fits w text ws a o true h f e = subst (λ x. IsSaid Fits x ws a) (sym ((bytes_eq-Decides w text).0 h)) (f e)

done_said : (ws : List (List ℕ)) (a : Reply) (b : Bool) → is_over ws ≡ b → done_by b ≡ Some a → IsSaid IsDone (codes "ok") ws a
done_said ws a false h e = absurd cc
done_said ws a true h e =
    let is : reply.Ok ≡ a = cc in
    subst (λ x. IsSaid IsDone (codes "ok") ws x) is (record { first = refl; rest = sym (over_found ws h); fits = tt; told = λ q. cc; readable = tt })

done_sound : (w : List ℕ) (ws : List (List ℕ)) (a : Reply) → if_begins (bytes_eq w (codes "ok")) (done_by (is_over ws)) ≡ Some a → IsSaid IsDone w ws a
done_sound w ws a e = begun IsDone w (codes "ok") ws a (done_by (is_over ws)) (bytes_eq w (codes "ok")) refl (λ q. done_said ws a (is_over ws) refl q) e

answer_sound : (r : Request) (w : List ℕ) (ws : List (List ℕ)) (a : Reply) → answer_in r w ws ≡ Some a → IsSaid (FitsRequest r) w ws a
unfolding answer_in
answer_sound request.State w ws a e = begun IsState w (codes "state") ws a (state_in ws) (bytes_eq w (codes "state")) refl (λ q. state_sound ws a q) e
answer_sound (request.NewEpoch n) w ws a e = begun IsNewEpoch w (codes "new") ws a (newest_in ws) (bytes_eq w (codes "new")) refl (λ q. newest_sound ws a q) e
answer_sound (request.Start h m) w ws a e = done_sound w ws a e
answer_sound (request.Journal h m b) w ws a e = done_sound w ws a e
answer_sound (request.Finalize h m n) w ws a e = done_sound w ws a e
answer_sound (request.Prepare h m) w ws a e = begun IsPrepared w (codes "prepared") ws a (prepared_in ws) (bytes_eq w (codes "prepared")) refl (λ q. prepared_sound ws a q) e
answer_sound (request.Fetch h m f) w ws a e = begun (AreEdits f) w (codes "edits") ws a (edits_in f ws) (bytes_eq w (codes "edits")) refl (λ q. edits_sound f ws a q) e
answer_sound (request.Accept h b) w ws a e = done_sound w ws a e
answer_sound (request.Purge h m) w ws a e = done_sound w ws a e
answer_sound (request.Read f) w ws a e = begun (AreEdits f) w (codes "edits") ws a (edits_in f ws) (bytes_eq w (codes "edits")) refl (λ q. edits_sound f ws a q) e
answer_sound request.Manifest w ws a e = absurd cc

first_sound : (r : Request) (w : List ℕ) (ws : List (List ℕ)) (a : Reply) (b : Bool) → bytes_eq w (codes "refused") ≡ b → by_first b r w ws ≡ Some a → IsSaid (FitsRequest r) w ws a
first_sound r w ws a false h e = answer_sound r w ws a e
first_sound r w ws a true h e = subst (λ x. IsSaid (FitsRequest r) x ws a) (sym ((bytes_eq-Decides w (codes "refused")).0 h)) (refused_said r ws a (refusal_in ws) refl e)

-- the reply that the words say
pub among_sound : (r : Request) (w : List ℕ) (ws : List (List ℕ)) (a : Reply) → reply_among r (w ∷ ws) ≡ Some a → IsSaid (FitsRequest r) w ws a
among_sound r w ws a e = first_sound r w ws a (bytes_eq w (codes "refused")) refl e
