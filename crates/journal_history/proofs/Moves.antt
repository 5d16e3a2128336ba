-- What a request does to a node: it moves it, or leaves it as it was.
use Rattle.std.proofs.Common.{◌≡◌, ◌≢◌, ℕ, ◌<◌, ◌≤◌, ◌⊎◌, ◌==◌, ◌&&◌, Bool, true, false, not, cond, max, min, nat_lt, List, [], ◌∷◌, ◌++◌, length}
use Rattle.std.proofs.Common.{map, refl, sym, ap, ◌∙◌, subst, arith, inl, inr, Option, Some, None, is_some, filter}
use Rattle.std.specs.Prelude.{nat_le}
use Rattle.std.proofs.lemmas.Bool.Decides.{nat_tests}
use Rattle.journal_core.specs.Views.{HeadView}
use Rattle.journal_core.specs.Limits.{head_of}
use Rattle.journal_core.specs.Segments.{find_segment}
use Rattle.journal_core.specs.Effects.{Effect, Promise, WriterEpoch, Commit, NewSegment, Append, Replace, MakeFinal, Remove, after_effect, after_effects}
use Rattle.journal_core.specs.Step.{Stepped, node_step, effects_of, refused_at_once, fronted, row_refused, row_effects, row_then, row_reply, is_final_one, may_go, front_effects}
use Rattle.journal_core.specs.declared.segment.Segment.{Segment}
use Rattle.journal_core.specs.declared.node_state.NodeState.{NodeState}
use Rattle.journal_core.specs.declared.request.Request.{Request}
use Rattle.journal_core.specs.declared.request.Request.TheVariants as request
use Rattle.journal_core.specs.declared.refusal.Refusal.{Refusal}
use Rattle.journal_core.specs.declared.refusal.Refusal.TheVariants as refusal
use Rattle.journal_core.specs.declared.reply.Reply.{Reply}
use Rattle.journal_core.specs.declared.reply.Reply.TheVariants as reply
use Rattle.journal_history.specs.Moving.{epoch_of, is_at_once, is_refused_at_once, moves}
use Rattle.journal_history.proofs.Fronts.{row_late, at_once as refused_once}
use Rattle.journal_history.proofs.Requests.{front_passes, front_promise}
use Rattle.journal_core.proofs.Steps.{Acted, at_once, by_row, done, acted}

-- ## Three kinds of requests: those that read, the proposal of an epoch, and those with a head
pub data Kind (r : Request) : Type 0 where
  reads : epoch_of r ≡ None → ((s : NodeState) → fronted s r ≡ s) → ((s : NodeState) → row_refused s r ≡ None)
      → ((s : NodeState) → row_then (after_effects s (row_effects s r)) r ≡ s) → ((s t : NodeState) → front_effects s (head_of r) ++ row_effects t r ≡ []) → Kind r
  proposes : (epoch : ℕ) → r ≡ request.NewEpoch epoch → Kind r
  headed : (h : HeadView) → head_of r ≡ Some h → is_some (epoch_of r) ≡ true → ((s : NodeState) (f : Refusal) → row_refused s r ≡ Some f → is_at_once f ≡ false)
      → ((s : NodeState) → (row_then (after_effects s (row_effects s r)) r).promised ≡ s.promised)
      → ((s : NodeState) → (row_then (after_effects s (row_effects s r)) r).serial ≡ s.serial) → ((s : NodeState) → is_refused_at_once (row_reply s r) ≡ false) → Kind r

-- an effect that is no promise
abbrev IsOther : Effect → Type 0
IsOther (Promise epoch) = ⊥
IsOther _ = Unit {0}

abbrev AreOther : List Effect → Type 0
AreOther [] = Unit {0}
AreOther (e ∷ es) = IsOther e × AreOther es

other_one : (s : NodeState) (e : Effect) → IsOther e → (after_effect s e).promised ≡ s.promised
other_one s (Promise epoch) o = absurd o
other_one s (WriterEpoch epoch) o = refl
other_one s (Commit txid) o = refl
other_one s (NewSegment start epoch) o = refl
other_one s (Append start bodies) o = refl
other_one s (Replace epoch batch) o = refl
other_one s (MakeFinal start) o = refl
other_one s (Remove start) o = refl

others_promised : (s : NodeState) (es : List Effect) → AreOther es → (after_effects s es).promised ≡ s.promised
unfolding after_effects
others_promised s [] o = refl
others_promised s (e ∷ es) o = others_promised (after_effect s e) es o.1 ∙ other_one s e o.0

serial_stays : (s : NodeState) (es : List Effect) → (after_effects s es).serial ≡ s.serial
unfolding after_effects
serial_stays s [] = refl
serial_stays s (e ∷ es) = serial_stays (after_effect s e) es

others_append : (xs ys : List Effect) → AreOther xs → AreOther ys → AreOther (xs ++ ys)
others_append [] ys p q = q
others_append (x ∷ xs) ys p q = (p.0, others_append xs ys p.1 q)

others_removed : (gs : List Segment) → AreOther (map (λ g. Remove g.start) gs)
others_removed [] = tt
others_removed (g ∷ gs) = (tt, others_removed gs)

others_if : (b : Bool) (xs ys : List Effect) → AreOther xs → AreOther ys → AreOther (cond b xs ys)
others_if true xs ys p q = p
others_if false xs ys p q = q

pub kind : (r : Request) → Kind r
unfolding epoch_of after_effects
kind request.State = reads refl (λ s. refl) (λ s. refl) (λ s. refl) (λ s t. refl)
kind (request.Read from) = reads refl (λ s. refl) (λ s. refl) (λ s. refl) (λ s t. refl)
kind request.Manifest = reads refl (λ s. refl) (λ s. refl) (λ s. refl) (λ s t. refl)
kind (request.NewEpoch epoch) = proposes epoch refl
kind (request.Start head start) =
    headed head refl refl (λ s f h. row_late s (request.Start head start) head f refl h)
    (λ s. others_promised s (row_effects s (request.Start head start))
    (others_append (cond (s.writer == head.epoch) [] (WriterEpoch head.epoch ∷ [])) (NewSegment start head.epoch ∷ [])
    (others_if (s.writer == head.epoch) [] (WriterEpoch head.epoch ∷ []) tt (tt, tt)) (tt, tt)))
    (λ s. serial_stays s (row_effects s (request.Start head start))) (λ s. refl)
kind (request.Journal head start batch) =
    headed head refl refl (λ s f h. row_late s (request.Journal head start batch) head f refl h)
    (λ s. others_promised s (row_effects s (request.Journal head start batch)) (tt, tt)) (λ s. serial_stays s (row_effects s (request.Journal head start batch))) (λ s. refl)
kind (request.Finalize head start end) =
    headed head refl refl (λ s f h. row_late s (request.Finalize head start end) head f refl h)
    (λ s. others_promised s (row_effects s (request.Finalize head start end))
    (others_append (cond (is_final_one (find_segment start s.segments)) [] (MakeFinal start ∷ []))
    (cond (nat_lt s.committed s.known) (Commit s.known ∷ []) [])
    (others_if (is_final_one (find_segment start s.segments)) [] (MakeFinal start ∷ []) tt (tt, tt))
    (others_if (nat_lt s.committed s.known) (Commit s.known ∷ []) [] (tt, tt) tt)))
    (λ s. serial_stays s (row_effects s (request.Finalize head start end))) (λ s. refl)
kind (request.Prepare head start) = headed head refl refl (λ s f h. row_late s (request.Prepare head start) head f refl h) (λ s. refl) (λ s. refl) (λ s. refl)
kind (request.Fetch head start from) = headed head refl refl (λ s f h. row_late s (request.Fetch head start from) head f refl h) (λ s. refl) (λ s. refl) (λ s. refl)
kind (request.Accept head batch) =
    headed head refl refl (λ s f h. row_late s (request.Accept head batch) head f refl h)
    (λ s. others_promised s (row_effects s (request.Accept head batch))
    (others_if (is_final_one (find_segment batch.first s.segments)) [] (Replace head.epoch batch ∷ []) tt (tt, tt)))
    (λ s. serial_stays s (row_effects s (request.Accept head batch))) (λ s. refl)
kind (request.Purge head min) =
    headed head refl refl (λ s f h. row_late s (request.Purge head min) head f refl h)
    (λ s. others_promised s (row_effects s (request.Purge head min)) (others_removed (filter (may_go s head.committed min) s.segments)))
    (λ s. serial_stays s (row_effects s (request.Purge head min))) (λ s. refl)

-- ## The front
some_late : (x f : Refusal) → ◌≡◌ {A = Option Refusal} (Some x) (Some f) → is_at_once x ≡ true → is_at_once f ≡ true
some_late x f h e = let one : x ≡ f = cc h in ap is_at_once (sym one) ∙ e

if_once : (b : Bool) (x : Refusal) (o : Option Refusal) (f : Refusal) → is_at_once x ≡ true → (o ≡ Some f → is_at_once f ≡ true) → cond b (Some x) o ≡ Some f → is_at_once f ≡ true
if_once true x o f e g h = some_late x f h e
if_once false x o f e g h = g h

-- past the front the promise or the serial is raised
abbrev Raises : NodeState → HeadView → Type 0
Raises s h = (s.promised < h.epoch) ⊎ (s.serial < h.serial)

raises : (s : NodeState) (r : Request) (h : HeadView) → head_of r ≡ Some h → refused_at_once s r ≡ None → Raises s h
raises s r h is e = elim (front_passes s r h is e) [ inl lt ↦ inl lt | inr both ↦ inr both.1 ]

-- ## What a step does
pub data Went (s : NodeState) (r : Request) : Type 0 where
  stays : moves r (node_step s r).reply ≡ false → (node_step s r).state ≡ s
      → (is_some (epoch_of r) ≡ true → (f : Refusal) × ((node_step s r).reply ≡ reply.Refused f)) → Went s r
  goes : moves r (node_step s r).reply ≡ true → (node_step s r).state ≢ s → is_some (epoch_of r) ≡ true → Went s r

test_moves : (r : Request) (x : Reply) (b c : Bool) → is_some (epoch_of r) ≡ b → is_refused_at_once x ≡ c → moves r x ≡ (b && not c)
unfolding moves
test_moves r x b c e f = ap (λ (z : Bool). z && not (is_refused_at_once x)) e ∙ ap (λ (z : Bool). b && not z) f

and_false : (b : Bool) → (b && false) ≡ false
and_false true = refl
and_false false = refl

raised : (s t : NodeState) (h : HeadView) → Raises s h → t.promised ≡ max s.promised h.epoch → t.serial ≡ h.serial → t ≢ s
raised s t h (inl lt) p q same = let e : t.promised ≡ s.promised = ap (λ (x : NodeState). x.promised) same in absurd (omega (arith, e, p, lt))
raised s t h (inr lt) p q same = let e : t.serial ≡ s.serial = ap (λ (x : NodeState). x.serial) same in absurd (omega (arith, e, q, lt))

once_stays : (s : NodeState) (r : Request) (x : Refusal) → is_at_once x ≡ true → (node_step s r).reply ≡ reply.Refused x → (node_step s r).state ≡ s → Went s r
once_stays s r x once told same =
    stays (test_moves r (node_step s r).reply (is_some (epoch_of r)) true refl (ap is_refused_at_once told ∙ once) ∙ and_false (is_some (epoch_of r))) same (λ e. (x, told))

reads_stays : (s : NodeState) (r : Request) → epoch_of r ≡ None → (node_step s r).state ≡ s → Went s r
reads_stays s r none same =
    let off : is_some (epoch_of r) ≡ false = ap (λ (o : Option ℕ). is_some o) none in
    stays (test_moves r (node_step s r).reply false (is_refused_at_once (node_step s r).reply) off refl) same (λ e. absurd (cc (e, off)))

went_proposed : (s : NodeState) (epoch : ℕ) → Acted s (request.NewEpoch epoch) → Went s (request.NewEpoch epoch)
unfolding after_effects epoch_of
went_proposed s epoch (at_once x a n e) = once_stays s (request.NewEpoch epoch) x (refused_once s (request.NewEpoch epoch) x a) (ap (λ (z : Stepped). z.reply) n) (ap (λ (z : Stepped). z.state) n)
went_proposed s epoch (by_row x a b n e) =
    once_stays s (request.NewEpoch epoch) x (if_once (nat_le epoch s.promised) (refusal.EpochRefused s.promised) None x refl (λ (j : ◌≡◌ {A = Option Refusal} None (Some x)). absurd (cc j)) b)
    (ap (λ (z : Stepped). z.reply) n) (ap (λ (z : Stepped). z.state) n)
went_proposed s epoch (done a b n e) =
    let above : s.promised < epoch = above_by (nat_le epoch s.promised) refl b in
    goes (test_moves (request.NewEpoch epoch) (node_step s (request.NewEpoch epoch)).reply true false refl (ap (λ (z : Stepped). is_refused_at_once z.reply) n))
    (λ same. let p : epoch ≡ s.promised = sym (ap (λ (z : Stepped). z.state.promised) n) ∙ ap (λ (z : NodeState). z.promised) same in absurd (omega (arith, p, above))) refl
  where
    above_by : (c : Bool) → nat_le epoch s.promised ≡ c → cond c (Some (refusal.EpochRefused s.promised)) None ≡ None → s.promised < epoch
    above_by true i j = absurd (cc j)
    above_by false i j = grind (arith, nat_tests)

by_kind : (s : NodeState) (r : Request) → Kind r → Acted s r → Went s r
by_kind s r k (at_once x a n e) = once_stays s r x (refused_once s r x a) (ap (λ (z : Stepped). z.reply) n) (ap (λ (z : Stepped). z.state) n)
by_kind s r (proposes epoch is) w = subst (λ (x : Request). Went s x) (sym is) (went_proposed s epoch (subst (λ (x : Request). Acted s x) is w))
by_kind s r (reads none front row then_ effects) (by_row x a b n e) = let no : row_refused (fronted s r) r ≡ None = row (fronted s r) in absurd (cc (b, no))
by_kind s r (reads none front row then_ effects) (done a b n e) = reads_stays s r none (ap (λ (z : Stepped). z.state) n ∙ then_ (fronted s r) ∙ front s)
by_kind s r (headed h is some late promised serial told) (by_row x a b n e) =
    let f : ((fronted s r).promised ≡ max s.promised h.epoch) × ((fronted s r).serial ≡ h.serial) = front_promise s r h is in
    goes (test_moves r (node_step s r).reply true false some (ap (λ (z : Stepped). is_refused_at_once z.reply) n ∙ late (fronted s r) x b))
    (λ same. raised s (fronted s r) h (raises s r h is a) f.0 f.1 (sym (ap (λ (z : Stepped). z.state) n) ∙ same)) some
by_kind s r (headed h is some late promised serial told) (done a b n e) =
    let f : ((fronted s r).promised ≡ max s.promised h.epoch) × ((fronted s r).serial ≡ h.serial) = front_promise s r h is in
    let t : NodeState = row_then (after_effects (fronted s r) (row_effects (fronted s r) r)) r in
    goes (test_moves r (node_step s r).reply true false some (ap (λ (z : Stepped). is_refused_at_once z.reply) n ∙ told (fronted s r)))
    (λ same. raised s t h (raises s r h is a) (promised (fronted s r) ∙ f.0) (serial (fronted s r) ∙ f.1) (sym (ap (λ (z : Stepped). z.state) n) ∙ same)) some

pub went : (s : NodeState) (r : Request) → Went s r
went s r = by_kind s r (kind r) (acted s r)

-- a request with an effect has an epoch
effects_by : (s : NodeState) (r : Request) → Kind r → Acted s r → (effects_of s r ≡ []) ⊎ (is_some (epoch_of r) ≡ true)
unfolding epoch_of
effects_by s r (reads none front row then_ effects) (at_once x a n e) = inl e
effects_by s r (reads none front row then_ effects) (by_row x a b n e) = let no : row_refused (fronted s r) r ≡ None = row (fronted s r) in absurd (cc (b, no))
effects_by s r (reads none front row then_ effects) (done a b n e) = inl (e ∙ effects s (fronted s r))
effects_by s r (proposes epoch is) w = inr (ap (λ (x : Request). is_some (epoch_of x)) is)
effects_by s r (headed h is some late promised serial told) w = inr some

pub effects_epoch : (s : NodeState) (r : Request) (kept : ℕ) → kept ≤ length (effects_of s r) → 0 < kept → is_some (epoch_of r) ≡ true
effects_epoch s r kept le lt = elim (effects_by s r (kind r) (acted s r)) [
  | inl none ↦ (let e : length (effects_of s r) ≡ 0 = ap (λ (l : List Effect). length l) none in absurd (omega (arith, e, le, lt)))
  | inr some ↦ some
]
