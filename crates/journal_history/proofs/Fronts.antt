-- What a request leaves of a node's promise and serial: the two that tell whether it moved.
use Rattle.std.proofs.Common.{◌≡◌, ℕ, ◌+◌, List, [], ◌∷◌, ◌++◌, Bool, true, false, not, cond, refl, subst, map, filter}
use Rattle.std.specs.Prelude.{Option, Some, None, ◌&&◌, ◌||◌, ◌==◌, nat_lt, nat_le}
use Rattle.journal_core.specs.Views.{HeadView, BatchView, last_txid}
use Rattle.journal_core.specs.declared.segment.Segment.{Segment}
use Rattle.journal_core.specs.declared.node_state.NodeState.{NodeState}
use Rattle.journal_core.specs.declared.request.Request.{Request}
use Rattle.journal_core.specs.declared.request.Request.TheVariants as request
use Rattle.journal_core.specs.declared.refusal.Refusal.{Refusal}
use Rattle.journal_core.specs.declared.refusal.Refusal.TheVariants as refusal
use Rattle.journal_core.specs.Segments.{find_segment, has_edit, end_of}
use Rattle.journal_core.specs.Limits.{head_of, limit_of}
use Rattle.journal_core.specs.Effects.{Effect, Promise, WriterEpoch, Commit, NewSegment, Append, Replace, MakeFinal, Remove, after_effect, after_effects}
use Rattle.journal_core.specs.Step.{front_refused, unless_limited, refused_at_once, start_refused, open_refused, bodies_in, finalize_refused}
use Rattle.journal_core.specs.Step.{fetch_refused, accept_refused, row_refused, is_final_one, may_go, row_effects}
use Rattle.journal_history.specs.Moving.{is_at_once}

-- ## Effects that leave the promise
unfoldable pub IsQuiet : List Effect → Type 0
IsQuiet [] = Unit {0}
IsQuiet (Promise epoch ∷ es) = ⊥
IsQuiet (WriterEpoch epoch ∷ es) = IsQuiet es
IsQuiet (Commit txid ∷ es) = IsQuiet es
IsQuiet (NewSegment start epoch ∷ es) = IsQuiet es
IsQuiet (Append start bodies ∷ es) = IsQuiet es
IsQuiet (Replace epoch batch ∷ es) = IsQuiet es
IsQuiet (MakeFinal start ∷ es) = IsQuiet es
IsQuiet (Remove start ∷ es) = IsQuiet es

pub quiet_promise : (es : List Effect) (s : NodeState) → IsQuiet es → (after_effects s es).promised ≡ s.promised
unfolding IsQuiet after_effects
quiet_promise [] s h = refl
quiet_promise (Promise epoch ∷ es) s h = absurd h
quiet_promise (WriterEpoch epoch ∷ es) s h = quiet_promise es (after_effect s (WriterEpoch epoch)) h
quiet_promise (Commit txid ∷ es) s h = quiet_promise es (after_effect s (Commit txid)) h
quiet_promise (NewSegment start epoch ∷ es) s h = quiet_promise es (after_effect s (NewSegment start epoch)) h
quiet_promise (Append start bodies ∷ es) s h = quiet_promise es (after_effect s (Append start bodies)) h
quiet_promise (Replace epoch batch ∷ es) s h = quiet_promise es (after_effect s (Replace epoch batch)) h
quiet_promise (MakeFinal start ∷ es) s h = quiet_promise es (after_effect s (MakeFinal start)) h
quiet_promise (Remove start ∷ es) s h = quiet_promise es (after_effect s (Remove start)) h

-- effects are durable: the serial stays
pub same_serial : (es : List Effect) (s : NodeState) → (after_effects s es).serial ≡ s.serial
unfolding after_effects
same_serial [] s = refl
same_serial (e ∷ es) s = same_serial es (after_effect s e)

quiet_append : (xs ys : List Effect) → IsQuiet xs → IsQuiet ys → IsQuiet (xs ++ ys)
unfolding IsQuiet
quiet_append [] ys h g = g
quiet_append (Promise epoch ∷ es) ys h g = absurd h
quiet_append (WriterEpoch epoch ∷ es) ys h g = quiet_append es ys h g
quiet_append (Commit txid ∷ es) ys h g = quiet_append es ys h g
quiet_append (NewSegment start epoch ∷ es) ys h g = quiet_append es ys h g
quiet_append (Append start bodies ∷ es) ys h g = quiet_append es ys h g
quiet_append (Replace epoch batch ∷ es) ys h g = quiet_append es ys h g
quiet_append (MakeFinal start ∷ es) ys h g = quiet_append es ys h g
quiet_append (Remove start ∷ es) ys h g = quiet_append es ys h g

quiet_if : (b : Bool) (xs ys : List Effect) → IsQuiet xs → IsQuiet ys → IsQuiet (cond b xs ys)
quiet_if true xs ys h g = h
quiet_if false xs ys h g = g

quiet_removes : (gs : List Segment) → IsQuiet (map (λ (g : Segment). Remove g.start) gs)
unfolding IsQuiet
quiet_removes [] = tt
quiet_removes (g ∷ gs) = quiet_removes gs

-- a request with a head leaves the promise after the front
pub quiet_row : (s : NodeState) (r : Request) (h : HeadView) → head_of r ≡ Some h → IsQuiet (row_effects s r)
unfolding IsQuiet
quiet_row s request.State h e = tt
quiet_row s (request.NewEpoch epoch) h e = absurd (cc e)
quiet_row s (request.Start head start) h e = quiet_append (cond (s.writer == head.epoch) [] (WriterEpoch head.epoch ∷ []))
    (NewSegment start head.epoch ∷ []) (quiet_if (s.writer == head.epoch) [] (WriterEpoch head.epoch ∷ []) tt tt) tt
quiet_row s (request.Journal head start batch) h e = tt
quiet_row s (request.Finalize head start end) h e =
    quiet_append (cond (is_final_one (find_segment start s.segments)) [] (MakeFinal start ∷ [])) (cond (nat_lt s.committed s.known) (Commit s.known ∷ []) [])
    (quiet_if (is_final_one (find_segment start s.segments)) [] (MakeFinal start ∷ []) tt tt) (quiet_if (nat_lt s.committed s.known) (Commit s.known ∷ []) [] tt tt)
quiet_row s (request.Prepare head start) h e = tt
quiet_row s (request.Fetch head start from) h e = tt
quiet_row s (request.Accept head batch) h e = quiet_if (is_final_one (find_segment batch.first s.segments)) [] (Replace head.epoch batch ∷ []) tt tt
quiet_row s (request.Purge head min) h e = quiet_removes (filter (may_go s head.committed min) s.segments)
quiet_row s (request.Read from) h e = tt
quiet_row s request.Manifest h e = tt

-- ## Refusals: before all else, and after the front
limited_at_once : (o : Option ℕ) (p : Option Refusal) (f : Refusal) → ((g : Refusal) → p ≡ Some g → is_at_once g ≡ true) → unless_limited o p ≡ Some f → is_at_once f ≡ true
limited_at_once (Some n) p f h e = let same : refusal.Limit n ≡ f = cc e in subst (λ (x : Refusal). is_at_once x ≡ true) same refl
limited_at_once None p f h e = h f e

front_by : (b c : Bool) (p n : ℕ) (f : Refusal) → cond b (Some (refusal.EpochRefused p)) (cond c (Some (refusal.OldSerial n)) None) ≡ Some f → is_at_once f ≡ true
front_by true c p n f e = let same : refusal.EpochRefused p ≡ f = cc e in subst (λ (x : Refusal). is_at_once x ≡ true) same refl
front_by false true p n f e = let same : refusal.OldSerial n ≡ f = cc e in subst (λ (x : Refusal). is_at_once x ≡ true) same refl
front_by false false p n f e = absurd (cc e)

front_at_once : (s : NodeState) (o : Option HeadView) (f : Refusal) → front_refused s o ≡ Some f → is_at_once f ≡ true
front_at_once s None f e = absurd (cc e)
front_at_once s (Some h) f e = front_by (nat_lt h.epoch s.promised) ((h.epoch == s.promised) && nat_le h.serial s.serial) s.promised s.serial f e

refused_by : (b : Bool) (p : Option Refusal) (f : Refusal) → ((g : Refusal) → p ≡ Some g → is_at_once g ≡ true) → cond b p (Some refusal.Down) ≡ Some f → is_at_once f ≡ true
refused_by true p f h e = h f e
refused_by false p f h e = let same : refusal.Down ≡ f = cc e in subst (λ (x : Refusal). is_at_once x ≡ true) same refl

pub at_once : (s : NodeState) (r : Request) (f : Refusal) → refused_at_once s r ≡ Some f → is_at_once f ≡ true
at_once s r f e = refused_by s.up (unless_limited (limit_of r) (front_refused s (head_of r))) f
    (λ g x. limited_at_once (limit_of r) (front_refused s (head_of r)) g (λ k y. front_at_once s (head_of r) k y) x) e

-- some refusal, or none
if_late : (b : Bool) (g f : Refusal) (o : Option Refusal) → is_at_once g ≡ false → (o ≡ Some f → is_at_once f ≡ false) → cond b (Some g) o ≡ Some f → is_at_once f ≡ false
if_late true g f o h k e = let same : g ≡ f = cc e in subst (λ (x : Refusal). is_at_once x ≡ false) same h
if_late false g f o h k e = k e

if_else : (b : Bool) (f : Refusal) (o p : Option Refusal) → (o ≡ Some f → is_at_once f ≡ false) → (p ≡ Some f → is_at_once f ≡ false) → cond b o p ≡ Some f → is_at_once f ≡ false
if_else true f o p h k e = h e
if_else false f o p h k e = k e

abbrev no_refusal : Option Refusal
no_refusal = None

nothing : (f : Refusal) → no_refusal ≡ Some f → is_at_once f ≡ false
nothing f e = absurd (cc e)

only : (g f : Refusal) → is_at_once g ≡ false → Some g ≡ Some f → is_at_once f ≡ false
only g f h e = let same : g ≡ f = cc e in subst (λ (x : Refusal). is_at_once x ≡ false) same h

start_late : (o : Option Segment) (f : Refusal) → start_refused o ≡ Some f → is_at_once f ≡ false
start_late None f e = nothing f e
start_late (Some g) f e = if_late g.is_final (refusal.SegmentFinal (end_of g)) f _ refl (λ x. if_late (has_edit g) (refusal.SegmentHasEdits (end_of g)) f None refl (nothing f) x) e

open_late : (o : Option ℕ) (start first expected : ℕ) (f : Refusal) → open_refused o start first expected ≡ Some f → is_at_once f ≡ false
open_late None start first expected f e = only refusal.NoOpenSegment f refl e
open_late (Some opened) start first expected f e = if_late (not (opened == start)) (refusal.WrongSegment opened) f _ refl
    (λ x. if_late (not (first == expected)) (refusal.WrongTxid expected) f None refl (nothing f) x) e

finalize_late : (epoch end : ℕ) (o : Option Segment) (f : Refusal) → finalize_refused epoch end o ≡ Some f → is_at_once f ≡ false
finalize_late epoch end None f e = only refusal.NoSegment f refl e
finalize_late epoch end (Some g) f e =
    if_late (not (has_edit g)) refusal.NoSegment f _ refl
    (λ x. if_late (not g.is_final && not (g.epoch == epoch)) (refusal.OtherEpoch g.epoch) f _ refl
    (λ y. if_late (not (end_of g == end)) (refusal.LengthDiffers (end_of g)) f None refl (nothing f) y) x) e

fetch_late : (from : ℕ) (o : Option Segment) (f : Refusal) → fetch_refused from o ≡ Some f → is_at_once f ≡ false
fetch_late from None f e = only refusal.NoSegment f refl e
fetch_late from (Some g) f e = if_late (not (has_edit g)) refusal.NoSegment f _ refl
    (λ x. if_late (nat_lt from g.start || nat_lt (end_of g) from) (refusal.NotHere (end_of g)) f None refl (nothing f) x) e

accept_late : (batch : BatchView) (o : Option Segment) (f : Refusal) → accept_refused batch o ≡ Some f → is_at_once f ≡ false
accept_late batch None f e = nothing f e
accept_late batch (Some g) f e = if_late (g.is_final && not (end_of g == last_txid batch)) (refusal.LengthDiffers (end_of g)) f None refl (nothing f) e

-- a request with a head is refused after the front by none of the causes before all else
pub row_late : (s : NodeState) (r : Request) (h : HeadView) (f : Refusal) → head_of r ≡ Some h → row_refused s r ≡ Some f → is_at_once f ≡ false
row_late s request.State h f e g = nothing f g
row_late s (request.NewEpoch epoch) h f e g = absurd (cc e)
row_late s (request.Start head start) h f e g = start_late (find_segment start s.segments) f g
row_late s (request.Journal head start batch) h f e g =
    if_else (s.writer == head.epoch) f (open_refused s.opened start batch.first (start + bodies_in (find_segment start s.segments))) (Some (refusal.NotWriter s.writer))
    (λ x. open_late s.opened start batch.first (start + bodies_in (find_segment start s.segments)) f x) (λ x. only (refusal.NotWriter s.writer) f refl x) g
row_late s (request.Finalize head start end) h f e g = finalize_late head.epoch end (find_segment start s.segments) f g
row_late s (request.Prepare head start) h f e g = nothing f g
row_late s (request.Fetch head start from) h f e g = fetch_late from (find_segment start s.segments) f g
row_late s (request.Accept head batch) h f e g = accept_late batch (find_segment batch.first s.segments) f g
row_late s (request.Purge head min) h f e g = nothing f g
row_late s (request.Read from) h f e g = nothing f g
row_late s request.Manifest h f e g = nothing f g
