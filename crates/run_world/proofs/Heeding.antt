-- What a node does that is up, is asked under its promise with a new serial, and refuses by no
-- limit: request by request.
use Rattle.std.proofs.Common.{◌≡◌, ℕ, ◌+◌, ◌<◌, ◌≤◌, ◌==◌, ◌&&◌, ◌||◌, inl, inr, max, List, [], ◌∷◌, ◌++◌, Bool, true, false, not, cond, refl, sym}
use Rattle.std.proofs.Common.{ap, ◌∙◌, subst, arith, Option, Some, None, nat_lt, nat_le}
use Rattle.std.specs.List.{list_all}
use Rattle.std.proofs.lemmas.Bool.{cases_Bool, cond-true, cond-false, ltb-true, leb-true, eqb-true, eq-eqb, lt-ltb}
use Rattle.std.proofs.lemmas.Bool.Decides.{nat_tests}
use Rattle.journal_core.specs.Laws.{IsStored, OpenIsLed}
use Rattle.journal_core.specs.Views.{HeadView, BatchView, last_txid}
use Rattle.journal_core.specs.Limits.{head_of, numbers_of, max_number, limit_of}
use Rattle.journal_core.specs.Segments.{find_segment, newest, has_edit, end_of}
use Rattle.journal_core.specs.Effects.{WriterEpoch, NewSegment, after_effects, empty_segment}
use Rattle.journal_core.specs.Reads.{told_of, piece_of}
use Rattle.journal_core.specs.Step.{front_refused, unless_limited, refused_at_once, fronted, start_refused, bodies_in, open_refused, finalize_refused}
use Rattle.journal_core.specs.Step.{fetch_refused, accept_refused, row_refused, step_after_front, unless_refused, node_step, serial_then}
use Rattle.journal_core.specs.declared.segment.Segment.{Segment}
use Rattle.journal_core.specs.declared.node_state.NodeState.{NodeState}
use Rattle.journal_core.specs.declared.request.Request.{Request}
use Rattle.journal_core.specs.declared.request.Request.TheVariants.{State, NewEpoch, Start, Journal, Finalize, Prepare, Fetch, Accept}
use Rattle.journal_core.specs.declared.refusal.Refusal.{Refusal}
use Rattle.journal_core.specs.declared.refusal.Refusal.TheVariants.{Down, Limit, EpochRefused}
use Rattle.journal_core.specs.declared.reply.Reply.TheVariants as reply
use Rattle.writer_core.specs.Answers.{fits}
use Rattle.run_world.specs.Complete.{IsHeeded}
use Rattle.journal_core.proofs.Steps.{Acted, at_once, by_row, done, acted, AllQuiet, quiet_first}
use Rattle.journal_core.proofs.SegmentLists.{find-start, find-put_same}
use Rattle.run_safety.proofs.Slots.{none≢some, true≢false}
use Rattle.journal_core.proofs.Changes.{Change, same, created, grown, made_final, replaced, removed, change_answered}
use Rattle.run_safety.proofs.Oks.{Passed, passed_segments}
use Rattle.journal_history.proofs.Requests.{Fronted, behind}
use Rattle.run_world.proofs.Ranges.{AllSmall, numbers_small}

-- ## A request that is taken
pub record Fresh (s : NodeState) (h : HeadView) : Type 0 where
  pub up : s.up ≡ true
  pub promise : s.promised ≡ h.epoch
  pub serial : s.serial < h.serial

reply_at_once : (s : NodeState) (r : Request) (x : Refusal) → refused_at_once s r ≡ Some x → (node_step s r).reply ≡ reply.Refused x
unfolding node_step
reply_at_once s r x e = ap (λ (o : Option Refusal). (unless_refused s r o).reply) e

refused_up : (s : NodeState) (r : Request) → s.up ≡ true → refused_at_once s r ≡ unless_limited (limit_of r) (front_refused s (head_of r))
refused_up s r up = cond-true s.up (unless_limited (limit_of r) (front_refused s (head_of r))) (Some Down) up

heeded_limit : (s : NodeState) (r : Request) → s.up ≡ true → IsHeeded (node_step s r).reply → limit_of r ≡ None
heeded_limit s r up h = by (limit_of r) refl
  where
    by : (o : Option ℕ) → limit_of r ≡ o → o ≡ None
    by None e = refl
    by (Some m) e =
        let at : refused_at_once s r ≡ Some (Limit m) = refused_up s r up ∙ ap (λ (x : Option ℕ). unless_limited x (front_refused s (head_of r))) e in
        absurd (subst IsHeeded (reply_at_once s r (Limit m) at) h)

not_limited : (s : NodeState) (r : Request) → s.up ≡ true → limit_of r ≡ None → refused_at_once s r ≡ front_refused s (head_of r)
not_limited s r up e = refused_up s r up ∙ ap (λ (x : Option ℕ). unless_limited x (front_refused s (head_of r))) e

fresh_front : (s : NodeState) (h : HeadView) → Fresh s h → front_refused s (Some h) ≡ None
fresh_front s h f =
    cond-false (nat_lt h.epoch s.promised) _ _ (low (nat_lt h.epoch s.promised) refl)
    ∙ cond-false ((h.epoch == s.promised) && nat_le h.serial s.serial) _ _ (new (nat_le h.serial s.serial) refl)
  where
    low : (b : Bool) → nat_lt h.epoch s.promised ≡ b → b ≡ false
    low false e = refl
    low true e = let l : h.epoch < s.promised = ltb-true h.epoch s.promised e in absurd (omega (arith, l, f.promise))

    new : (b : Bool) → nat_le h.serial s.serial ≡ b → ((h.epoch == s.promised) && b) ≡ false
    new true e = let l : h.serial ≤ s.serial = leb-true h.serial s.serial e in absurd (omega (arith, l, f.serial))
    new false e = and_false (h.epoch == s.promised)
      where
        and_false : (b : Bool) → (b && false) ≡ false
        and_false true = refl
        and_false false = refl

pub taken : (s : NodeState) (r : Request) (h : HeadView) → head_of r ≡ Some h → Fresh s h → IsHeeded (node_step s r).reply → refused_at_once s r ≡ None
taken s r h is f heeded = not_limited s r f.up (heeded_limit s r f.up heeded) ∙ ap (λ (o : Option HeadView). front_refused s o) is ∙ fresh_front s h f

-- a lower epoch isn't
pub not_heeded : (s : NodeState) (r : Request) (h : HeadView) → head_of r ≡ Some h → s.up ≡ true → h.epoch < s.promised → IsHeeded (node_step s r).reply → ⊥
not_heeded s r h is up low heeded =
    let e : refused_at_once s r ≡ Some (EpochRefused s.promised) =
    not_limited s r up (heeded_limit s r up heeded) ∙ ap (λ (o : Option HeadView). front_refused s o) is ∙ cond-true (nat_lt h.epoch s.promised) _ _ (lt-ltb h.epoch s.promised low) in
    subst IsHeeded (reply_at_once s r (EpochRefused s.promised) e) heeded

-- its numbers are in range
fits_all : (ns : List ℕ) → AllSmall ns → list_all fits ns ≡ true
fits_all [] a = refl
fits_all (n ∷ ns) a = by (nat_le n max_number) refl (fits_all ns a.1)
  where
    by : (b : Bool) → nat_le n max_number ≡ b → list_all fits ns ≡ true → (b && list_all fits ns) ≡ true
    by true e rest = rest
    by false e rest = let no : ⊥ = grind (arith, nat_tests, e, a.0) in absurd no

pub heeded_fits : (s : NodeState) (r : Request) → s.up ≡ true → IsHeeded (node_step s r).reply → list_all fits (numbers_of r) ≡ true
heeded_fits s r up heeded = fits_all (numbers_of r) (numbers_small r (heeded_limit s r up heeded))

-- and nothing after the front refuses it
pub pass : (s : NodeState) (r : Request) → refused_at_once s r ≡ None → row_refused (fronted s r) r ≡ None → Passed s r
pass s r e f = go (acted s r)
  where
    go : Acted s r → Passed s r
    go (at_once x a b c) = none≢some x (sym e ∙ a)
    go (by_row x a b c d) = none≢some x (sym f ∙ b)
    go (done a b c d) = record { at_once = a; row = b; state = ap (λ z. z.state) c; reply = ap (λ z. z.reply) c }

-- ## What it leaves
pub record Left (s : NodeState) (r : Request) (h : HeadView) : Type 0 where
  pub passed : Passed s r
  pub promise : (node_step s r).state.promised ≡ h.epoch
  pub serial : (node_step s r).state.serial ≡ h.serial

pub left : (s : NodeState) (r : Request) (h : HeadView) → head_of r ≡ Some h → ((k : ℕ) → serial_then k r ≡ k) → Fresh s h → Passed s r → Left s r h
left s r h is then f p =
    let b : Fronted s h (step_after_front (fronted s r) r None).state = behind s r h None is then in
    let top : max s.promised h.epoch ≡ h.epoch = omega (arith, f.promise) in
    record { passed = p; promise = ap (λ z. z.promised) p.state ∙ b.promised ∙ top; serial = ap (λ z. z.serial) p.state ∙ b.serial }

-- all edits are in segments up to this start
abbrev pub UpTo : ℕ → NodeState → Type 0
UpTo m s = (t : ℕ) (g : Segment) → find_segment t s.segments ≡ Some g → has_edit g ≡ true → t ≤ m

-- a request that journals nothing, and accepts nothing above it
abbrev pub IsUpTo : ℕ → Request → Type 0
IsUpTo m (Journal h start b) = ⊥
IsUpTo m (Accept h b) = b.first ≤ m
IsUpTo m _ = Unit {0}

up_to_by : (s : NodeState) (r : Request) (m t : ℕ) (o new : Option Segment) → Change s r t o new → IsUpTo m r
    → ((g : Segment) → o ≡ Some g → has_edit g ≡ true → t ≤ m) → (g : Segment) → new ≡ Some g → has_edit g ≡ true → t ≤ m
up_to_by s r m t o new same up h g is e = h g is e
up_to_by s r m t o new (created x q n) up h g is e = let f : has_edit g ≡ false = ap (λ (z : Option Segment). edit_in z) (sym is) in true≢false (sym e ∙ f)
  where
    edit_in : Option Segment → Bool
    edit_in None = false
    edit_in (Some z) = has_edit z
up_to_by s r m t (Some x) new (grown y b q header f first) up h g is e = absurd (subst (λ (z : Request). IsUpTo m z) q up)
up_to_by s r m t (Some x) new (made_final y l q edit f header ends) up h g is e = h x refl edit
up_to_by s r m t o new (replaced y b q first f) up h g is e = let low : b.first ≤ m = subst (λ (z : Request). IsUpTo m z) q up in omega (arith, low, first)
up_to_by s r m t (Some x) new (removed y l q newer le shut) up h g is e = none≢some g is

pub up_to_kept : (s : NodeState) (r : Request) (m : ℕ) → OpenIsLed s → IsStored s → IsUpTo m r → UpTo m s → UpTo m (node_step s r).state
up_to_kept s r m sound d up h t g is e = up_to_by s r m t (find_segment t s.segments) (find_segment t (node_step s r).state.segments) (change_answered s r sound d t) up (h t) g is e

-- ## A proposal
pub record Proposed (s : NodeState) (epoch : ℕ) : Type 0 where
  pub tells : (node_step s (NewEpoch epoch)).reply ≡ reply.NewEpoch (newest s.segments)
  pub promise : (node_step s (NewEpoch epoch)).state.promised ≡ epoch
  pub serial : (node_step s (NewEpoch epoch)).state.serial ≡ 0
  pub segments : (node_step s (NewEpoch epoch)).state.segments ≡ s.segments

proposal_row : (s : NodeState) (epoch : ℕ) → Passed s (NewEpoch epoch) → Proposed s epoch
unfolding after_effects
proposal_row s epoch p = record {
  tells = p.reply;
  promise = ap (λ z. z.promised) p.state;
  serial = ap (λ z. z.serial) p.state;
  segments = ap (λ z. z.segments) p.state;
}

proposal_refused : (s : NodeState) (epoch : ℕ) → refused_at_once s (NewEpoch epoch) ≡ None → nat_le epoch s.promised ≡ true
    → (node_step s (NewEpoch epoch)).reply ≡ reply.Refused (EpochRefused s.promised)
unfolding node_step
proposal_refused s epoch e f =
    ap (λ (o : Option Refusal). (unless_refused s (NewEpoch epoch) o).reply) e
    ∙ ap (λ (b : Bool). (step_after_front (fronted s (NewEpoch epoch)) (NewEpoch epoch) (cond b (Some (EpochRefused s.promised)) None)).reply) f

pub proposed : (s : NodeState) (epoch : ℕ) → s.up ≡ true → IsHeeded (node_step s (NewEpoch epoch)).reply → Proposed s epoch
proposed s epoch up heeded = by (nat_le epoch s.promised) refl
  where
    at : refused_at_once s (NewEpoch epoch) ≡ None
    at = not_limited s (NewEpoch epoch) up (heeded_limit s (NewEpoch epoch) up heeded)

    by : (b : Bool) → nat_le epoch s.promised ≡ b → Proposed s epoch
    by true e = absurd (subst IsHeeded (proposal_refused s epoch at e) heeded)
    by false e = proposal_row s epoch (pass s (NewEpoch epoch) at (cond-false (nat_le epoch s.promised) _ None e))

pub low_proposal : (s : NodeState) (epoch : ℕ) → s.up ≡ true → epoch ≤ s.promised → IsHeeded (node_step s (NewEpoch epoch)).reply → ⊥
low_proposal s epoch up low heeded =
    subst IsHeeded (proposal_refused s epoch (not_limited s (NewEpoch epoch) up (heeded_limit s (NewEpoch epoch) up heeded)) (grind (arith, nat_tests, low))) heeded

-- ## A prepare
pub record HasPrepared (s : NodeState) (h : HeadView) (m : ℕ) : Type 0 where
  pub left : Left s (Prepare h m) h
  pub tells : (node_step s (Prepare h m)).reply ≡ reply.Prepared s.writer (node_step s (Prepare h m)).state.known (told_of (find_segment m s.segments))
  pub segments : (node_step s (Prepare h m)).state.segments ≡ s.segments

pub prepared : (s : NodeState) (h : HeadView) (m : ℕ) → Fresh s h → IsHeeded (node_step s (Prepare h m)).reply → HasPrepared s h m
unfolding after_effects
prepared s h m f heeded =
    let p : Passed s (Prepare h m) = pass s (Prepare h m) (taken s (Prepare h m) h refl f heeded) refl in
    let l : Left s (Prepare h m) h = left s (Prepare h m) h refl (λ k. refl) f p in
    record {
      left = l;
      tells = p.reply ∙ ap (λ (k : ℕ). reply.Prepared s.writer k (told_of (find_segment m s.segments))) (sym (ap (λ z. z.known) p.state));
      segments = passed_segments s (Prepare h m) p;
    }

-- ## A fetch of what is there
pub record HasFetched (s : NodeState) (h : HeadView) (m from : ℕ) : Type 0 where
  pub left : Left s (Fetch h m from) h
  pub tells : (node_step s (Fetch h m from)).reply ≡ reply.Edits (record { first = from; bodies = piece_of (find_segment m s.segments) from })
  pub segments : (node_step s (Fetch h m from)).state.segments ≡ s.segments

fetch_row : (from : ℕ) (g : Segment) → has_edit g ≡ true → g.start ≤ from → from ≤ end_of g → fetch_refused from (Some g) ≡ None
fetch_row from g edit low high =
    cond-false (not (has_edit g)) _ _ (ap not edit)
    ∙ cond-false (nat_lt from g.start || nat_lt (end_of g) from) _ _ (by (nat_lt from g.start) (nat_lt (end_of g) from) refl refl)
  where
    by : (a b : Bool) → nat_lt from g.start ≡ a → nat_lt (end_of g) from ≡ b → (a || b) ≡ false
    by true b e f = let l : from < g.start = ltb-true from g.start e in absurd (omega (arith, l, low))
    by false true e f = let l : end_of g < from = ltb-true (end_of g) from f in absurd (omega (arith, l, high))
    by false false e f = refl

pub fetched : (s : NodeState) (h : HeadView) (m from : ℕ) (g : Segment) → Fresh s h → IsHeeded (node_step s (Fetch h m from)).reply
    → find_segment m s.segments ≡ Some g → has_edit g ≡ true → m ≤ from → from ≤ end_of g
    → HasFetched s h m from
fetched s h m from g f heeded found edit low high =
    let start : g.start ≡ m = find-start m s.segments g found in
    let row : row_refused (fronted s (Fetch h m from)) (Fetch h m from) ≡ None = ap (fetch_refused from) found ∙ fetch_row from g edit (omega (arith, start, low)) high in
    let p : Passed s (Fetch h m from) = pass s (Fetch h m from) (taken s (Fetch h m from) h refl f heeded) row in
    record { left = left s (Fetch h m from) h refl (λ k. refl) f p; tells = p.reply; segments = passed_segments s (Fetch h m from) p }

-- ## An acceptance that no final segment stands against
abbrev pub MayAccept : BatchView → Option Segment → Type 0
MayAccept b None = Unit {0}
MayAccept b (Some g) = g.is_final ≡ true → end_of g ≡ last_txid b

accept_row : (b : BatchView) (o : Option Segment) → MayAccept b o → accept_refused b o ≡ None
accept_row b None m = refl
accept_row b (Some g) m = cond-false (g.is_final && not (end_of g == last_txid b)) _ None (by g.is_final refl)
  where
    by : (a : Bool) → g.is_final ≡ a → (a && not (end_of g == last_txid b)) ≡ false
    by false e = refl
    by true e = ap not (eq-eqb (end_of g) (last_txid b) (m e))

pub accepts : (s : NodeState) (h : HeadView) (b : BatchView) → Fresh s h → IsHeeded (node_step s (Accept h b)).reply → MayAccept b (find_segment b.first s.segments) → Left s (Accept h b) h
accepts s h b f heeded may =
    left s (Accept h b) h refl (λ k. refl) f (pass s (Accept h b) (taken s (Accept h b) h refl f heeded) (accept_row b (find_segment b.first s.segments) may))

-- ## A finalise of what is held to its end
pub record HoldsTo (epoch m l : ℕ) (s : NodeState) : Type 0 where
  pub held : Segment
  pub found : find_segment m s.segments ≡ Some held
  pub edit : has_edit held ≡ true
  pub header : held.is_final ≡ false → held.epoch ≡ epoch
  pub ends : end_of held ≡ l

finalize_row : (epoch l : ℕ) (g : Segment) → has_edit g ≡ true → (g.is_final ≡ false → g.epoch ≡ epoch) → end_of g ≡ l → finalize_refused epoch l (Some g) ≡ None
finalize_row epoch l g edit header ends =
    cond-false (not (has_edit g)) _ _ (ap not edit)
    ∙ cond-false (not g.is_final && not (g.epoch == epoch)) _ _ (by g.is_final refl)
    ∙ cond-false (not (end_of g == l)) _ _ (ap not (eq-eqb (end_of g) l ends))
  where
    by : (a : Bool) → g.is_final ≡ a → (not a && not (g.epoch == epoch)) ≡ false
    by true e = refl
    by false e = ap not (eq-eqb g.epoch epoch (header e))

pub finalizes : (s : NodeState) (h : HeadView) (m l : ℕ) → Fresh s h → IsHeeded (node_step s (Finalize h m l)).reply → HoldsTo h.epoch m l s → Left s (Finalize h m l) h
finalizes s h m l f heeded k =
    left s (Finalize h m l) h refl (λ z. refl) f
    (pass s (Finalize h m l) (taken s (Finalize h m l) h refl f heeded) (ap (finalize_refused h.epoch l) k.found ∙ finalize_row h.epoch l k.held k.edit k.header k.ends))

-- ## A start above all edits
abbrev pub Below : ℕ → NodeState → Type 0
Below k s = (t : ℕ) (g : Segment) → find_segment t s.segments ≡ Some g → has_edit g ≡ true → t < k

-- the segment is open, and empty
pub record IsOpened (epoch k : ℕ) (s : NodeState) : Type 0 where
  pub writer : s.writer ≡ epoch
  pub opened : s.opened ≡ Some k
  pub empty : bodies_in (find_segment k s.segments) ≡ 0

start_row : (o : Option Segment) → ((g : Segment) → o ≡ Some g → (has_edit g ≡ false) × (g.is_final ≡ false)) → start_refused o ≡ None
start_row None n = refl
start_row (Some g) n = cond-false g.is_final _ _ (n g refl).1 ∙ cond-false (has_edit g) _ None (n g refl).0

no_edit : (s : NodeState) (k : ℕ) → Below k s → ((g : Segment) → find_segment k s.segments ≡ Some g → g.is_final ≡ true → has_edit g ≡ true)
    → (g : Segment) → find_segment k s.segments ≡ Some g → (has_edit g ≡ false) × (g.is_final ≡ false)
no_edit s k below final g is = (none, by g.is_final refl)
  where
    none : has_edit g ≡ false
    none = elim (cases_Bool (has_edit g)) [ inl t ↦ (let lt : k < k = below k g is t in absurd (omega (arith, lt))) | inr f ↦ f ]

    by : (b : Bool) → g.is_final ≡ b → b ≡ false
    by false e = refl
    by true e = true≢false (sym (final g is e) ∙ none)

start_quiet : (b : Bool) (epoch : ℕ) → AllQuiet (cond b [] (WriterEpoch epoch ∷ []))
start_quiet true epoch = tt
start_quiet false epoch = (tt, tt)

start_writer : (s : NodeState) (epoch k : ℕ) (b : Bool) → (s.writer == epoch) ≡ b → (after_effects s (cond b [] (WriterEpoch epoch ∷ []) ++ NewSegment k epoch ∷ [])).writer ≡ epoch
unfolding after_effects
start_writer s epoch k true e = eqb-true s.writer epoch e
start_writer s epoch k false e = refl

pub record HasStarted (s : NodeState) (h : HeadView) (k : ℕ) : Type 0 where
  pub left : Left s (Start h k) h
  pub opened : IsOpened h.epoch k (node_step s (Start h k)).state

pub starts : (s : NodeState) (h : HeadView) (k : ℕ) → Fresh s h → IsHeeded (node_step s (Start h k)).reply → Below k s
    → ((g : Segment) → find_segment k s.segments ≡ Some g → g.is_final ≡ true → has_edit g ≡ true) → HasStarted s h k
starts s h k f heeded below final =
    let p : Passed s (Start h k) = pass s (Start h k) (taken s (Start h k) h refl f heeded) (start_row (find_segment k s.segments) (no_edit s k below final)) in
    record {
      left = left s (Start h k) h refl (λ z. refl) f p;
      opened = record {
        writer = ap (λ z. z.writer) p.state ∙ start_writer (fronted s (Start h k)) h.epoch k (s.writer == h.epoch) refl;
        opened = ap (λ z. z.opened) p.state;
        empty = ap (λ z. bodies_in (find_segment k z)) (passed_segments s (Start h k) p
            ∙ quiet_first s.segments (cond (s.writer == h.epoch) [] (WriterEpoch h.epoch ∷ [])) (NewSegment k h.epoch ∷ [])
            (start_quiet (s.writer == h.epoch) h.epoch))
            ∙ ap bodies_in (find-put_same (empty_segment k h.epoch) s.segments);
      };
    }

-- ## The first record of a segment that is open and empty
open_row : (s : NodeState) (h : HeadView) (k : ℕ) (b : BatchView) → b.first ≡ k → s.promised ≡ h.epoch → IsOpened h.epoch k s → row_refused (fronted s (Journal h k b)) (Journal h k b) ≡ None
open_row s h k b first promise o =
    cond-true (s.writer == h.epoch) _ _ (eq-eqb s.writer h.epoch o.writer)
    ∙ ap (λ (x : Option ℕ). open_refused x k b.first (k + bodies_in (find_segment k s.segments))) (still (nat_lt s.promised h.epoch) refl ∙ o.opened)
    ∙ cond-false (not (k == k)) _ _ (ap not (eq-eqb k k refl))
    ∙ cond-false (not (b.first == k + bodies_in (find_segment k s.segments))) _ None
    (ap not (eq-eqb b.first (k + bodies_in (find_segment k s.segments))
    (let z : bodies_in (find_segment k s.segments) ≡ 0 = o.empty in omega (arith, first, z))))
  where
    still : (c : Bool) → nat_lt s.promised h.epoch ≡ c → cond (c || false) None s.opened ≡ s.opened
    still true e = let l : s.promised < h.epoch = ltb-true s.promised h.epoch e in absurd (omega (arith, l, promise))
    still false e = refl

pub opens : (s : NodeState) (h : HeadView) (k : ℕ) (b : BatchView) → Fresh s h → IsHeeded (node_step s (Journal h k b)).reply → b.first ≡ k → IsOpened h.epoch k s → Left s (Journal h k b) h
opens s h k b f heeded first o =
    left s (Journal h k b) h refl (λ z. refl) f (pass s (Journal h k b) (taken s (Journal h k b) h refl f heeded) (open_row s h k b first f.promise o))

-- ## The promise is told by any node that is up
pub state_told : (s : NodeState) → s.up ≡ true → (node_step s State).reply ≡ reply.State s.promised
unfolding node_step limit_of
state_told s up = ap (λ (b : Bool). (unless_refused s State (cond b (unless_limited (limit_of State) (front_refused s (head_of State))) (Some Down))).reply) up
