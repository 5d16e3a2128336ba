-- What is decided by an index that tells segments is what the node step says of them.
use Rattle.std.proofs.Common.{ℕ, ◌≡◌, ◌≤◌, ◌+◌, ◌-◌, ◌==◌, ◌&&◌, List, [], ◌∷◌, ◌++◌, Option, Some, None, Bool, true, false, cond, nat_lt, nat_le}
use Rattle.std.proofs.Common.{map, length, suc, refl, sym, ap, ◌∙◌, arith, subst, IfSome}
use Rattle.std.proofs.lemmas.Bool.Decides.{nat_tests}
use Rattle.journal_core.specs.Views.{HeadView, BatchView}
use Rattle.journal_core.specs.declared.segment.Segment.{Segment}
use Rattle.journal_core.specs.declared.segment_info.SegmentInfo.{SegmentInfo}
use Rattle.journal_core.specs.declared.node_state.NodeState.{NodeState}
use Rattle.journal_core.specs.declared.refusal.Refusal.{Refusal}
use Rattle.journal_core.specs.declared.refusal.Refusal.TheVariants.{NotWriter, EpochRefused}
use Rattle.journal_core.specs.declared.request.Request.{Request}
use Rattle.journal_core.specs.declared.request.Request.TheVariants as request
use Rattle.journal_core.specs.Segments.{find_segment, any_body}
use Rattle.journal_core.specs.declared.cut.Cut.{Cut}
use Rattle.journal_core.specs.Limits.{max_number, limit_of}
use Rattle.journal_core.specs.Effects.{Effect}
use Rattle.journal_core.specs.Effects as effect
use Rattle.journal_core.specs.Cuts.{has_record, has_record_of, cost_of, number_cost, accept_cost, name_cost}
use Rattle.journal_core.specs.Step.{start_refused, journal_refused, open_refused, bodies_in, finalize_refused, fetch_refused, accept_refused, row_refused, is_final_one}
use Rattle.journal_core.proofs.Steps.{test_passed}
use Rattle.journal_core.proofs.Within.{find_start, first_is}
use Rattle.journal_step.specs.declared.segment_index.IndexedSegment.{IndexedSegment}
use Rattle.journal_step.specs.declared.durable_effect.DurableEffect.TheVariants as durable
use Rattle.journal_step.specs.declared.decision.Decision.{Decision}
use Rattle.journal_step.specs.declared.decision.Decision.TheVariants.{Refused, Effects, Purge}
use Rattle.journal_step.specs.Index.{IsEntryOf, IsTold, AreTold, state_with}
use Rattle.journal_step.specs.Durable.{effect_of, effect_cost}
use Rattle.journal_step.specs.Decisions.{start_refusal, next_txid, journal_refusal, finalize_refusal, fetch_refusal, accept_refusal, place_of}
use Rattle.journal_step.specs.Decisions.{final_effect, commit_effect, accept_effect, unless, decision_of, listed, SeesFinal, nowhere, EachSees}
use Rattle.journal_step.specs.Decisions.{MemoryFirst, IsDecision}
use Rattle.journal_step.proofs.LimitLaws.{epoch_fits, start_fits, journal_fits, finalize_fits, accept_fits}

-- ## Refusals
start_same : (o : Option Segment) (p : Option IndexedSegment) → IsTold o p → start_refusal p ≡ start_refused o
start_same None None h = refl
start_same None (Some e) h = absurd h
start_same (Some g) None h = absurd h
start_same (Some g) (Some e) h = rw (h.edit, h.info) refl

next_of : (start end : ℕ) (xs : List (List ℕ)) → end ≡ start + length xs - 1 → cond (any_body xs) (end + 1) start ≡ start + length xs
next_of start end [] e = omega arith
next_of start end (x ∷ xs) e = let l : end ≡ start + suc (length xs) - 1 = e in omega arith

next_same : (start : ℕ) (o : Option Segment) (p : Option IndexedSegment) → IsTold o p → IfSome o (λ g. g.start ≡ start) → next_txid start p ≡ start + bodies_in o
next_same start None None h s = omega arith
next_same start None (Some e) h s = absurd h
next_same start (Some g) None h s = absurd h
next_same start (Some g) (Some e) h s =
    let ends : e.info.end ≡ start + length g.bodies - 1 = ap (λ (i : SegmentInfo). i.end) h.info ∙ ap (λ n. n + length g.bodies - 1) s in
    ap (λ b. cond b (e.info.end + 1) start) h.edit ∙ next_of start e.info.end g.bodies ends

finalize_same : (epoch end : ℕ) (o : Option Segment) (p : Option IndexedSegment) → IsTold o p → finalize_refusal epoch end p ≡ finalize_refused epoch end o
finalize_same epoch end None None h = refl
finalize_same epoch end None (Some e) h = absurd h
finalize_same epoch end (Some g) None h = absurd h
finalize_same epoch end (Some g) (Some e) h = rw (h.edit, h.info) refl

fetch_same : (from : ℕ) (o : Option Segment) (p : Option IndexedSegment) → IsTold o p → fetch_refusal from p ≡ fetch_refused from o
fetch_same from None None h = refl
fetch_same from None (Some e) h = absurd h
fetch_same from (Some g) None h = absurd h
fetch_same from (Some g) (Some e) h = rw (h.edit, h.info) refl

accept_same : (b : BatchView) (o : Option Segment) (p : Option IndexedSegment) → IsTold o p → accept_refusal b p ≡ accept_refused b o
accept_same b None None h = refl
accept_same b None (Some e) h = absurd h
accept_same b (Some g) None h = absurd h
accept_same b (Some g) (Some e) h = rw h.info refl

journal_same : (m : NodeState) (h : HeadView) (start : ℕ) (b : BatchView) (gs : List Segment) (p : Option IndexedSegment) → IsTold (find_segment start gs) p
    → journal_refusal m h start b p ≡ journal_refused (state_with m gs) h start b
journal_same m h start b gs p t =
    ap (λ n. cond (m.writer == h.epoch) (open_refused m.opened start b.first n) (Some (NotWriter m.writer))) (next_same start (find_segment start gs) p t (find_start start gs))

-- ## Effects
-- refused as the step refuses, or decided as it does
by_refusal : (s : NodeState) (found : ℕ → Option IndexedSegment) (r : Request) (o : Option Refusal) (d : Decision) → o ≡ row_refused s r
    → (row_refused s r ≡ None → IsDecision s found r d) → IsDecision s found r (unless o d)
by_refusal s found r (Some refusal) d e h = sym e
by_refusal s found r None d e h = h (sym e)

module _ (m : NodeState) (found : ℕ → Option IndexedSegment) (gs : List Segment) (told : AreTold gs found) where
  epoch_decided : (epoch : ℕ) → limit_of (request.NewEpoch epoch) ≡ None → (b : Bool) → nat_le epoch m.promised ≡ b
      → IsDecision (state_with m gs) found (request.NewEpoch epoch) (cond b (Refused (EpochRefused m.promised)) (Effects (Some (durable.Promise epoch)) None))
  epoch_decided epoch fits true e = rw e refl
  epoch_decided epoch fits false e = record { passes = rw e refl; effects = refl; sees = (epoch_fits epoch fits, tt); memory = (λ k. cc, tt); costs = λ cut. refl }

  start_decided : (h : HeadView) (start : ℕ) → limit_of (request.Start h start) ≡ None → start_refused (find_segment start gs) ≡ None
      → (b : Bool) → (m.writer == h.epoch) ≡ b
      → IsDecision (state_with m gs) found (request.Start h start) (Effects (cond b None (Some (durable.WriterEpoch h.epoch))) (Some (durable.NewSegment start h.epoch)))
  start_decided h start fits none true e =
      let f = start_fits h start fits in
      record { passes = none; effects = rw e refl; sees = (record { start_fits = f.0; epoch_fits = f.1; passes = none }, tt); memory = (λ k. refl, tt); costs = λ cut. refl }
  start_decided h start fits none false e =
      let f = start_fits h start fits in
      record { passes = none; effects = rw e refl; sees = (f.1, (record { start_fits = f.0; epoch_fits = f.1; passes = none }, tt)); memory = (λ k. cc, (λ k. refl, tt)); costs = λ cut. refl }

  journal_decided : (h : HeadView) (start : ℕ) (b : BatchView) → limit_of (request.Journal h start b) ≡ None → journal_refused (state_with m gs) h start b ≡ None
      → IsDecision (state_with m gs) found (request.Journal h start b) (Effects (Some (durable.Append start (place_of (found start)))) None)
  journal_decided h start b fits none =
      let next : b.first ≡ start + bodies_in (find_segment start gs) = first_is m.opened start b.first _ (test_passed (m.writer == h.epoch) _ _ none) in
      record { passes = none; effects = refl; sees = (record { batched = tt; place = refl; next = next; last = (journal_fits h start b fits).1 }, tt); memory = (λ k. refl, tt); costs = λ cut. refl }

  commit_seen : (at : ℕ → Option IndexedSegment) (t : NodeState) (r : Request) → t.known ≡ m.known → (b : Bool) → EachSees t at r (listed (cond b (Some (durable.Commit m.known)) None))
  commit_seen at t r e true = (sym e, tt)
  commit_seen at t r e false = tt

  commit_is : (r : Request) (b : Bool) → cond b (effect.Commit m.known ∷ []) [] ≡ map (effect_of r) (listed (cond b (Some (durable.Commit m.known)) None))
  commit_is r true = refl
  commit_is r false = refl

  final_seen : (start end epoch : ℕ) (g : Segment) (e : IndexedSegment) → start ≤ max_number → end ≤ max_number → find_segment start gs ≡ Some g → IsEntryOf g e → e.info.is_final ≡ false
      → finalize_refused epoch end (Some g) ≡ None → SeesFinal (state_with m gs) start end e.info.accepted
  final_seen start end epoch g e l k is t f none =
      record {
        segment = g;
        known = is;
        start_fits = l;
        end_fits = k;
        in_progress = ap (λ (i : SegmentInfo). i.is_final) (sym t.info) ∙ f;
        edit = grind (arith, nat_tests);
        ends = grind (arith, nat_tests);
        accepted_is = ap (λ (i : SegmentInfo). i.accepted) (sym t.info);
      }

  finalize_by : (h : HeadView) (start end : ℕ) → limit_of (request.Finalize h start end) ≡ None → (g : Segment) (e : IndexedSegment) → find_segment start gs ≡ Some g → IsEntryOf g e
      → finalize_refused h.epoch end (Some g) ≡ None → (f : Bool) → e.info.is_final ≡ f
      → IsDecision (state_with m gs) found (request.Finalize h start end) (Effects (cond f None (Some (durable.MakeFinal start end e.info.accepted))) (commit_effect m))
  finalize_by h start end fits g e is t none f final =
      let r = request.Finalize h start end in
      let s = state_with m gs in
      let b = nat_lt m.committed m.known in
      let l = finalize_fits h start end fits in
      let there : is_final_one (find_segment start gs) ≡ f = ap is_final_one is ∙ ap (λ (i : SegmentInfo). i.is_final) (sym t.info) ∙ final in
      record {
        passes = rw is none;
        effects = ap (λ (x : Bool). cond x [] (effect.MakeFinal start ∷ []) ++ cond b (effect.Commit m.known ∷ []) []) there ∙ both f b;
        sees = seen f final;
        memory = first f b;
        costs = λ cut. costs cut f b;
      }
    where
      both : (f b : Bool) → cond f [] (effect.MakeFinal start ∷ []) ++ cond b (effect.Commit m.known ∷ []) []
          ≡ map (effect_of (request.Finalize h start end)) (listed (cond f None (Some (durable.MakeFinal start end e.info.accepted))) ++ listed (cond b (Some (durable.Commit m.known)) None))
      both true b = commit_is (request.Finalize h start end) b
      both false b = ap (λ es. effect.MakeFinal start ∷ es) (commit_is (request.Finalize h start end) b)

      first : (f b : Bool) → MemoryFirst (listed (cond f None (Some (durable.MakeFinal start end e.info.accepted))) ++ listed (cond b (Some (durable.Commit m.known)) None))
      first true true = (λ k. refl, tt)
      first true false = tt
      first false true = (λ k. refl, (λ k. refl, tt))
      first false false = (λ k. refl, tt)

      named : (cut : Cut) → cost_of cut gs (effect.MakeFinal start) ≡ name_cost e.info.accepted
      named cut = ap (λ o. name_cost (has_record o)) is ∙ ap (λ (i : SegmentInfo). name_cost i.accepted) (sym t.info)

      costs : (cut : Cut) (f b : Bool) → map (cost_of cut gs) (map (effect_of (request.Finalize h start end))
          (listed (cond f None (Some (durable.MakeFinal start end e.info.accepted))) ++ listed (cond b (Some (durable.Commit m.known)) None)))
          ≡ map (effect_cost cut) (listed (cond f None (Some (durable.MakeFinal start end e.info.accepted))) ++ listed (cond b (Some (durable.Commit m.known)) None))
      costs cut true true = refl
      costs cut true false = refl
      costs cut false true = ap (λ c. c ∷ number_cost ∷ []) (named cut)
      costs cut false false = ap (λ c. c ∷ []) (named cut)

      seen : (f : Bool) → e.info.is_final ≡ f
          → EachSees (state_with m gs) found (request.Finalize h start end) (listed (cond f None (Some (durable.MakeFinal start end e.info.accepted))) ++ listed (commit_effect m))
      seen true final = commit_seen found (state_with m gs) (request.Finalize h start end) refl (nat_lt m.committed m.known)
      seen false final =
          let l = finalize_fits h start end fits in
          (final_seen start end h.epoch g e l.0 l.1 is t final none, commit_seen nowhere _ (request.Finalize h start end) refl (nat_lt m.committed m.known))

  finalize_decided : (h : HeadView) (start end : ℕ) → limit_of (request.Finalize h start end) ≡ None → (o : Option Segment) (p : Option IndexedSegment) → find_segment start gs ≡ o → IsTold o p
      → finalize_refused h.epoch end o ≡ None → IsDecision (state_with m gs) found (request.Finalize h start end) (Effects (final_effect start end p) (commit_effect m))
  finalize_decided h start end fits None p is t none = absurd (cc)
  finalize_decided h start end fits (Some g) None is t none = absurd t
  finalize_decided h start end fits (Some g) (Some e) is t none = finalize_by h start end fits g e is t none e.info.is_final refl

  accept_by : (h : HeadView) (b : BatchView) → limit_of (request.Accept h b) ≡ None → (o : Option Segment) → find_segment b.first gs ≡ o → accept_refused b o ≡ None → (f again : Bool)
      → is_final_one o ≡ f → (f ≡ false → again ≡ has_record_of h.epoch o)
      → IsDecision (state_with m gs) found (request.Accept h b) (Effects (cond f None (Some (durable.Replace h.epoch again))) None)
  accept_by h b fits o is none true again final same = record { passes = rw is none; effects = rw (is, final) refl; sees = tt; memory = tt; costs = λ cut. refl }
  accept_by h b fits o is none false again final same =
      let l = accept_fits h b fits in
      record {
        passes = rw is none;
        effects = rw (is, final) refl;
        sees = (record { batched = tt; first = l.0; last = l.1; epoch_fits = l.2; in_progress = rw is final; record_is = rw is (same refl) }, tt);
        memory = (λ k. refl, tt);
        costs = λ cut. ap (λ (x : Bool). accept_cost x ∷ []) (ap (has_record_of h.epoch) is ∙ sym (same refl));
      }

  accept_decided : (h : HeadView) (b : BatchView) → limit_of (request.Accept h b) ≡ None → (o : Option Segment) (p : Option IndexedSegment) → find_segment b.first gs ≡ o → IsTold o p
      → accept_refused b o ≡ None → IsDecision (state_with m gs) found (request.Accept h b) (Effects (accept_effect h.epoch p) None)
  accept_decided h b fits None None is t none = accept_by h b fits None is none false false refl (λ f. refl)
  accept_decided h b fits None (Some e) is t none = absurd t
  accept_decided h b fits (Some g) None is t none = absurd t
  accept_decided h b fits (Some g) (Some e) is t none =
      accept_by h b fits (Some g) is none e.info.is_final (e.info.accepted && (e.info.epoch == h.epoch)) (ap (λ (i : SegmentInfo). i.is_final) (sym t.info))
      (λ f. ap (λ (i : SegmentInfo). i.accepted && (i.epoch == h.epoch)) t.info)

  decision_told : (r : Request) → limit_of r ≡ None → IsDecision (state_with m gs) found r (decision_of m found r)
  decision_told request.State fits = record { passes = refl; effects = refl; sees = tt; memory = tt; costs = λ cut. refl }
  decision_told (request.NewEpoch epoch) fits = epoch_decided epoch fits (nat_le epoch m.promised) refl
  decision_told (request.Start h start) fits =
      by_refusal (state_with m gs) found (request.Start h start) (start_refusal (found start)) _ (start_same (find_segment start gs) (found start) (told start))
      (λ none. start_decided h start fits none (m.writer == h.epoch) refl)
  decision_told (request.Journal h start b) fits =
      by_refusal (state_with m gs) found (request.Journal h start b) (journal_refusal m h start b (found start)) _ (journal_same m h start b gs (found start) (told start))
      (λ none. journal_decided h start b fits none)
  decision_told (request.Finalize h start end) fits =
      by_refusal (state_with m gs) found (request.Finalize h start end) (finalize_refusal h.epoch end (found start)) _ (finalize_same h.epoch end (find_segment start gs) (found start) (told start))
      (λ none. finalize_decided h start end fits (find_segment start gs) (found start) refl (told start) none)
  decision_told (request.Prepare h start) fits = record { passes = refl; effects = refl; sees = tt; memory = tt; costs = λ cut. refl }
  decision_told (request.Fetch h start from) fits =
      by_refusal (state_with m gs) found (request.Fetch h start from) (fetch_refusal from (found start)) _ (fetch_same from (find_segment start gs) (found start) (told start))
      (λ none. record { passes = none; effects = refl; sees = tt; memory = tt; costs = λ cut. refl })
  decision_told (request.Accept h b) fits =
      by_refusal (state_with m gs) found (request.Accept h b) (accept_refusal b (found b.first)) _ (accept_same b (find_segment b.first gs) (found b.first) (told b.first))
      (λ none. accept_decided h b fits (find_segment b.first gs) (found b.first) refl (told b.first) none)
  decision_told (request.Purge h least) fits = record { purge = tt; passes = refl; removals = refl }
  decision_told (request.Read from) fits = record { passes = refl; effects = refl; sees = tt; memory = tt; costs = λ cut. refl }
  decision_told request.Manifest fits = record { passes = refl; effects = refl; sees = tt; memory = tt; costs = λ cut. refl }

-- what is decided by an index that tells segments
pub decided_by : (m : NodeState) (found : ℕ → Option IndexedSegment) (r : Request) (d : Decision) → limit_of r ≡ None → d ≡ decision_of m found r
    → (gs : List Segment) → AreTold gs found → IsDecision (state_with m gs) found r d
decided_by m found r d fits e gs told = subst (λ (x : Decision). IsDecision (state_with m gs) found r x) (sym e) (decision_told m found gs told r fits)

-- a request isn't refused, where that isn't decided
pub decided_passes : (s : NodeState) (found : ℕ → Option IndexedSegment) (r : Request) (d : Decision) → IsDecision s found r d → ((x : Refusal) → d ≡ Refused x → ⊥) → row_refused s r ≡ None
decided_passes s found r (Refused x) h other = absurd (other x refl)
decided_passes s found r (Effects first second) h other = h.passes
decided_passes s found r (Purge committed least) h other = h.passes
