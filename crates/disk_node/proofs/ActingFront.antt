-- What follows the effects of a request, and which segment is open after it.
use Rattle.std.proofs.Common.{inl, inr, ℕ, ◌≡◌, ◌≢◌, ◌⊎◌, ◌≤◌, ◌<◌, ◌++◌, ◌==◌, ◌&&◌, ◌||◌, Bool, true, false, not, max, nat_lt, cond, List, [], ◌∷◌}
use Rattle.std.proofs.Common.{map, filter, Option, Some, None, refl, sym, ap, subst, ◌∙◌, arith}
use Rattle.std.proofs.lemmas.Bool.Decides.{nat_tests}
use Rattle.std.proofs.lemmas.Option.{same_Some}
use Rattle.journal_core.specs.Views.{HeadView}
use Rattle.journal_core.specs.declared.segment.Segment.{Segment}
use Rattle.journal_core.specs.declared.node_state.NodeState.{NodeState}
use Rattle.journal_core.specs.declared.refusal.Refusal.{Refusal}
use Rattle.journal_core.specs.declared.request.Request.{Request}
use Rattle.journal_core.specs.declared.request.Request.TheVariants.{State, NewEpoch, Start, Journal, Finalize, Prepare, Fetch, Accept, Purge, Read, Manifest}
use Rattle.journal_core.specs.Limits.{head_of}
use Rattle.journal_core.specs.Effects.{Effect, Promise, WriterEpoch, Commit, NewSegment, Append, Replace, MakeFinal, Remove, after_effects}
use Rattle.journal_core.specs.Step.{Stepped, node_step, refused_at_once, row_refused, row_effects, row_then, row_reply, fronted, front_effects}
use Rattle.journal_core.specs.Step.{front_promised, front_opened, closes_segment, opened_then, effects_of, effects_after, is_one, may_go}
use Rattle.journal_core.specs.Step.{finalize_effects, is_final_one}
use Rattle.journal_core.specs.Segments.{find_segment}
use Rattle.journal_core.proofs.NodeLaws.{after-append}
use Rattle.disk_node.specs.Node.{carried, settled, state_behind, foretold}
use Rattle.disk_effects.specs.Due.{effect_of}
use Rattle.disk_node.specs.Held.{Opens, Spares}
use Rattle.disk_node.specs.Done.{effects_by, EndOpen}
use Rattle.journal_step.specs.declared.durable_effect.DurableEffect.{DurableEffect}
use Rattle.journal_step.specs.declared.durable_effect.DurableEffect.TheVariants as durable
use Rattle.disk_effects.proofs.StepLaws.{front_done, unless_none, step_in_parts, refused_front}

-- ## The front's part in memory comes after the effects
carried_kept : (es : List Effect) (a b : NodeState) → after_effects (carried a b) es ≡ carried (after_effects a es) b
unfolding after_effects
carried_kept [] a b = refl
carried_kept (e ∷ es) a b = carried_kept es _ b

raised : NodeState → Option HeadView → NodeState
raised s h = record s { promised = front_promised s.promised h }

raises_by : (s : NodeState) (epoch : ℕ) (b : Bool) → nat_lt s.promised epoch ≡ b → after_effects s (cond b (Promise epoch ∷ []) []) ≡ record s { promised = max s.promised epoch }
unfolding after_effects
raises_by s epoch true lt = let e : epoch ≡ max s.promised epoch = (let l : s.promised < epoch = grind (arith, nat_tests) in omega arith) in ap (λ (p : ℕ). record s { promised = p }) e
raises_by s epoch false not_lt = let e : s.promised ≡ max s.promised epoch = (let l : epoch ≤ s.promised = grind (arith, nat_tests) in omega arith) in ap (λ (p : ℕ). record s { promised = p }) e

front_raises : (s : NodeState) (h : Option HeadView) → after_effects s (front_effects s h) ≡ raised s h
unfolding after_effects raised
front_raises s None = refl
front_raises s (Some h) = raises_by s h.epoch (nat_lt s.promised h.epoch) refl

raised_same : (s : NodeState) (h : Option HeadView) (rest : List Effect) → after_effects (raised s h) (front_effects s h ++ rest) ≡ after_effects s (front_effects s h ++ rest)
unfolding raised
raised_same s h rest =
    front_done s (raised s h) h rest refl
    ∙ ap (λ (t : NodeState). after_effects t rest) (sym (front_raises s h))
    ∙ sym (after-append (front_effects s h) rest s)

abbrev rest_of : NodeState → Request → List Effect
rest_of s r = effects_after (fronted s r) r (row_refused (fronted s r) r)

pub effects_are : (s : NodeState) (r : Request) → refused_at_once s r ≡ None → effects_of s r ≡ front_effects s (head_of r) ++ rest_of s r
unfolding effects_of
effects_are s r none = unless_none s r (refused_at_once s r) none

front_after : (s : NodeState) (r : Request) → refused_at_once s r ≡ None → after_effects (fronted s r) (effects_of s r) ≡ carried (after_effects s (effects_of s r)) (fronted s r)
unfolding raised
front_after s r none =
    carried_kept (effects_of s r) (raised s (head_of r)) (fronted s r)
    ∙ ap (λ (t : NodeState). carried t (fronted s r))
    (ap (after_effects (raised s (head_of r))) (effects_are s r none) ∙ raised_same s (head_of r) (rest_of s r) ∙ sym (ap (after_effects s) (effects_are s r none)))

-- the step, in the order in which it is done
pub step_done : (s : NodeState) (r : Request) → refused_at_once s r ≡ None → node_step s r ≡ record { state = state_behind s r; reply = foretold (row_refused (fronted s r) r) (fronted s r) r }
step_done s r none = by (row_refused (fronted s r) r) refl
  where
    by : (o : Option Refusal) → row_refused (fronted s r) r ≡ o → node_step s r ≡ record { state = settled o (after_effects s (effects_of s r)) (fronted s r) r; reply = foretold o (fronted s r) r }
    by None row = step_in_parts s r none row ∙ ap (λ (t : NodeState). let x : Stepped = record { state = row_then t r; reply = row_reply (fronted s r) r } in x) (front_after s r none)
    by (Some refusal) row = refused_front s r refusal none row ∙ ap (λ (t : NodeState). let x : Stepped =
        record { state = t; reply = foretold (Some refusal) (fronted s r) r } in x) (front_after s r none)

-- ## The open segment
-- the effect leaves the segment open
abbrev SparesOne : ℕ → Effect → Type 0
SparesOne opened (Promise epoch) = Unit {0}
SparesOne opened (WriterEpoch epoch) = Unit {0}
SparesOne opened (Commit txid) = Unit {0}
SparesOne opened (NewSegment start epoch) = start ≢ opened
SparesOne opened (Append start bodies) = Unit {0}
SparesOne opened (Replace epoch batch) = ⊥
SparesOne opened (MakeFinal start) = start ≢ opened
SparesOne opened (Remove start) = start ≢ opened

abbrev AllSpare : ℕ → List Effect → Type 0
AllSpare opened [] = Unit {0}
AllSpare opened (e ∷ es) = SparesOne opened e × AllSpare opened es

abbrev IsNew : ℕ → Effect → Type 0
IsNew opened (NewSegment start epoch) = start ≡ opened
IsNew opened _ = ⊥

-- the last effect begins the segment
abbrev EndsNew : ℕ → List Effect → Type 0
EndsNew opened [] = ⊥
EndsNew opened (e ∷ []) = IsNew opened e
EndsNew opened (e ∷ f ∷ es) = EndsNew opened (f ∷ es)

new_opens : (r : Request) (opened : ℕ) (d : DurableEffect) → IsNew opened (effect_of r d) → Opens (Some opened) d
new_opens r opened (durable.Promise epoch) is = absurd is
new_opens r opened (durable.WriterEpoch epoch) is = absurd is
new_opens r opened (durable.Commit txid) is = absurd is
new_opens r opened (durable.NewSegment start epoch) is = is
new_opens r opened (durable.Append start at) is = absurd is
new_opens r opened (durable.Replace epoch again) is = absurd is
new_opens r opened (durable.MakeFinal start end accepted) is = absurd is
new_opens r opened (durable.Remove info) is = absurd is

spared : (r : Request) (opened : ℕ) (d : DurableEffect) → SparesOne opened (effect_of r d) → Spares (Some opened) d
spared r opened (durable.Promise epoch) is = tt
spared r opened (durable.WriterEpoch epoch) is = tt
spared r opened (durable.Commit txid) is = tt
spared r opened (durable.NewSegment start epoch) is = is
spared r opened (durable.Append start at) is = tt
spared r opened (durable.Replace epoch again) is = is
spared r opened (durable.MakeFinal start end accepted) is = is
spared r opened (durable.Remove info) is = is

none_open : (ds : List DurableEffect) (now : Type 0) → now → EndOpen now None ds
none_open [] now is = is
none_open (d ∷ ds) now is = none_open ds (Opens None d ⊎ (Spares None d × now)) (inl tt)

kept_open : (r : Request) (opened : ℕ) (ds : List DurableEffect) (now : Type 0) → AllSpare opened (effects_by r ds) → now → EndOpen now (Some opened) ds
kept_open r opened [] now spare is = is
kept_open r opened (d ∷ ds) now spare is = kept_open r opened ds (Opens (Some opened) d ⊎ (Spares (Some opened) d × now)) spare.1 (inr (spared r opened d spare.0, is))

new_open : (r : Request) (opened : ℕ) (ds : List DurableEffect) (now : Type 0) → EndsNew opened (effects_by r ds) → EndOpen now (Some opened) ds
new_open r opened [] now ends = absurd ends
new_open r opened (d ∷ []) now ends = inl (new_opens r opened d ends)
new_open r opened (d ∷ e ∷ ds) now ends = new_open r opened (e ∷ ds) (Opens (Some opened) d ⊎ (Spares (Some opened) d × now)) ends

-- After a request no segment is open, or the one that was open still is, or the last effect begins
-- it.
data Leads (before after : Option ℕ) (es : List Effect) : Type 0 where
  closed : after ≡ None → Leads before after es
  stays : after ≡ before → ((opened : ℕ) → before ≡ Some opened → AllSpare opened es) → Leads before after es
  begins : (opened : ℕ) → after ≡ Some opened → EndsNew opened es → Leads before after es

-- ## The front
data FrontOpen (s : NodeState) (r : Request) (h : Option HeadView) : Type 0 where
  closed : front_opened s r h ≡ None → FrontOpen s r h
  stays : front_opened s r h ≡ s.opened → front_effects s h ≡ [] → FrontOpen s r h

front_open : (s : NodeState) (r : Request) (h : Option HeadView) → FrontOpen s r h
front_open s r None = stays refl refl
front_open s r (Some h) = by (nat_lt s.promised h.epoch) (closes_segment r) refl refl
  where
    by : (b k : Bool) → nat_lt s.promised h.epoch ≡ b → closes_segment r ≡ k → FrontOpen s r (Some h)
    by true k lt closes = closed (ap (λ (x : Bool). cond (x || closes_segment r) None s.opened) lt)
    by false true lt closes = closed (ap (λ (x : Bool). cond (x || closes_segment r) None s.opened) lt ∙ ap (λ (x : Bool). cond x None s.opened) closes)
    by false false lt closes = stays (ap (λ (x : Bool). cond (x || closes_segment r) None s.opened) lt
        ∙ ap (λ (x : Bool). cond x None s.opened) closes) (ap (λ (x : Bool). cond x (Promise h.epoch ∷ []) []) lt)

front_closes : (s : NodeState) (r : Request) (h : HeadView) → closes_segment r ≡ true → front_opened s r (Some h) ≡ None
front_closes s r h closes = by (nat_lt s.promised h.epoch)
  where
    by : (b : Bool) → cond (b || closes_segment r) None s.opened ≡ None
    by true = refl
    by false = ap (λ (x : Bool). cond x None s.opened) closes

-- of a request that leaves the open segment to the front
kept : (s : NodeState) (r : Request) (rest : List Effect) → ((opened : ℕ) → s.opened ≡ Some opened → front_opened s r (head_of r) ≡ s.opened
    → AllSpare opened rest) → Leads s.opened (front_opened s r (head_of r)) (front_effects s (head_of r) ++ rest)
kept s r rest spare = by (front_open s r (head_of r))
  where
    by : FrontOpen s r (head_of r) → Leads s.opened (front_opened s r (head_of r)) (front_effects s (head_of r) ++ rest)
    by (closed none) = closed none
    by (stays same nothing) = stays same (λ opened is. subst (λ (es : List Effect). AllSpare opened (es ++ rest)) (sym nothing) (spare opened is same))

-- ## The requests
ends_front : (s : NodeState) (h : HeadView) (opened : ℕ) (e : Effect) (es : List Effect) → EndsNew opened (e ∷ es) → EndsNew opened (front_effects s (Some h) ++ e ∷ es)
ends_front s h opened e es ends = elim (nat_lt s.promised h.epoch) as (λ b. EndsNew opened (cond b (Promise h.epoch ∷ []) [] ++ e ∷ es)) [ true ↦ ends | false ↦ ends ]

start_leads : (s t : NodeState) (h : HeadView) (start : ℕ) → EndsNew start (front_effects s (Some h) ++ (cond (t.writer == h.epoch) [] (WriterEpoch h.epoch ∷ []) ++ NewSegment start h.epoch ∷ []))
start_leads s t h start =
    elim (t.writer == h.epoch) as (λ b. EndsNew start (front_effects s (Some h) ++ (cond b [] (WriterEpoch h.epoch ∷ []) ++ NewSegment start h.epoch ∷ []))) [
      | true ↦ ends_front s h start (NewSegment start h.epoch) [] refl
      | false ↦ ends_front s h start (WriterEpoch h.epoch) (NewSegment start h.epoch ∷ []) refl
    ]

other_start : (start opened : ℕ) (o : Option ℕ) → is_one start o ≡ false → o ≡ Some opened → start ≢ opened
other_start start opened None is some = absurd (cc)
other_start start opened (Some x) is some = λ same. differs (is_one start (Some x)) is (let e : x ≡ start = same_Some x opened some ∙ sym same in grind (arith, nat_tests))
  where
    differs : (b : Bool) → b ≡ false → b ≡ true → ⊥
    differs true f t = cc
    differs false f t = cc

finalize_spares : (t : NodeState) (start opened : ℕ) → start ≢ opened → AllSpare opened (finalize_effects t start)
finalize_spares t start opened other = by (is_final_one (find_segment start t.segments)) (nat_lt t.committed t.known)
  where
    by : (b k : Bool) → AllSpare opened (cond b [] (MakeFinal start ∷ []) ++ cond k (Commit t.known ∷ []) [])
    by true true = (tt, tt)
    by true false = tt
    by false true = (other, (tt, tt))
    by false false = (other, tt)

purge_spares : (t : NodeState) (committed least opened : ℕ) (gs : List Segment) → t.opened ≡ Some opened
    → AllSpare opened (map (λ (g : Segment). Remove g.start) (filter (may_go t committed least) gs))
purge_spares t committed least opened [] is = tt
purge_spares t committed least opened (g ∷ gs) is = by (may_go t committed least g) refl (purge_spares t committed least opened gs is)
  where
    not_open : (b k : Bool) → not b && k ≡ true → b ≡ false
    not_open true k e = absurd (cc)
    not_open false k e = refl

    by : (b : Bool) → may_go t committed least g ≡ b → AllSpare opened (map (λ (x : Segment). Remove x.start) (filter (may_go t committed least) gs))
        → AllSpare opened (map (λ (x : Segment). Remove x.start) (cond b (g ∷ filter (may_go t committed least) gs) (filter (may_go t committed least) gs)))
    by true goes more = (other_start g.start opened t.opened (not_open (is_one g.start t.opened) _ goes) is, more)
    by false other more = more

-- which segment is open after a request that isn't refused
row_leads : (s : NodeState) (r : Request) → Leads s.opened (opened_then (front_opened s r (head_of r)) r) (front_effects s (head_of r) ++ row_effects (fronted s r) r)
row_leads s State = kept s State [] (λ opened is same. tt)
row_leads s (NewEpoch epoch) = closed refl
row_leads s (Start h start) = begins start refl (start_leads s (fronted s (Start h start)) h start)
row_leads s (Journal h start b) = kept s (Journal h start b) (row_effects (fronted s (Journal h start b)) (Journal h start b)) (λ opened is same. (tt, tt))
row_leads s (Finalize h start end) = by (is_one start (front_opened s (Finalize h start end) (Some h))) refl
  where
    by : (b : Bool) → is_one start (front_opened s (Finalize h start end) (Some h)) ≡ b
        → Leads s.opened (cond b None (front_opened s (Finalize h start end) (Some h))) (front_effects s (Some h) ++ row_effects (fronted s (Finalize h start end)) (Finalize h start end))
    by true is = closed refl
    by false is = kept s (Finalize h start end) (row_effects (fronted s (Finalize h start end)) (Finalize h start end))
        (λ opened was same. finalize_spares (fronted s (Finalize h start end)) start opened (other_start start opened (front_opened s (Finalize h start end) (Some h)) is (same ∙ was)))
row_leads s (Prepare h start) = closed (front_closes s (Prepare h start) h refl)
row_leads s (Fetch h start from) = closed (front_closes s (Fetch h start from) h refl)
row_leads s (Accept h b) = closed (front_closes s (Accept h b) h refl)
row_leads s (Purge h least) = kept s (Purge h least) (row_effects (fronted s (Purge h least)) (Purge h least))
    (λ opened was same. purge_spares (fronted s (Purge h least)) h.committed least opened (fronted s (Purge h least)).segments (same ∙ was))
row_leads s (Read from) = kept s (Read from) [] (λ opened is same. tt)
row_leads s Manifest = kept s Manifest [] (λ opened is same. tt)

leads_by : (s : NodeState) (r : Request) (o : Option Refusal) (x : NodeState) → Leads s.opened (settled o x (fronted s r) r).opened (front_effects s (head_of r) ++ effects_after (fronted s r) r o)
leads_by s r (Some refusal) x = kept s r [] (λ opened is same. tt)
leads_by s r None x = row_leads s r

leads_all : (s : NodeState) (r : Request) → refused_at_once s r ≡ None → Leads s.opened (state_behind s r).opened (effects_of s r)
leads_all s r none = subst (λ (es : List Effect). Leads s.opened (state_behind s r).opened es) (sym (effects_are s r none))
    (leads_by s r (row_refused (fronted s r) r) (after_effects s (effects_of s r)))

-- what was open is open, so what is to be open is open in the end
pub ends_open : (s : NodeState) (r : Request) (ds : List DurableEffect) (At : Option ℕ → Type 0) → refused_at_once s r ≡ None
    → effects_by r ds ≡ effects_of s r → At None → At s.opened → EndOpen (At (state_behind s r).opened) (state_behind s r).opened ds
ends_open s r ds At none are nothing before = by s.opened (state_behind s r).opened before (subst (λ (es : List Effect). Leads s.opened (state_behind s r).opened es) (sym are) (leads_all s r none))
  where
    by : (was is : Option ℕ) → At was → Leads was is (effects_by r ds) → EndOpen (At is) is ds
    by was is here (closed none) = subst (λ (o : Option ℕ). EndOpen (At o) o ds) (sym none) (none_open ds (At None) nothing)
    by None is here (stays same spare) = subst (λ (o : Option ℕ). EndOpen (At o) o ds) (sym same) (none_open ds (At None) nothing)
    by (Some opened) is here (stays same spare) = subst (λ (o : Option ℕ). EndOpen (At o) o ds) (sym same) (kept_open r opened ds (At (Some opened)) (spare opened refl) here)
    by was is here (begins opened new ends) = subst (λ (o : Option ℕ). EndOpen (At o) o ds) (sym new) (new_open r opened ds (At (Some opened)) ends)
