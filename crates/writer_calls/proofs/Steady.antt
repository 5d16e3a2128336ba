-- What calls at nodes that are called directly answer, where the nodes are steady and tell their states.
use Rattle.std.proofs.Common.{◌≡◌, ℕ, zero, suc, ◌-◌, List, [], ◌∷◌, map, set, slice_get, All, Option, Some, None, refl, sym, ap, ◌∙◌, subst}
use Rattle.std.proofs.lemmas.List.Elements.{All-nil, All-cons, All-head, All-tail, All-set}
use Rattle.journal_core.specs.Answers.{Answers, IsAnswer}
use Rattle.journal_core.specs.Laws.{IsQuestion}
use Rattle.journal_core.specs.Step.{Stepped, node_step}
use Rattle.journal_core.specs.declared.heard.Heard.TheVariants.{Answer}
use Rattle.journal_core.specs.declared.node_state.NodeState.{NodeState}
use Rattle.journal_core.specs.declared.peer_call.PeerCall.{PeerCall}
use Rattle.journal_core.specs.declared.reply.Reply.{Reply}
use Rattle.journal_core.specs.declared.request.Request.{Request}
use Rattle.journal_core.proofs.SegmentLaws.{questions_are_idle}
use Rattle.writer_calls.specs.Directs.{IsActed, CallGoes, CallsGo}
use Rattle.writer_calls.specs.States.{IsTold}

-- a call was answered by the state of its node, one of these
abbrev pub IsAnsweredBy : List (Option NodeState) → PeerCall → Type 0
IsAnsweredBy states c = (s : NodeState) × (slice_get states (c.node - 1) ≡ Some (Some s)) × (c.heard ≡ Answer (node_step s c.request).reply)

-- ## One call
abbrev AnsweredAs : NodeState → Request → Reply → Option NodeState → Type 0
AnsweredAs s r answer new = (t : NodeState) × (new ≡ Some t) × IsAnswer s r answer t

answered_as : (old new : Option NodeState) (s : NodeState) (r : Request) (answer : Reply) → old ≡ Some s → Answers old r answer new → AnsweredAs s r answer new
answered_as None new s r answer e a = cc
answered_as (Some x) None s r answer e a = absurd a
answered_as (Some x) (Some t) s r answer e a = let same : x ≡ s = cc in subst (λ (y : NodeState). AnsweredAs y r answer (Some t)) same (t, refl, a)

record Idle {N : Type 0} (state : N → Option NodeState) (steady : N → Type 0) (s : NodeState) (r : Request) (answer : Reply) (new : N) : Type 0 where
  same : state new ≡ Some s
  steady_on : steady new
  by_step : answer ≡ (node_step s r).reply

idle_call : {N : Type 0} (state : N → Option NodeState) (steady : N → Type 0) (old new : N) (s : NodeState) (r : Request) (answer : Reply) → state old ≡ Some s → steady old → IsQuestion r
    → IsActed state steady old r answer new → Idle state steady s r answer new
idle_call state steady old new s r answer is firm question acted =
    let own = acted.own firm in
    let told : AnsweredAs s r answer (state new) = answered_as (state old) (state new) s r answer is acted.step in
    let step : node_step s r ≡ record { state = told.0; reply = answer } = told.2.step acted.memory own.1 in
    let left : told.0 ≡ s = ap (λ (x : Stepped). x.state) (sym step) ∙ questions_are_idle s r question in
    record {
      same = told.1 ∙ ap (λ (t : NodeState). let o : Option NodeState = Some t in o) left;
      steady_on = own.0;
      by_step = ap (λ (x : Stepped). x.reply) (sym step);
    }

-- ## Lists of nodes
state_at : {N : Type 0} (state : N → Option NodeState) (ns : List N) (i : ℕ) (n : N) → slice_get ns i ≡ Some n → slice_get (map state ns) i ≡ Some (state n)
state_at state [] i n e = cc
state_at state (x ∷ ns) zero n e = let same : x ≡ n = cc in ap (λ (y : _). let o : Option (Option NodeState) = Some (state y) in o) same
state_at state (x ∷ ns) (suc i) n e = state_at state ns i n e

states_stay : {N : Type 0} (state : N → Option NodeState) (ns : List N) (i : ℕ) (old new : N) → slice_get ns i ≡ Some old → state new ≡ state old → map state (set ns i new) ≡ map state ns
states_stay state [] i old new e same = refl
states_stay state (x ∷ ns) zero old new e same = let one : x ≡ old = cc in ap (λ (o : Option NodeState). o ∷ map state ns) (same ∙ ap state (sym one))
states_stay state (x ∷ ns) (suc i) old new e same = ap (λ (os : List (Option NodeState)). state x ∷ os) (states_stay state ns i old new e same)

pub at_place : {X : Type 0} (P : X → Type 0) (xs : List X) (i : ℕ) (x : X) → All P xs → slice_get xs i ≡ Some x → P x
at_place P [] i x all e = cc
at_place P (y ∷ xs) zero x all e = let same : y ≡ x = cc in subst P same (All-head P y xs all)
at_place P (y ∷ xs) (suc i) x all e = at_place P xs i x (All-tail P y xs all) e

pub told_some : (o : Option NodeState) → IsTold o → (s : NodeState) × (o ≡ Some s)
told_some None h = absurd h
told_some (Some s) h = (s, refl)

-- ## Calls one after the other
pub record Answered {N : Type 0} (state : N → Option NodeState) (steady : N → Type 0) (states : List (Option NodeState)) (calls : List PeerCall) (new : List N) : Type 0 where
  pub same : map state new ≡ states
  pub firm : All steady new
  pub each : All (IsAnsweredBy states) calls

pub calls_answered : {N : Type 0} (state : N → Option NodeState) (steady : N → Type 0) (states : List (Option NodeState)) (calls : List PeerCall) (old new : List N) → map state old ≡ states
    → All steady old → All IsTold states → All (λ c. IsQuestion c.request) calls → CallsGo state steady calls old new → Answered state steady states calls new
unfolding CallsGo
calls_answered state steady states [] old new are firm told questions went = record {
  same = subst (λ (ns : List _). map state ns ≡ states) (sym went) are;
  firm = subst (λ (ns : List _). All steady ns) (sym went) firm;
  each = All-nil (IsAnsweredBy states);
}
calls_answered state steady states (c ∷ calls) old new are firm told questions went =
    let goes : CallGoes state steady c old went.0 = went.1 in
    let here : slice_get states (c.node - 1) ≡ Some (state goes.before) =
    subst (λ (os : List (Option NodeState)). slice_get os (c.node - 1) ≡ Some (state goes.before)) are (state_at state old (c.node - 1) goes.before goes.here) in
    let some = told_some (state goes.before) (at_place IsTold states (c.node - 1) (state goes.before) told here) in
    let question = All-head (λ (x : PeerCall). IsQuestion x.request) c calls questions in
    let idle : Idle state steady some.0 c.request goes.reply goes.after =
    idle_call state steady goes.before goes.after some.0 c.request goes.reply some.1 (at_place steady old (c.node - 1) goes.before firm goes.here) question goes.acted in
    let stay : map state went.0 ≡ states =
    ap (map state) goes.left ∙ states_stay state old (c.node - 1) goes.before goes.after goes.here (idle.same ∙ sym some.1) ∙ are in
    let firm_on : All steady went.0 = subst (λ (ns : List _). All steady ns) (sym goes.left) (All-set steady old (c.node - 1) goes.after idle.steady_on firm) in
    let rest : Answered state steady states calls new =
    calls_answered state steady states calls went.0 new stay firm_on told (All-tail (λ (x : PeerCall). IsQuestion x.request) c calls questions) went.2 in
    let first : IsAnsweredBy states c =
    (some.0, here ∙ ap (λ (o : Option NodeState). let x : Option (Option NodeState) = Some o in x) some.1, goes.heard_is ∙ ap (λ (r : Reply). Answer r) idle.by_step) in
    record { same = rest.same; firm = rest.firm; each = All-cons (IsAnsweredBy states) c calls first rest.each }
