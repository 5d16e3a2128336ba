-- The effects of a request have room: one that may put a row is the last.
use Rattle.std.proofs.Common.{◌≡◌, ℕ, ◌+◌, ◌<◌, ◌≤◌, ◌++◌, Bool, true, false, List, [], ◌∷◌, length, take, drop, get_or, map, filter, Option, Some, None, refl, sym, subst, cond, arith, zero, suc}
use Rattle.std.specs.Prelude.{◌||◌}
use Rattle.std.proofs.lemmas.Bool.{or_left, or_right}
use Rattle.std.proofs.lemmas.List.{drop_more}
use Rattle.std.specs.List.{list_any}
use Rattle.journal_core.specs.Views.{HeadView}
use Rattle.journal_core.specs.declared.refusal.Refusal.{Refusal}
use Rattle.journal_core.specs.declared.segment.Segment.{Segment}
use Rattle.journal_core.specs.declared.node_state.NodeState.{NodeState}
use Rattle.journal_core.specs.declared.request.Request.{Request}
use Rattle.journal_core.specs.declared.request.Request.TheVariants.{State, NewEpoch, Start, Journal, Finalize, Prepare, Fetch, Accept, Purge, Read, Manifest}
use Rattle.journal_core.specs.Limits.{head_of}
use Rattle.journal_core.specs.Effects.{Effect, Promise, WriterEpoch, Commit, NewSegment, Append, Replace, MakeFinal, Remove}
use Rattle.journal_core.specs.Step.{refused_at_once, front_effects, fronted, row_refused, may_go, row_effects, effects_after, effects_unless, effects_of}
use Rattle.disk_effects.specs.Due.{effect_of, puts_row}
use Rattle.disk_node.specs.Done.{effects_by, HasRoom}
use Rattle.journal_step.specs.declared.durable_effect.DurableEffect.{DurableEffect}
use Rattle.journal_step.specs.declared.durable_effect.DurableEffect.TheVariants as durable

-- ## Effects one by one
pub room_here : (ds : List DurableEffect) (i count room : ℕ) (d : DurableEffect) → i < length ds → HasRoom (drop i ds) count room → HasRoom (get_or ds i d ∷ drop (i + 1) ds) count room
room_here ds i count room d lt has = subst (λ (xs : List DurableEffect). HasRoom xs count room) (drop_more ds i d lt) has

fewer : (ds : List DurableEffect) (count less room same : ℕ) → less ≤ count → same ≡ room → HasRoom ds count room → HasRoom ds less same
fewer [] count less room same le is has = tt
fewer (d ∷ ds) count less room same le is has = (λ puts. (let fits = (has.0 puts).0 in omega (arith, le, is, fits), (has.0 puts).1), fewer ds count less room same le is has.1)

next_by : (puts : Bool) (ds : List DurableEffect) (count less room same : ℕ) → (puts ≡ true → (count < room) × (ds ≡ []))
    → (puts ≡ false → less ≤ count) → (puts ≡ false → same ≡ room) → HasRoom ds count room → HasRoom ds less same
next_by true ds count less room same last le is has = subst (λ (xs : List DurableEffect). HasRoom xs less same) (sym (last refl).1) tt
next_by false ds count less room same last le is has = fewer ds count less room same (le refl) (is refl) has

pub room_next : (d : DurableEffect) (ds : List DurableEffect) (count less room same : ℕ) → HasRoom (d ∷ ds) count room
    → (puts_row d ≡ false → less ≤ count) → (puts_row d ≡ false → same ≡ room) → HasRoom ds less same
room_next d ds count less room same has le is = next_by (puts_row d) ds count less room same has.0 le is has.1

take_none : (k : ℕ) (ds : List DurableEffect) → ds ≡ [] → take k ds ≡ []
take_none zero ds is = refl
take_none (suc k) [] is = refl
take_none (suc k) (d ∷ ds) is = absurd (cc)

pub room_take : (k : ℕ) (ds : List DurableEffect) (count room : ℕ) → HasRoom ds count room → HasRoom (take k ds) count room
room_take zero ds count room has = tt
room_take (suc k) [] count room has = tt
room_take (suc k) (d ∷ ds) count room has = (λ puts. ((has.0 puts).0, take_none k ds (has.0 puts).1), room_take k ds count room has.1)

-- ## Effects, of which one that puts a segment is the last
abbrev pub Puts : Effect → Bool
Puts (Promise epoch) = false
Puts (WriterEpoch epoch) = false
Puts (Commit txid) = false
Puts (NewSegment start epoch) = true
Puts (Append start bodies) = false
Puts (Replace epoch batch) = true
Puts (MakeFinal start) = false
Puts (Remove start) = false

abbrev pub AreLast : List Effect → Type 0
AreLast [] = Unit {0}
AreLast (e ∷ es) = (Puts e ≡ true → es ≡ []) × AreLast es

puts_same : (r : Request) (d : DurableEffect) → puts_row d ≡ true → Puts (effect_of r d) ≡ true
puts_same r (durable.Promise epoch) puts = absurd (cc)
puts_same r (durable.WriterEpoch epoch) puts = absurd (cc)
puts_same r (durable.Commit txid) puts = absurd (cc)
puts_same r (durable.NewSegment start epoch) puts = refl
puts_same r (durable.Append start at) puts = absurd (cc)
puts_same r (durable.Replace epoch again) puts = refl
puts_same r (durable.MakeFinal start end accepted) puts = absurd (cc)
puts_same r (durable.Remove info) puts = absurd (cc)

none_of : (r : Request) (ds : List DurableEffect) → effects_by r ds ≡ [] → ds ≡ []
none_of r [] is = refl
none_of r (d ∷ ds) is = absurd (cc)

room_by : (r : Request) (ds : List DurableEffect) (count room : ℕ) → AreLast (effects_by r ds) → (list_any puts_row ds ≡ true → count < room) → HasRoom ds count room
room_by r [] count room last fits = tt
room_by r (d ∷ ds) count room last fits = (
  λ puts. (fits (or_left (puts_row d) (list_any puts_row ds) puts), none_of r ds (last.0 (puts_same r d puts))),
  room_by r ds count room last.1 (λ any. fits (or_right (puts_row d) (list_any puts_row ds) any)),
)

-- ## The effects of a request
start_last : (start epoch : ℕ) (same : Bool) → AreLast (cond same [] (WriterEpoch epoch ∷ []) ++ NewSegment start epoch ∷ [])
start_last start epoch true = (λ puts. refl, tt)
start_last start epoch false = (λ puts. absurd (cc), (λ puts. refl, tt))

finalize_last : (start known : ℕ) (final raised : Bool) → AreLast (cond final [] (MakeFinal start ∷ []) ++ cond raised (Commit known ∷ []) [])
finalize_last start known true true = (λ puts. refl, tt)
finalize_last start known true false = tt
finalize_last start known false true = (λ puts. absurd (cc), (λ puts. refl, tt))
finalize_last start known false false = (λ puts. refl, tt)

accept_last : (e : Effect) (final : Bool) → AreLast (cond final [] (e ∷ []))
accept_last e true = tt
accept_last e false = (λ puts. refl, tt)

removals_last : (hs : List Segment) → AreLast (map (λ (g : Segment). Remove g.start) hs)
removals_last [] = tt
removals_last (h ∷ hs) = (λ puts. absurd (cc), removals_last hs)

rows_last : (s : NodeState) (r : Request) → AreLast (row_effects s r)
rows_last s State = tt
rows_last s (NewEpoch epoch) = (λ puts. refl, tt)
rows_last s (Start h start) = start_last start h.epoch _
rows_last s (Journal h start b) = (λ puts. refl, tt)
rows_last s (Finalize h start end) = finalize_last start s.known _ _
rows_last s (Prepare h start) = tt
rows_last s (Fetch h start from) = tt
rows_last s (Accept h b) = accept_last (Replace h.epoch b) _
rows_last s (Purge h least) = removals_last (filter (may_go s h.committed least) s.segments)
rows_last s (Read from) = tt
rows_last s Manifest = tt

after_last : (s : NodeState) (r : Request) (o : Option Refusal) → AreLast (effects_after s r o)
after_last s r (Some refusal) = tt
after_last s r None = rows_last s r

raised_last : (epoch : ℕ) (rest : List Effect) (raised : Bool) → AreLast rest → AreLast (cond raised (Promise epoch ∷ []) [] ++ rest)
raised_last epoch rest true last = (λ puts. absurd (cc), last)
raised_last epoch rest false last = last

front_last : (s : NodeState) (h : Option HeadView) (rest : List Effect) → AreLast rest → AreLast (front_effects s h ++ rest)
front_last s None rest last = last
front_last s (Some h) rest last = raised_last h.epoch rest _ last

unless_last : (s : NodeState) (r : Request) (o : Option Refusal) → AreLast (effects_unless s r o)
unless_last s r (Some refusal) = tt
unless_last s r None = front_last s (head_of r) _ (after_last (fronted s r) r (row_refused (fronted s r) r))

pub room_made : (s : NodeState) (r : Request) (ds : List DurableEffect) (count room : ℕ) → effects_by r ds ≡ effects_of s r → (list_any puts_row ds ≡ true → count < room) → HasRoom ds count room
unfolding effects_of
room_made s r ds count room are fits = room_by r ds count room (subst AreLast (sym are) (unless_last s r (refused_at_once s r))) fits
