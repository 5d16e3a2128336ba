-- The seats over pipes: after a call, with a request sent ahead, and at the ends of a life.
use Rattle.std.proofs.Common.{◌≡◌, ◌≢◌, ℕ, ◌+◌, ◌-◌, ◌<◌, List, Option, Some, None, true, false, refl, sym, ap, subst, ◌∙◌, arith}
use Rattle.std.proofs.Common.{length, length-set, set, get_or, ◌⊎◌, inl, inr}
use Rattle.std.specs.Prelude.{Result, Ok, Err, IfOk, OnOk, is_some, replicate}
use Rattle.std.specs.declared.alloc.AllocError.{AllocError}
use Rattle.std.proofs.lemmas.List.{get_or_default, get_or-set_other, get_or-set_same, get_or-replicate, length-replicate}
use Rattle.std.proofs.lemmas.Bool.{cases_eq}
use Rattle.journal_core.specs.declared.request.Request.{Request}
use Rattle.journal_core.specs.declared.heard.Heard.{Heard}
use Rattle.journal_history.specs.declared.record.Record.{Record}
use Rattle.play_calls.specs.Logs.{new_log}
use Rattle.pipe_seats.specs.Calls.{PipeView}
use Rattle.pipe_seats.specs.Seats.{SeatView, unopened_seat, IsSentAt, IsAhead, IsSentAhead, IsCalledFrom}
use Rattle.pipe_seats.specs.Piped.{Goes, Holds, AreResting, new_seats, LivesWent}
use Rattle.pipe_seats.specs.Wires.{Carries, Skips, StaysAhead, Readies, PipeCaller, new_caller}

-- ## One seat
-- of these one was set, and the others are as they were
pub each_seat : (P : ℕ → SeatView → SeatView → Type 0) (seats : List SeatView) (u v : SeatView) (place : ℕ) → u ≡ get_or seats place u → P place u v
    → ((i : ℕ) (s : SeatView) → i ≢ place → P i s s) → (i : ℕ) (d : SeatView) → i < length seats → P i (get_or seats i d) (get_or (set seats place v) i d)
each_seat P seats u v place there here elsewhere i d l = by (cases_eq i place)
  where
    by : (i ≡ place) ⊎ (i ≢ place) → P i (get_or seats i d) (get_or (set seats place v) i d)
    by (inl e) =
        let there_i : u ≡ get_or seats i u = subst (λ (k : ℕ). u ≡ get_or seats k u) (sym e) there in
        let old : u ≡ get_or seats i d = there_i ∙ get_or_default seats i u d l in
        let new_i : v ≡ get_or (set seats i v) i d = sym (get_or-set_same seats i v d l) in
        let new : v ≡ get_or (set seats place v) i d = subst (λ (k : ℕ). v ≡ get_or (set seats k v) i d) e new_i in
        let at : P i u v = subst (λ (k : ℕ). P k u v) (sym e) here in
        subst (λ (x : SeatView). P i x (get_or (set seats place v) i d)) old (subst (λ (y : SeatView). P i u y) new at)
    by (inr n) = subst (λ (y : SeatView). P i (get_or seats i d) y) (sym (get_or-set_other seats place i v d n)) (elsewhere i (get_or seats i d) n)

-- ## A call
pub carried_over : (res : Result Heard AllocError) (inside now : List SeatView) (node : ℕ) (r : Request) (u v : SeatView) → inside ≡ now → u ≡ get_or inside (node - 1) u
    → IfOk res (λ heard. IsCalledFrom u v r heard) → IfOk res (λ heard. Carries node r heard now (set inside (node - 1) v))
carried_over (Ok heard) inside now node r u v is was called =
    subst (λ (ss : List SeatView). Carries node r heard ss (set inside (node - 1) v)) is (record { before = u; after = v; was = was; called = called; seats = refl })
carried_over (Err e) inside now node r u v is was called = tt

none_there : (o : Option Request) → is_some o ≡ false → o ≡ None
none_there None e = refl
none_there (Some r) e = absurd (cc e)

-- one that is lost before it goes out
pub skipped_over : (inside now : List SeatView) (node : ℕ) (u : SeatView) → inside ≡ now → u ≡ get_or inside (node - 1) u → is_some u.under_way ≡ false → Skips node now inside
skipped_over inside now node u is was idle =
    subst (λ (ss : List SeatView). Skips node ss inside) is (record { seat = u; is = was; idle = none_there u.under_way idle; same = refl })

pub as_many : (inside now : List SeatView) (place : ℕ) (v : SeatView) → inside ≡ now → length (set inside place v) ≡ length now
as_many inside now place v is = length-set inside place v ∙ ap length is

-- ## A request that is sent ahead
stays_ahead : (s t : SeatView) (r : Request) → IsSentAhead s t r → StaysAhead s t
stays_ahead s t r h before a =
    let same : s.pipe ≡ before = subst (λ (o : Option Request). IsAhead o before s.pipe) h.idle a in
    let sent : IsSentAt before t.pipe r = subst (λ (p : PipeView). IsSentAt p t.pipe r) same h.sent in
    subst (λ (o : Option Request). IsAhead o before t.pipe) (sym h.under_way) sent

pub sent_over : {A E : Type 0} (res : Result A E) (inside now : List SeatView) (node : ℕ) (r : Request) (u v : SeatView) → inside ≡ now → u ≡ get_or inside (node - 1) u
    → OnOk res (IsSentAhead u v r) → OnOk res (Readies now (set inside (node - 1) v))
sent_over (Ok a) inside now node r u v is was sent =
    subst (λ (ss : List SeatView). Readies ss (set inside (node - 1) v)) is
    (record {
      count = length-set inside (node - 1) v;
      each = each_seat (λ i s t. StaysAhead s t) inside u v (node - 1) was (stays_ahead u v r sent) (λ i s n before a. a);
    })
sent_over (Err e) inside now node r u v is was sent = tt

-- ## A caller who made no call
fresh_caller : (wire : List SeatView) (by : PipeCaller) (nodes life : ℕ) → wire ≡ replicate nodes (unopened_seat life)
    → by ≡ record { wire = wire; log = new_log (length wire) true } → by ≡ new_caller nodes life
fresh_caller wire by nodes life e f =
    let all : length wire ≡ nodes = ap length e ∙ length-replicate nodes (unopened_seat life) in
    f ∙ ap (λ (n : ℕ). record { wire = wire; log = new_log n true }) all ∙ ap (λ (ss : List SeatView). record { wire = ss; log = new_log nodes true }) e

pub fresh_if : (res : Result PipeCaller AllocError) (wire : List SeatView) (nodes life : ℕ) → wire ≡ replicate nodes (unopened_seat life)
    → IfOk res (λ by. by ≡ record { wire = wire; log = new_log (length wire) true }) → IfOk res (λ by. by ≡ new_caller nodes life)
fresh_if (Ok by) wire nodes life e f = fresh_caller wire by nodes life e f
fresh_if (Err x) wire nodes life e f = tt

-- ## A life from its beginning
pub fresh_rest : (nodes life : ℕ) → AreResting (new_seats nodes life).seats
fresh_rest nodes life = record {
  each = λ i d l.
      let low : i < nodes = omega (arith, l, length-replicate nodes (unopened_seat life)) in
      ap (λ (s : SeatView). s.under_way) (get_or-replicate nodes i (unopened_seat life) d low);
}

resting_went : (node : ℕ) (lines : List Record) (old new : SeatView) → Holds node lines old new → old.under_way ≡ None → new.under_way ≡ None → Goes node lines old.pipe new.pipe
resting_went node lines old new h a b =
    let k = h old.pipe (subst (λ (o : Option Request). IsAhead o old.pipe old.pipe) (sym a) refl) in
    let same : new.pipe ≡ k.0 = subst (λ (o : Option Request). IsAhead o k.0 new.pipe) b k.2 in
    subst (λ (p : PipeView). Goes node lines old.pipe p) (sym same) k.1

pub lives_went : LivesWent
lives_went nodes life s h rests i d l =
    let first = new_seats nodes life in
    let low : i < length first.seats = omega (arith, l, length-replicate nodes (unopened_seat life)) in
    let low_now : i < length s.seats = omega (arith, low, h.count) in
    let went = resting_went (i + 1) h.lines (get_or first.seats i d) (get_or s.seats i d) (h.seats i d low) ((fresh_rest nodes life).each i d low) (rests.each i d low_now) in
    subst (λ (p : PipeView). Goes (i + 1) s.log.past p (get_or s.seats i d).pipe) (ap (λ (x : SeatView). x.pipe) (get_or-replicate nodes i (unopened_seat life) d l))
    (subst (λ (rs : List Record). Goes (i + 1) rs (get_or first.seats i d).pipe (get_or s.seats i d).pipe) (sym h.past) went)
