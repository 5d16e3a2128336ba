-- What the lines of a caller over pipes did to its seats: to each node's pipe came what they say, and
-- then what is under way, and nothing else.
use Rattle.std.proofs.Common.{◌≡◌, ℕ, ◌+◌, ◌-◌, ◌<◌, ◌≤◌, ◌≢◌, List, [], ◌∷◌, ◌++◌, Option, None, refl, sym, subst, ◌∙◌, arith, length, length-set, set, get_or}
use Rattle.journal_core.specs.declared.request.Request.{Request}
use Rattle.journal_history.specs.declared.record.Record.{Record}
use Rattle.journal_history.specs.declared.record.Record.TheVariants.{Call, Late, Operator, Outcome}
use Rattle.journal_history.specs.declared.record.Told.{Told}
use Rattle.journal_history.specs.declared.record.Told.TheVariants as told
use Rattle.caller.specs.Callers.{CallGoes, LineGoes, LinesGo}
use Rattle.pipe_seats.specs.Calls.{PipeView}
use Rattle.pipe_seats.specs.Seats.{SeatView, IsAhead}
use Rattle.pipe_seats.specs.Piped.{PipesView, new_seats, WentAs, IsOf, Goes, Holds}
use Rattle.pipe_seats.specs.Wires.{Readies, pipe_wire, PipeCaller, new_caller, pipes_of, PipesGo}
use Rattle.pipe_seats.proofs.SeatLaws.{each_seat}

-- ## One after the other
goes_on : (node : ℕ) (xs ys : List Record) (p q r : PipeView) → Goes node xs p q → Goes node ys q r → Goes node (xs ++ ys) p r
goes_on node [] ys p q r h k = subst (λ x. Goes node ys x r) h k
goes_on node (x ∷ xs) ys p q r h k = (h.0, h.1, goes_on node xs ys h.0 q r h.2 k)

held_on : (node : ℕ) (xs ys : List Record) (r s t : SeatView) → Holds node xs r s → Holds node ys s t → Holds node (xs ++ ys) r t
held_on node xs ys r s t h k before a =
    let one = h before a in
    let two = k one.0 one.2 in
    (two.0, goes_on node xs ys before one.0 two.0 one.1 two.1, two.2)

-- at each seat
record AllHold (lines : List Record) (old new : List SeatView) : Type 0 where
  count : length new ≡ length old
  each : (i : ℕ) (d : SeatView) → i < length old → Holds (i + 1) lines (get_or old i d) (get_or new i d)

all_on : (xs ys : List Record) (u v w : List SeatView) → AllHold xs u v → AllHold ys v w → AllHold (xs ++ ys) u w
all_on xs ys u v w g h = record {
  count = h.count ∙ g.count;
  each = λ i d l. held_on (i + 1) xs ys (get_or u i d) (get_or v i d) (get_or w i d) (g.each i d l) (h.each i d (subst (λ n. i < n) (sym g.count) l));
}

-- ## One line
-- one that isn't of the node does nothing to its seat
held_off : (node : ℕ) (line : Record) (s : SeatView) → (IsOf node line → ⊥) → Holds node (line ∷ []) s s
held_off node line s off before a = (before, (before, record { here = λ (h : IsOf node line). absurd (off h); elsewhere = λ (h : IsOf node line → ⊥). refl }, refl), a)

-- of a call that was lost before it went out no node's seat knows
held_dropped : (k node : ℕ) (r : Request) (s : SeatView) → Holds k (Call node r told.Dropped ∷ []) s s
held_dropped k node r s before a =
    (before, (before, record { here = λ (h : IsOf k (Call node r told.Dropped)). refl; elsewhere = λ (h : IsOf k (Call node r told.Dropped) → ⊥). refl }, refl), a)

-- what a call did to the seat of its node, where none is under way then: this it did to the pipe as
-- it was before what was under way was sent
record WentFrom (r : Request) (t : Told) (old new : SeatView) : Type 0 where
  idle : new.under_way ≡ None
  went : (before : PipeView) → IsAhead old.under_way before old.pipe → WentAs r t before new.pipe

held_by : (node : ℕ) (r : Request) (t : Told) (u v : SeatView) → WentFrom r t u v → Holds node (Call node r t ∷ []) u v
held_by node r t u v w before a = (
  v.pipe,
  (v.pipe, record { here = λ (h : IsOf node (Call node r t)). w.went before a; elsewhere = λ (off : IsOf node (Call node r t) → ⊥). absurd (off refl) }, refl),
  subst (λ (o : Option Request). IsAhead o v.pipe v.pipe) (sym w.idle) refl,
)

-- a call from the seat of its node, which was told so
called_all : (node : ℕ) (r : Request) (t : Told) (old new : List SeatView) (u v : SeatView) → 1 ≤ node → u ≡ get_or old (node - 1) u → new ≡ set old (node - 1) v → WentFrom r t u v
    → AllHold (Call node r t ∷ []) old new
called_all node r t old new u v low was same went = subst (λ (ss : List SeatView). AllHold (Call node r t ∷ []) old ss) (sym same) (record { count = length-set old (node - 1) v; each = held })
  where
    at : node ≡ node - 1 + 1
    at = omega (arith, low)

    here : Holds (node - 1 + 1) (Call node r t ∷ []) u v
    here = subst (λ (k : ℕ). Holds k (Call node r t ∷ []) u v) at (held_by node r t u v went)

    elsewhere : (i : ℕ) (s : SeatView) → i ≢ node - 1 → Holds (i + 1) (Call node r t ∷ []) s s
    elsewhere i s n = held_off (i + 1) (Call node r t) s (λ (h : IsOf (i + 1) (Call node r t)). n (let e : node ≡ i + 1 = h in let k : i ≡ node - 1 = omega (arith, e) in k))

    held : (i : ℕ) (d : SeatView) → i < length old → Holds (i + 1) (Call node r t ∷ []) (get_or old i d) (get_or (set old (node - 1) v) i d)
    held = each_seat (λ i s x. Holds (i + 1) (Call node r t ∷ []) s x) old u v (node - 1) was here elsewhere

call_all : (node : ℕ) (r : Request) (t : Told) (old new : List SeatView) → 1 ≤ node → CallGoes pipe_wire node r t old new → AllHold (Call node r t ∷ []) old new
call_all node r (told.Reply reply) old new low g =
    called_all node r (told.Reply reply) old new g.before g.after low g.was g.seats (record { idle = g.called.idle; went = g.called.called })
call_all node r told.Silent old new low g =
    called_all node r told.Silent old new g.before g.after low g.was g.seats (record { idle = g.called.idle; went = g.called.called })
call_all node r told.Muted old new low g =
    let h = g.1 in
    called_all node r told.Muted old new h.before h.after low h.was h.seats (record { idle = h.called.idle; went = λ before a. (g.0, h.called.called before a) })
call_all node r told.Dropped old new low g =
    subst (λ (ss : List SeatView). AllHold (Call node r told.Dropped ∷ []) old ss) (sym g.same) (record { count = refl; each = λ i d l. held_dropped (i + 1) node r (get_or old i d) })

line_all : (line : Record) (old new : List SeatView) → LineGoes pipe_wire line old new → AllHold (line ∷ []) old new
line_all (Call node r t) old new g = call_all node r t old new g.0 g.2
line_all (Late node r) old new g = absurd g.2
line_all (Operator node ask done) old new g = absurd g.2
line_all (Outcome text) old new g =
    subst (λ (ss : List SeatView). AllHold (Outcome text ∷ []) old ss) (sym g)
    (record { count = refl; each = λ i d l. held_off (i + 1) (Outcome text) (get_or old i d) (λ (h : IsOf (i + 1) (Outcome text)). h) })

-- ## All lines
ready_all : (old new : List SeatView) → Readies old new → AllHold [] old new
ready_all old new g = record { count = g.count; each = λ i d l before a. (before, refl, g.each i d l before a) }

lines_all : (lines : List Record) (old new : List SeatView) → LinesGo pipe_wire lines old new → AllHold lines old new
unfolding LinesGo
lines_all [] old new g = ready_all old new g
lines_all (line ∷ lines) old new g =
    all_on [] (line ∷ lines) old g.ahead new (ready_all old g.ahead g.readied)
    (all_on (line ∷ []) lines g.ahead g.after new (line_all line g.ahead g.after g.went) (lines_all lines g.after new g.rest))

-- the caller some lines later
pub pipes_go : PipesGo
pipes_go s t a =
    let g = lines_all a.lines s.wire t.wire a.went in
    record { nodes = a.nodes; count = g.count; lines = a.lines; past = a.past; seats = g.each }

-- ## The seats with what was listed, and the caller
abbrev caller_of : PipesView → PipeCaller
caller_of v = record { wire = v.seats; log = v.log }

same_seats : (v : PipesView) → pipes_of (caller_of v) ≡ v
same_seats v = refl

same_caller : (c : PipeCaller) → caller_of (pipes_of c) ≡ c
same_caller c = refl

new_seats_are : (nodes life : ℕ) → pipes_of (new_caller nodes life) ≡ new_seats nodes life
new_seats_are nodes life = refl
