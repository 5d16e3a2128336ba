-- A run: what each thread is given, and what all leave.
use Rattle.std.proofs.Common.{◌≡◌, ℕ, zero, suc, ◌+◌, ◌-◌, ◌<◌, ◌≤◌, Bool, List, [], ◌∷◌, Option, None, length, map, take, true, sym, refl, ap, ◌∙◌, subst, arith, get_or}
use Rattle.std.specs.List.{All}
use Rattle.std.specs.Prelude.{Result, Ok, IfOk}
use Rattle.std.proofs.lemmas.List.{length-map, length-take-le, get_or-take, get_or_default}
use Rattle.std.proofs.Math.ListN.{get_or-map}
use Rattle.atomic_table.proofs.Lists.{at_index}
use Rattle.atomic_table.specs.Seated.{TableId}
use Rattle.journal_history.specs.declared.record.Record.{Record}
use Rattle.journal_history.specs.declared.mark.Mark.{Mark}
use Rattle.play_threads.specs.Board.{AllAt}
use Rattle.mesh.specs.declared.whole.Mesh.{Mesh}
use Rattle.ns_tree.specs.declared.end.End.{End}
use Rattle.ns_tree.specs.declared.end.LastSpace.{LastSpace}
use Rattle.mesh.specs.Matches.{reached, AreSame}
use Rattle.play_script.specs.declared.script_line.ScriptLine.{ScriptLine}
use Rattle.play_calls.specs.Logs.{new_log}
use Rattle.play_threads.specs.Seated.{Seat, AreSeated}
use Rattle.play_threads.specs.Gates.{fresh_seat, fresh_columns, row_at, AreOf, IsLeft}
use Rattle.play_threads.proofs.GateLaws.{element}
use Rattle.play_model.specs.Actions.{MayCome}
use Rattle.play_model.specs.Lines.{Line, count_actors, names_in}
use Rattle.mesh.proofs.Lists.{same_test}
use Rattle.play_threads.specs.Threads.{DoesLines, HasOperated}
use Rattle.play_threads.specs.Gathered.{MayAct, CallerLeaves, AreGathered, numbered_from, last_in}
use Rattle.play_threads.proofs.ListLaws.{numbered_at, numbered_length}

-- ## Before the first call
fresh_at : (k n : ℕ) (ts : List TableId) (i : ℕ) (d : List Seat) → i < n → get_or (fresh_columns k n ts) i d ≡ map (fresh_seat (k + i)) ts
fresh_at k zero ts i d l = absurd (omega (arith, l))
fresh_at k (suc n) ts zero d l = let e : k ≡ k + 0 = omega arith in ap (λ j. map (fresh_seat j) ts) e
fresh_at k (suc n) ts (suc i) d l = let e : suc k + i ≡ k + suc i = omega arith in fresh_at (suc k) n ts i d (omega (arith, l)) ∙ ap (λ j. map (fresh_seat j) ts) e

fresh_tables : (k : ℕ) (ts : List TableId) → map (λ (s : Seat). s.table) (map (fresh_seat k) ts) ≡ ts
fresh_tables k [] = refl
fresh_tables k (t ∷ ts) = ap (λ l. t ∷ l) (fresh_tables k ts)

fresh_caller : (k : ℕ) (ts : List TableId) (i : ℕ) (d : Seat) → i < length ts → (get_or (map (fresh_seat k) ts) i d).caller ≡ k
fresh_caller k [] i d l = absurd (omega (arith, l))
fresh_caller k (t ∷ ts) zero d l = refl
fresh_caller k (t ∷ ts) (suc i) d l = fresh_caller k ts i d (omega (arith, l))

fresh_same : (k : ℕ) (ts : List TableId) (i : ℕ) (d : Seat) → i < length ts → AreSame (reached (i + 1) []) (get_or (map (fresh_seat k) ts) i d).own
unfolding reached AreSame
fresh_same k [] i d l = absurd (omega (arith, l))
fresh_same k (t ∷ ts) zero d l = tt
fresh_same k (t ∷ ts) (suc i) d l = unfold reached AreSame in fresh_same k ts i d (omega (arith, l))

fresh_seated : (k n : ℕ) (ts : List TableId) → length ts ≡ n → AreSeated k ts (new_log n true) (map (fresh_seat k) ts)
fresh_seated k n ts e =
    let m = length-map ts (fresh_seat k) in
    record {
      count = m ∙ e;
      gates = fresh_tables k ts;
      callers = λ i d l. fresh_caller k ts i d (omega (arith, l, m));
      same = λ w i d l. fresh_same k ts i d (omega (arith, l, m));
    }

fresh_act : (named : Bool) (items : List ScriptLine) (k n : ℕ) (ts : List TableId) → length ts ≡ n → 1 ≤ n → All (MayCome named n) items → MayAct named items ts k (map (fresh_seat k) ts)
fresh_act named items k n ts e some may =
    let m : length (map (fresh_seat k) ts) ≡ n = length-map ts (fresh_seat k) ∙ e in
    record {
      some = omega (arith, m, some);
      gates = e ∙ sym m;
      seated = subst (λ j. AreSeated k ts (new_log j true) (map (fresh_seat k) ts)) (sym m) (fresh_seated k n ts e);
      may = subst (λ j. All (MayCome named j) items) (sym m) may;
    }

pub may_act : {S : Type 0} (named : Bool) (shown : S → List Seat) (items : List ScriptLine) (columns : List S) (callers n : ℕ) (ts : List TableId)
    (jobs : List (ℕ × S)) → map shown columns ≡ fresh_columns 0 callers ts → length columns ≡ callers
    → jobs ≡ numbered_from 0 columns → length ts ≡ n → 1 ≤ n → All (MayCome named n) items → (i : ℕ) (d : ℕ × S) → i < length jobs
    → MayAct named items ts (get_or jobs i d).0 (shown (get_or jobs i d).1)
may_act named shown items columns callers n ts jobs e long is count some may i d l =
    let m : length jobs ≡ length columns = ap length is ∙ numbered_length 0 columns in
    let b : i < length columns = omega (arith, l, m) in
    let job : get_or jobs i d ≡ (0 + i, get_or columns i d.1) = ap (λ z. get_or z i d) is ∙ numbered_at 0 columns i d b in
    let own : shown (get_or columns i d.1) ≡ map (fresh_seat (0 + i)) ts = sym (get_or-map shown columns i d.1) ∙ ap (λ z. get_or z i (shown d.1)) e
    ∙ fresh_at 0 callers ts i (shown d.1) (omega (arith, b, long)) in
    subst (λ j. MayAct named items ts j.0 (shown j.1)) (sym job) (subst (λ z. MayAct named items ts (0 + i) z) (sym own) (fresh_act named items (0 + i) n ts count some may))

pub job_is : {S : Type 0} (columns : List S) (jobs : List (ℕ × S)) → jobs ≡ numbered_from 0 columns → (i : ℕ) (d : ℕ × S) → i < length jobs → (get_or jobs i d).0 ≡ i
job_is columns jobs is i d l =
    let m : length jobs ≡ length columns = ap length is ∙ numbered_length 0 columns in
    let same : 0 + i ≡ i = omega arith in
    ap (λ z. (get_or z i d).0) is ∙ ap (λ j. j.0) (numbered_at 0 columns i d (omega (arith, l, m))) ∙ same

-- ## What all leave
-- nothing is asked of what the operator holds at last
without_last : {named : Bool} {n operator : ℕ} {lines : List Line} {ts : List TableId} {seats : List Seat} {rs : List Record} {plan : List Mark} {last : Option LastSpace}
    → CallerLeaves named n operator operator lines ts seats rs plan last → CallerLeaves named n operator operator lines ts seats rs plan None
without_last {named} {n} {operator} {lines} {ts} {seats} {rs} {plan} {last} h =
    let log = h.does.0 in
    let does : HasOperated lines log.past = subst (λ b. DoesLines named b n operator lines log last) (same_test operator operator refl) h.does.6 in
    record {
      does = (log, h.does.1, h.does.2, h.does.3, h.does.4, h.does.5, subst (λ b. DoesLines named b n operator lines log None) (sym (same_test operator operator refl)) does);
      marked = h.marked;
      copied = h.copied;
      within = h.within;
    }

-- by other names of what it is of
pub leaves_as : {S E : Type 0} (shown : S → List Seat) (left : Result (S × List Record × List Mark × Option LastSpace) E) {a b : Bool} {n m o p c d : ℕ}
    {ls ks : List Line} {ts us : List TableId} → a ≡ b → n ≡ m → o ≡ p → c ≡ d → ls ≡ ks → ts ≡ us
    → IfOk left (λ l. CallerLeaves a n o c ls ts (shown l.0) l.1 l.2 l.3) → IfOk left (λ l. CallerLeaves b m p d ks us (shown l.0) l.1 l.2 l.3)
leaves_as shown left ea en eo ec el et =
    subst (λ (x : Bool × ℕ × ℕ × ℕ × List Line × List TableId). IfOk left (λ l. CallerLeaves x.0 x.1 x.2 x.3 x.4 x.5 (shown l.0) l.1 l.2 l.3))
    (λ i. (ea i, en i, eo i, ec i, el i, et i))

-- of as many callers
module _ {S E : Type 0} (named : Bool) (shown : S → List Seat) (n operator callers : ℕ) (lines : List Line) (ts : List TableId)
    (lefts : List (Result (S × List Record × List Mark × Option LastSpace) E))
    (oks : List (S × List Record × List Mark × Option LastSpace))
    (count : length lefts ≡ callers) (ok : lefts ≡ map (λ o. Ok o) oks)
    (each : (i : ℕ) (e : Result (S × List Record × List Mark × Option LastSpace) E) → i < length lefts
    → IfOk (get_or lefts i e) (λ left. CallerLeaves named n operator i lines ts (shown left.0) left.1 left.2 left.3)) where
  oks_long : length oks ≡ callers
  oks_long = sym (length-map oks (λ o. Ok o)) ∙ sym (ap length ok) ∙ count

  leaves : (c : ℕ) (o : S × List Record × List Mark × Option LastSpace) → c < length oks
      → CallerLeaves named n operator c lines ts (shown (get_or oks c o).0) (get_or oks c o).1 (get_or oks c o).2 (get_or oks c o).3
  leaves c o l =
      let m : length lefts ≡ length oks = ap length ok ∙ length-map oks (λ o. Ok o) in
      let here : get_or lefts c (Ok o) ≡ Ok (get_or oks c o) = ap (λ z. get_or z c (Ok o)) ok ∙ get_or-map (λ x. Ok x) oks c o in
      let done : IfOk {E = E} (Ok (get_or oks c o)) (λ left. CallerLeaves named n operator c lines ts (shown left.0) left.1 left.2 left.3) =
      subst (λ r. IfOk r (λ left. CallerLeaves named n operator c lines ts (shown left.0) left.1 left.2 left.3)) here (each c (Ok o) (omega (arith, l, m))) in
      done

  module _ (seats : List S) (records : List (List Record)) (plans : List (List Mark)) (lasts : List (Option LastSpace))
      (seats_are : seats ≡ map (λ o. o.0) oks) (records_are : records ≡ map (λ o. o.1) oks) (plans_are : plans ≡ map (λ o. o.2) oks)
      (lasts_are : lasts ≡ map (λ o. o.3) oks) where
    pub seats_long : length seats ≡ callers
    seats_long = ap length seats_are ∙ length-map oks (λ o. o.0) ∙ oks_long

    pub records_long : length records ≡ callers
    records_long = ap length records_are ∙ length-map oks (λ o. o.1) ∙ oks_long

    pub plans_long : length plans ≡ callers
    plans_long = ap length plans_are ∙ length-map oks (λ o. o.2) ∙ oks_long

    pub lasts_long : length lasts ≡ callers
    lasts_long = ap length lasts_are ∙ length-map oks (λ o. o.3) ∙ oks_long

    pub leaves_at : (c : ℕ) (d : List Seat) → c < callers → CallerLeaves named n operator c lines ts (get_or (map shown seats) c d)
        (get_or records c []) (get_or plans c []) (get_or lasts c None)
    leaves_at c d l =
        let m = oks_long in
        let b : c < length oks = omega (arith, l, m) in
        let o : S × List Record × List Mark × Option LastSpace = (element oks c b).0 in
        let k = seats_long in
        let j : length (map shown seats) ≡ length seats = length-map seats shown in
        let its_seats : get_or (map shown seats) c d ≡ shown (get_or oks c o).0 =
        get_or_default (map shown seats) c d (shown o.0) (omega (arith, l, k, j)) ∙ get_or-map shown seats c o.0
        ∙ ap (λ z. shown (get_or z c o.0)) seats_are ∙ ap shown (get_or-map (λ x. x.0) oks c o) in
        let r = records_long in
        let its_record : get_or records c [] ≡ (get_or oks c o).1 = get_or_default records c [] o.1 (omega (arith, l, r)) ∙ ap (λ z. get_or z c o.1) records_are ∙ get_or-map (λ x. x.1) oks c o in
        let p = plans_long in
        let its_plan : get_or plans c [] ≡ (get_or oks c o).2 = get_or_default plans c [] o.2 (omega (arith, l, p)) ∙ ap (λ z. get_or z c o.2) plans_are ∙ get_or-map (λ x. x.2) oks c o in
        let q = lasts_long in
        let its_last : get_or lasts c None ≡ (get_or oks c o).3 = get_or_default lasts c None o.3 (omega (arith, l, q)) ∙ ap (λ z. get_or z c o.3) lasts_are ∙ get_or-map (λ x. x.3) oks c o in
        subst (λ z. CallerLeaves named n operator c lines ts z (get_or records c []) (get_or plans c []) (get_or lasts c None)) (sym its_seats)
        (subst (λ z. CallerLeaves named n operator c lines ts (shown (get_or oks c o).0) z (get_or plans c []) (get_or lasts c None)) (sym its_record)
        (subst (λ z. CallerLeaves named n operator c lines ts (shown (get_or oks c o).0) (get_or oks c o).1 z (get_or lasts c None)) (sym its_plan)
        (subst (λ z. CallerLeaves named n operator c lines ts (shown (get_or oks c o).0) (get_or oks c o).1 (get_or oks c o).2 z) (sym its_last) (leaves c o b))))

    pub are_of : (c : ℕ) (d : List Seat) → c < length seats → AreOf ts c (get_or (map shown seats) c d)
    are_of c d l =
        let k = seats_long in
        let s : AreSeated c ts (leaves_at c d (omega (arith, l, k))).does.0 (get_or (map shown seats) c d) = (leaves_at c d (omega (arith, l, k))).does.5 in
        record { gates = s.gates; callers = s.callers }

    pub gathered : (m : Mesh) (ends : List End) (rest : List (List Mark)) (held : List (Option LastSpace)) → operator ≡ count_actors lines
        → callers ≡ operator + 1 → m.nodes ≡ n → length m.histories ≡ n → m.records ≡ records → rest ≡ take (length plans - 1) plans
        → m.plan ≡ rest
        → map (λ e. e.name) ends ≡ names_in lines → held ≡ take (length lasts - 1) lasts → map (λ e. e.last) ends ≡ held
        → ((d : Seat) → AllAt (λ i h. IsLeft (row_at i d (map shown seats)) h) m.histories) → AreGathered named n lines m ends
    gathered m ends rest held op many nodes histories recs less plan names fewer its left =
        let p : length plans ≡ operator + 1 = plans_long ∙ many in
        let mm : length m.plan ≡ operator = ap length (plan ∙ less) ∙ length-take-le (length plans - 1) plans (omega arith) ∙ (omega (arith, p)) in
        let its_plan : (c : ℕ) → c < operator → get_or m.plan c [] ≡ get_or plans c [] = λ c l. ap (λ z. get_or z c []) (plan ∙ less)
        ∙ get_or-take (length plans - 1) plans c [] (omega (arith, l, p)) in
        let q : length lasts ≡ operator + 1 = lasts_long ∙ many in
        let its_last : (c : ℕ) → c < operator → last_in ends c ≡ get_or lasts c None =
        λ c l. sym (get_or-map (λ (e : End). e.last) ends c (record { name = []; last = None })) ∙ ap (λ z. get_or z c None) (its ∙ fewer)
        ∙ get_or-take (length lasts - 1) lasts c None (omega (arith, l, q)) in
        let k = seats_long in
        let r = records_long in
        record {
          nodes_are = nodes;
          histories = histories;
          records = ap length recs ∙ r ∙ many ∙ ap (λ j. j + 1) op;
          plan = mm ∙ op;
          names = names;
          tables = ts;
          columns = map shown seats;
          callers = length-map seats shown ∙ k ∙ many ∙ ap (λ j. j + 1) op;
          last = get_or plans operator [];
          actors = λ c l. subst (λ j. CallerLeaves named n j c lines ts (get_or (map shown seats) c []) (get_or m.records c []) (get_or m.plan c []) (last_in ends c)) op
              (subst (λ z. CallerLeaves named n operator c lines ts (get_or (map shown seats) c []) z (get_or m.plan c []) (last_in ends c)) (ap (λ z. get_or z c []) (sym recs))
              (subst (λ z. CallerLeaves named n operator c lines ts (get_or (map shown seats) c []) (get_or records c []) z (last_in ends c)) (sym (its_plan c (omega (arith, l, op))))
              (subst (λ z. CallerLeaves named n operator c lines ts (get_or (map shown seats) c []) (get_or records c []) (get_or plans c []) z)
              (sym (its_last c (omega (arith, l, op)))) (leaves_at c [] (omega (arith, l, op, many))))));
          operator = without_last (subst (λ j. CallerLeaves named n j j lines ts (get_or (map shown seats) j []) (get_or m.records j []) (get_or plans operator []) (get_or lasts operator None)) op
              (subst (λ z. CallerLeaves named n operator operator lines ts (get_or (map shown seats) operator []) z (get_or plans operator [])
              (get_or lasts operator None)) (ap (λ z. get_or z operator []) (sym recs)) (leaves_at operator [] (omega (arith, many)))));
          at_nodes = λ i d l. left d i (get_or m.histories i []) (at_index m.histories i (get_or m.histories i []) (omega (arith, l, histories))
              (get_or_default m.histories i [] (get_or m.histories i []) (omega (arith, l, histories))));
        }
