-- What the threads and the gates leave is a mesh that agrees and follows.
use Rattle.std.proofs.Common.{◌≡◌, ℕ, ◌+◌, ◌<◌, ◌≤◌, ◌==◌, Bool, List, [], Option, None, sym, refl, ap, ◌∙◌, subst, arith, length, get_or, ◌⊎◌, inl, inr}
use Rattle.std.proofs.lemmas.List.{length-map, get_or_default}
use Rattle.std.proofs.Math.ListN.{get_or-map}
use Rattle.std.proofs.lemmas.Option.{get_or_from_slice_get}
use Rattle.std.proofs.lemmas.Bool.Decides.{eqb_tells}
use Rattle.std.proofs.Math.Arith.{lt_of_le-ne}
use Rattle.journal_history.specs.declared.record.Record.{Record}
use Rattle.journal_history.specs.declared.mark.Mark.{Mark}
use Rattle.journal_history.specs.declared.history_line.HistoryLine.{HistoryLine}
use Rattle.mesh.specs.declared.whole.Mesh.{Mesh}
use Rattle.ns_tree.specs.declared.end.End.{End}
use Rattle.ns_tree.specs.declared.end.LastSpace.{LastSpace}
use Rattle.mesh.specs.Agree.{ListsAgree, record_of, plan_of, history_at}
use Rattle.mesh.specs.Makers.{IsOfChores, IsOperators}
use Rattle.mesh.specs.Matches.{reached, lines_of, AreSame, AreWithin, CallersWithin}
use Rattle.mesh.proofs.Lists.{same_test, other_test}
use Rattle.atomic_table.specs.Seated.{TableId}
use Rattle.play_calls.specs.Logs.{LogView}
use Rattle.play_threads.specs.Seated.{Seat}
use Rattle.play_threads.specs.Gates.{row_at, IsLeft}
use Rattle.play_threads.proofs.GateLaws.{element}
use Rattle.play_model.specs.Lines.{Line, ArePlayable, count_actors, actions_of, operations_in}
use Rattle.play_model.specs.Follows.{AreOperations}
use Rattle.play_model.proofs.ChoresMade.{chores_made}
use Rattle.play_threads.specs.Threads.{DoesLines, HasOperated, FollowsActions}
use Rattle.play_threads.specs.Gathered.{CallerLeaves, AreGathered, IsRunOf, last_in}
use Rattle.play_model.proofs.PlayableActions.{playable_actions}

le_cases : (c d : ℕ) → c ≤ d → (c < d) ⊎ (c ≡ d)
le_cases c d l = elim (eqb_tells c d) [ inl e ↦ inr e.1 | inr e ↦ inl (lt_of_le-ne l e.1) ]

last_or_actor : (c d : ℕ) → c ≤ d → (P : ℕ → Type 0) → ((k : ℕ) → k < d → P k) → P d → P c
last_or_actor c d l P actors last = by (le_cases c d l)
  where
    by : (c < d) ⊎ (c ≡ d) → P c
    by (inl h) = actors c h
    by (inr e) = subst P (sym e) last

-- ## One caller
module _ (named : Bool) (n operator c : ℕ) (lines : List Line) (tables : List TableId) (seats : List Seat) (rs : List Record) (plan : List Mark)
    (last : Option LastSpace) (h : CallerLeaves named n operator c lines tables seats rs plan last) where
  abbrev log : LogView
  log = h.does.0

  past : log.past ≡ rs
  past = h.does.3

  marks : log.marks ≡ plan
  marks = h.does.4

  pub seats_long : length seats ≡ n
  seats_long = h.does.5.count ∙ h.does.2

  does : DoesLines named (c == operator) n c lines log last
  does = h.does.6

  -- each of its seats has seen of it what its record says of that node
  pub own_same : (i : ℕ) (d : Seat) → i < n → AreSame (reached (i + 1) rs) (get_or seats i d).own
  own_same i d l =
      let e = seats_long in
      subst (λ r. AreSame (reached (i + 1) r) (get_or seats i d).own) past (h.does.5.same h.does.1 i d (omega (arith, l, e)))

  pub its_follows : c < operator → FollowsActions named n (actions_of c lines) rs plan last
  its_follows l =
      let f : FollowsActions named n (actions_of c lines) log.past log.marks last = subst (λ b. DoesLines named b n c lines log last) (other_test c operator (λ e. omega (arith, l, e))) does in
      subst (λ r. FollowsActions named n (actions_of c lines) r plan last) past (subst (λ m. FollowsActions named n (actions_of c lines) log.past m last) marks f)

  pub its_operations : c ≡ operator → HasOperated lines rs
  its_operations e = subst (HasOperated lines) past (subst (λ b. DoesLines named b n c lines log last) (same_test c operator e) does)

-- ## One node
row_seat : (columns : List (List Seat)) (i c : ℕ) (d : Seat) → c < length columns → get_or (row_at i d columns) c d ≡ get_or (get_or columns c []) i d
row_seat columns i c d l =
    get_or_default (row_at i d columns) c d (get_or [] i d) (let n = length-map columns (λ (s : List Seat). get_or s i d) in omega (arith, l, n))
    ∙ get_or-map (λ (s : List Seat). get_or s i d) columns c []

node_same : (columns : List (List Seat)) (i c : ℕ) (d : Seat) (rs : List Record) (hs : List HistoryLine) → c < length columns → IsLeft (row_at i d columns) hs
    → AreSame (reached (i + 1) rs) (get_or (get_or columns c []) i d).own → AreSame (reached (i + 1) rs) (lines_of c hs)
node_same columns i c d rs hs l left same =
    let n = length-map columns (λ (s : List Seat). get_or s i d) in
    subst (λ z. AreSame (reached (i + 1) rs) z) (ap (λ (x : Seat). x.own) (sym (row_seat columns i c d l)) ∙ left.same c d (omega (arith, l, n))) same

-- ## All
module _ (named : Bool) (nodes : ℕ) (lines : List Line) (m : Mesh) (ends : List End) (playable : ArePlayable named nodes 0 lines) (g : AreGathered named nodes lines m ends) where
  abbrev actors : ℕ
  actors = count_actors lines

  actor : (c : ℕ) → c < actors → FollowsActions named nodes (actions_of c lines) (record_of m c) (plan_of m c) (last_in ends c)
  actor c l = its_follows named nodes actors c lines g.tables (get_or g.columns c []) (record_of m c) (plan_of m c) (last_in ends c) (g.actors c l) l

  operator : HasOperated lines (record_of m actors)
  operator = its_operations named nodes actors actors lines g.tables (get_or g.columns actors []) (record_of m actors) g.last None g.operator refl

  within : (c : ℕ) → c ≤ actors → AreWithin nodes (record_of m c)
  within c l = last_or_actor c actors l (λ k. AreWithin nodes (record_of m k)) (λ k h. (g.actors k h).within) g.operator.within

  -- some seat at the gate of the node
  seat_at : (i : ℕ) → i < nodes → Seat
  seat_at i l =
      let n : length (get_or g.columns actors []) ≡ nodes = seats_long named nodes actors actors lines g.tables (get_or g.columns actors []) (record_of m actors) g.last None g.operator in
      (element (get_or g.columns actors []) i (omega (arith, l, n))).0

  same_at : (d : Seat) (i c : ℕ) → i < nodes → c ≤ actors → AreSame (reached (i + 1) (record_of m c)) (lines_of c (history_at m i))
  same_at d i c l h =
      let n = g.callers in
      node_same g.columns i c d (record_of m c) (history_at m i) (omega (arith, h, n)) (g.at_nodes i d l)
      (last_or_actor c actors h (λ k. AreSame (reached (i + 1) (record_of m k)) (get_or (get_or g.columns k []) i d).own)
      (λ k b. own_same named nodes actors k lines g.tables (get_or g.columns k []) (record_of m k) (plan_of m k) (last_in ends k) (g.actors k b) i d l)
      (own_same named nodes actors actors lines g.tables (get_or g.columns actors []) (record_of m actors) g.last None g.operator i d l))

  callers_at : (i : ℕ) → i < nodes → CallersWithin actors (history_at m i)
  callers_at i l =
      let d : Seat = seat_at i l in
      let n = length-map g.columns (λ (s : List Seat). get_or s i d) in
      (g.at_nodes i d l).callers actors (n ∙ g.callers)

  lists : ListsAgree m
  lists =
      let n : m.nodes ≡ nodes = g.nodes_are in
      let p : length m.plan ≡ actors = g.plan in
      record {
        local = λ i l. let b : i < nodes = omega (arith, l, n) in (g.at_nodes i (seat_at i b) b).local;
        operated = subst (λ k. IsOperators (record_of m k)) (sym p) operator.operates;
        same = λ i c l h. let b : i < nodes = omega (arith, l, n) in same_at (seat_at i b) i c b (omega (arith, h, p));
        marked = λ c l. (g.actors c (omega (arith, l, p))).marked;
        copied = λ c l. (g.actors c (omega (arith, l, p))).copied;
        callers = λ i l. subst (λ k. CallersWithin k (history_at m i)) (sym p) (callers_at i (omega (arith, l, n)));
        within = λ c l. subst (λ k. AreWithin k (record_of m c)) (sym n) (within c (omega (arith, l, p)));
      }

  made : (c : ℕ) → c < actors → IsOfChores nodes (record_of m c)
  made c l = chores_made named nodes (actions_of c lines) (record_of m c) (playable_actions named nodes 0 lines playable c) (actor c l (record { name = []; last = last_in ends c }) refl).led

  pub assembled : IsRunOf named nodes lines m ends
  assembled =
      let n : m.nodes ≡ nodes = g.nodes_are in
      let p : length m.plan ≡ actors = g.plan in
      record {
        agrees = record {
          lists = lists;
          made = λ c l. subst (λ k. IsOfChores k (record_of m c)) (sym n) (made c (omega (arith, l, p)));
          histories = g.histories ∙ sym n;
          records = g.records ∙ ap (λ k. k + 1) (sym p);
        };
        follows = record {
          nodes_are = n;
          actors_are = p;
          names = g.names;
          actors = λ c e l at. actor c (omega (arith, l, p)) e (ap (λ (x : End). x.last) (sym (get_or_from_slice_get ends c e (record { name = []; last = None }) at)));
          operator = subst (λ k. AreOperations (operations_in lines) (record_of m k)) (sym p) operator.operations;
        };
      }
