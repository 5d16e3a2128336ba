-- What is kept of a play goes along with it: what reaches the nodes, and the lines of an actor.
use Rattle.std.proofs.Common.{◌≡◌, ℕ, zero, suc, ◌+◌, ◌-◌, ◌<◌, ◌≤◌, List, [], ◌∷◌, ◌++◌, length, map, Bool, true, false, refl, sym, ap, ◌∙◌, Some, None, set, get_or, arith, subst}
use Rattle.std.proofs.lemmas.List.{map-set, length-set, length-map, get_or-set_same, set-get_or}
use Rattle.std.proofs.Math.ListN.{get_or-map}
use Rattle.std.proofs.Math.Seq.{map-set_same}
use Rattle.journal_core.specs.declared.request.Request.{Request}
use Rattle.journal_history.specs.declared.node_ask.NodeAsk.{NodeAsk}
use Rattle.journal_history.specs.declared.node_ask.NodeAsk.TheVariants.{Act}
use Rattle.journal_history.specs.declared.mark.Mark.{Mark}
use Rattle.journal_history.specs.declared.record.Record.{Record}
use Rattle.journal_history.specs.declared.record.Record.TheVariants.{Call, Late, Operator, Outcome}
use Rattle.journal_history.specs.declared.record.Told.{Told}
use Rattle.journal_history.specs.Cell.{Cell, fresh_cell}
use Rattle.journal_history.specs.NodeCells.{CellView, new_cell}
use Rattle.journal_history.specs.Moving.{Placed}
use Rattle.mesh.specs.Marks.{next_number, IsAsMarked, IsMarked}
use Rattle.play_calls.specs.declared.delivery.Delivery.{Delivery}
use Rattle.play_calls.specs.declared.delivery.Delivery.TheVariants.{Delivered, ReplyLost, NotDelivered}
use Rattle.play_calls.specs.Deliveries.{delivery}
use Rattle.play_calls.proofs.MarkLaws.{delivery_known}
use Rattle.play_model.specs.Lines.{Line}
use Rattle.play_model.specs.Actor.{Actor, WantsCall, WantsCopy, Says, IsLed, wants, goes_on, settle_again, settle, moved_on, actor_after, fresh_actor}
use Rattle.play_model.specs.Plays.{Play, play_step, play_steps, actor_at}
use Rattle.play_model.specs.KeptActor.{KeptActor, new_actor, resting}
use Rattle.play_model.specs.Actions.{IsIdleActor}
use Rattle.play_actor.specs.Kept.{Kept, node_at, actor_of, list_ask, answer_to, reached_by, told_by, with_actor_at, Stands, IsAtRest, Leads}
use Rattle.caller.specs.Callers.{LineGoes, LinesGo}
use Rattle.play_actor.specs.NodesWire.{NodesView, nodes_wire}
use Rattle.play_actor.proofs.NodesGo.{nodes_for, Reaches, CopyReaches, call_went, copy_went}
use Rattle.play_actor.proofs.KeptLists.{set_set, histories_snoc}
use Rattle.play_actor.proofs.KeptSteps.{placed, asked_play, reached_play, noted_play, called_play, copied_play, step_call, step_copy, step_says, step_rests}
use Rattle.play_model.proofs.KeptActor.{idle_no_tail, rests}
use Rattle.play_model.proofs.Led.{moved_keeps}
use Rattle.play_model.proofs.Sound.{goes_past}
use Rattle.play_model.proofs.Wanting.{call_want, copy_want, says_want}

-- ## Some steps
steps_add : (m n : ℕ) (p : Play) → play_steps n (play_steps m p) ≡ play_steps (m + n) p
unfolding play_steps
steps_add zero n p = let e : n ≡ zero + n = omega arith in ap (λ k. play_steps k p) e
steps_add (suc m) n p = let e : suc (m + n) ≡ suc m + n = omega arith in steps_add m n (play_step p) ∙ ap (λ k. play_steps k p) e

pub leads_same : (p : Play) → Leads p p
unfolding play_steps
leads_same p = record { steps = zero; reached = refl }

pub leads_one : (p q : Play) → play_step p ≡ q → Leads p q
unfolding play_steps
leads_one p q e = record { steps = suc zero; reached = e }

pub leads_on : (p q r : Play) → Leads p q → Leads q r → Leads p r
leads_on p q r a b = record { steps = a.steps + b.steps; reached = sym (steps_add a.steps b.steps p) ∙ ap (play_steps b.steps) a.reached ∙ b.reached }

-- ## Names
pub same_names : (xs : List KeptActor) (c : ℕ) (b d : KeptActor) → b.name ≡ (get_or xs c d).name → map (λ a. a.name) (set xs c b) ≡ map (λ a. a.name) xs
same_names xs c b d e = map-set_same (λ a. a.name) xs c b d e

-- ## What reaches a node
pub cell_there : (k : Kept) (p : Play) (node : ℕ) → Stands k p → get_or p.cells (node - 1) fresh_cell ≡ (node_at k node).cell
cell_there k p node s = ap (λ xs. get_or xs (node - 1) fresh_cell) s.cells ∙ get_or-map (λ v. v.cell) k.nodes (node - 1) new_cell

history_there : (k : Kept) (node : ℕ) → get_or (map (λ v. v.history) k.nodes) (node - 1) [] ≡ (node_at k node).history
history_there k node = get_or-map (λ v. v.history) k.nodes (node - 1) new_cell

-- the node has taken and listed this
abbrev pub with_node : Kept → ℕ → CellView → Kept
with_node k node v = record k { nodes = set k.nodes (node - 1) v }

pub stands_asked : (k : Kept) (p : Play) (node c : ℕ) (muted : Bool) (ask : NodeAsk) → Stands k p → 1 ≤ node → node ≤ length k.nodes
    → Stands (with_node k node (list_ask (node_at k node) c ask)) (asked_play p node c muted ask (node_at k node).cell)
stands_asked k p node c muted ask s low high =
    let v : CellView = list_ask (node_at k node) c ask in
    record {
      named = s.named;
      nodes = length-set k.nodes (node - 1) v ∙ s.nodes;
      cells = ap (λ xs. set xs (node - 1) v.cell) s.cells ∙ sym (map-set (λ x. x.cell) k.nodes (node - 1) v);
      histories =
          let at : node ≡ 1 + (node - 1) = omega (arith, low) in
          let within : node - 1 < p.nodes = let e = s.nodes in omega (arith, low, high, e) in
          let x : Placed = placed node c muted ask (node_at k node).cell in
          histories_snoc 1 p.nodes (node - 1) p.trace x at within
          ∙ ap (λ hs. set hs (node - 1) (get_or hs (node - 1) [] ++ x.line ∷ [])) s.histories
          ∙ ap (λ h. set (map (λ y. y.history) k.nodes) (node - 1) (h ++ x.line ∷ [])) (history_there k node)
          ∙ sym (map-set (λ y. y.history) k.nodes (node - 1) v);
      names = s.names;
      operator = s.operator;
      operated = s.operated;
    }

-- a node as it is
pub same_node : (k : Kept) (node : ℕ) → with_node k node (node_at k node) ≡ k
same_node k node = ap (λ xs. record k { nodes = xs }) (set-get_or k.nodes (node - 1) new_cell)

stands_reached : (d : Delivery) (k : Kept) (p : Play) (node c : ℕ) (r : Request) → Stands k p → 1 ≤ node → node ≤ length k.nodes
    → Stands (with_node k node (reached_by d (node_at k node) c r)) (reached_play d p node c r (node_at k node).cell)
stands_reached NotDelivered k p node c r s low high = let P : Kept → Type 0 = λ x. Stands x p in subst P (sym (same_node k node)) s
stands_reached ReplyLost k p node c r s low high = stands_asked k p node c true (Act false r) s low high
stands_reached Delivered k p node c r s low high = stands_asked k p node c false (Act false r) s low high

-- an actor with the name that it had
pub stands_actor : (k : Kept) (p : Play) (c : ℕ) (b d : KeptActor) (xs : List Actor) → b.name ≡ (get_or k.actors c d).name → Stands k p
    → Stands (with_actor_at k c b) (record p { actors = xs })
stands_actor k p c b d xs e s =
    record { named = s.named; nodes = s.nodes; cells = s.cells; histories = s.histories; names = s.names ∙ sym (same_names k.actors c b d e); operator = s.operator; operated = s.operated }

-- ## A call
lines_stay : (d : Delivery) (p : Play) (node c : ℕ) (r : Request) (v : Cell) → (reached_play d p node c r v).lines ≡ p.lines
lines_stay NotDelivered p node c r v = refl
lines_stay ReplyLost p node c r v = refl
lines_stay Delivered p node c r v = refl

turn_stays : (d : Delivery) (p : Play) (node c : ℕ) (r : Request) (v : Cell) → (reached_play d p node c r v).turn ≡ p.turn
turn_stays NotDelivered p node c r v = refl
turn_stays ReplyLost p node c r v = refl
turn_stays Delivered p node c r v = refl

actors_stay : (d : Delivery) (p : Play) (node c : ℕ) (r : Request) (v : Cell) → (reached_play d p node c r v).actors ≡ p.actors
actors_stay NotDelivered p node c r v = refl
actors_stay ReplyLost p node c r v = refl
actors_stay Delivered p node c r v = refl

-- ## An actor's lines
-- while this actor acts, with these lines to come
pub record IsActing (lines : List Line) (c : ℕ) (x : Actor) (k : Kept) (p : Play) : Type 0 where
  pub stands : Stands k p
  pub lines_are : p.lines ≡ lines
  pub turn : p.turn ≡ Some c
  pub actors : p.actors ≡ set (map resting k.actors) c x

abbrev pub with_cells : Kept → List CellView → Kept
with_cells k cells = record k { nodes = cells }

acting_there : (ls : List Line) (c : ℕ) (x : Actor) (k : Kept) (p : Play) → c < length k.actors → IsActing ls c x k p → actor_at p c ≡ x
unfolding actor_at
acting_there ls c x k p l h =
    let b : c < length (map resting k.actors) = let e = length-map k.actors resting in omega (arith, l, e) in
    ap (λ xs. get_or xs c (fresh_actor p.named p.nodes)) h.actors ∙ get_or-set_same (map resting k.actors) c x (fresh_actor p.named p.nodes) b

stands_acted : (k : Kept) (p : Play) (xs : List Actor) → Stands k p → Stands k (record p { actors = xs })
stands_acted k p xs s = record { named = s.named; nodes = s.nodes; cells = s.cells; histories = s.histories; names = s.names; operator = s.operator; operated = s.operated }

-- where one actor is another
again : (xs ys : List Actor) (c : ℕ) (x y : Actor) → ys ≡ set xs c x → set ys c y ≡ set xs c y
again xs ys c x y e = ap (λ zs. set zs c y) e ∙ set_set xs c x y

-- some steps, to where the actor is this one and the nodes are these
abbrev Acts : List Line → ℕ → Actor → Kept → List CellView → Play → Type 0
Acts ls c y k cells p = (q : Play) × Leads p q × IsActing ls c y (with_cells k cells) q

call_acts : (ls : List Line) (c : ℕ) (x : Actor) (k : Kept) (p : Play) (node : ℕ) (r : Request) (told : Told) (cells : List CellView) → c < length k.actors → IsActing ls c x k p
    → wants x ≡ WantsCall node r → IsAsMarked x.marks node (next_number node x.past) told → Reaches c node r told k.nodes cells → Acts ls c (goes_on x (Call node r told)) k cells p
call_acts ls c x k p node r told cells l h want marked g =
    let d : Delivery = g.delivery in
    let v : CellView = node_at k node in
    let known : delivery x.marks node (next_number node x.past) ≡ d =
    delivery_known x.marks node (next_number node x.past) d (answer_to v (Act false r)) (subst (λ t. IsAsMarked x.marks node (next_number node x.past) t) g.told_is marked) in
    let q : Play = called_play d p c node r x v.cell in
    let s : Stands (with_node k node (reached_by d v c r)) (reached_play d p node c r v.cell) = stands_reached d k p node c r h.stands g.low g.high in
    let own : IsActing ls c (goes_on x (Call node r (told_by d v r))) (with_node k node (reached_by d v c r)) q = record {
      stands = stands_acted (with_node k node (reached_by d v c r)) (reached_play d p node c r v.cell) q.actors s;
      lines_are = lines_stay d p node c r v.cell ∙ h.lines_are;
      turn = turn_stays d p node c r v.cell ∙ h.turn;
      actors = again (map resting k.actors) (reached_play d p node c r v.cell).actors c x (goes_on x (Call node r (told_by d v r))) (actors_stay d p node c r v.cell ∙ h.actors);
    } in
    let P : Told → Type 0 = λ t. IsActing ls c (goes_on x (Call node r t)) (with_node k node (reached_by d v c r)) q in
    let Q : List CellView → Type 0 = λ vs. IsActing ls c (goes_on x (Call node r told)) (with_cells k vs) q in
    (q, leads_one p q (step_call d p c node r x v.cell h.turn (acting_there ls c x k p l h) want known (cell_there k p node h.stands)), subst Q (sym g.cells) (subst P (sym g.told_is) own))

copy_acts : (ls : List Line) (c : ℕ) (x : Actor) (k : Kept) (p : Play) (node : ℕ) (r : Request) (cells : List CellView) → c < length k.actors → IsActing ls c x k p
    → wants x ≡ WantsCopy node r → CopyReaches c node r k.nodes cells → Acts ls c (goes_on x (Late node r)) k cells p
copy_acts ls c x k p node r cells l h want g =
    let v : CellView = node_at k node in
    let w : CellView = list_ask v c (Act true r) in
    let q : Play = copied_play p c node r x v.cell in
    let s : Stands (with_node k node w) (asked_play p node c false (Act true r) v.cell) = stands_asked k p node c false (Act true r) h.stands g.low g.high in
    let own : IsActing ls c (goes_on x (Late node r)) (with_node k node w) q = record {
      stands = stands_acted (with_node k node w) (asked_play p node c false (Act true r) v.cell) q.actors s;
      lines_are = h.lines_are;
      turn = h.turn;
      actors = again (map resting k.actors) p.actors c x (goes_on x (Late node r)) h.actors;
    } in
    let Q : List CellView → Type 0 = λ vs. IsActing ls c (goes_on x (Late node r)) (with_cells k vs) q in
    (q, leads_one p q (step_copy p c node r x v.cell h.turn (acting_there ls c x k p l h) want (cell_there k p node h.stands)), subst Q (sym g.cells) own)

say_acts : (ls : List Line) (c : ℕ) (x : Actor) (k : Kept) (p : Play) (text : List ℕ) (cells : List CellView) → c < length k.actors → IsActing ls c x k p
    → wants x ≡ Says text → cells ≡ k.nodes → Acts ls c (goes_on x (Outcome text)) k cells p
say_acts ls c x k p text cells l h want e =
    let q : Play = noted_play p c x (Outcome text) in
    let own : IsActing ls c (goes_on x (Outcome text)) k q = record {
      stands = stands_acted k p q.actors h.stands;
      lines_are = h.lines_are;
      turn = h.turn;
      actors = again (map resting k.actors) p.actors c x (goes_on x (Outcome text)) h.actors;
    } in
    let Q : List CellView → Type 0 = λ vs. IsActing ls c (goes_on x (Outcome text)) (with_cells k vs) q in
    (q, leads_one p q (step_says p c text x h.turn (acting_there ls c x k p l h) want), subst Q (sym e) own)

-- an actor with no more actions to come takes no other marks
goes_marks : (x : Actor) (r : Record) → x.todo ≡ [] → ((goes_on x r).todo ≡ []) × ((goes_on x r).marks ≡ x.marks)
unfolding goes_on settle_again settle
goes_marks x r e =
    let y : Actor = moved_on r (record x { past = x.past ++ r ∷ [] }) in
    let m = moved_keeps r (record x { past = x.past ++ r ∷ [] }) in
    let none : settle y.todo y ≡ record y { todo = [] } = ap (λ ds. settle ds y) (m.0 ∙ e) in
    (ap (λ a. a.todo) none, ap (λ a. a.marks) none ∙ m.2)

pub after_marks : (x : Actor) (rs : List Record) → x.todo ≡ [] → (actor_after x rs).marks ≡ x.marks
unfolding actor_after
after_marks x [] e = refl
after_marks x (r ∷ rs) e = let m = goes_marks x r e in after_marks (goes_on x r) rs m.0 ∙ m.1

next_marked : (x : Actor) (r : Record) (rs : List Record) → x.todo ≡ [] → IsMarked x.marks (x.past ++ r ∷ []) rs → IsMarked (goes_on x r).marks (goes_on x r).past rs
next_marked x r rs e h =
    subst (λ (ps : List Record). IsMarked (goes_on x r).marks ps rs) (sym (goes_past x r)) (subst (λ (ms : List Mark). IsMarked ms (x.past ++ r ∷ []) rs) (sym (goes_marks x r e).1) h)

then_acts : (ls : List Line) (c : ℕ) (k : Kept) (p : Play) (y z : Actor) (mid cells : List CellView) → Acts ls c y k mid p
    → ((q : Play) → IsActing ls c y (with_cells k mid) q → Acts ls c z (with_cells k mid) cells q) → Acts ls c z k cells p
then_acts ls c k p y z mid cells one more = let two = more one.0 one.2 in (two.0, leads_on p one.0 two.0 one.1 two.1, two.2)

-- the lines that came behind one, from where that one left the nodes
rest_goes : (c : ℕ) (rs : List Record) (mid new : NodesView) → mid.caller ≡ c → LinesGo nodes_wire rs mid new → LinesGo nodes_wire rs (nodes_for c mid.cells) new
rest_goes c rs mid new e g = subst (λ k. LinesGo nodes_wire rs (nodes_for k mid.cells) new) e g

-- one line went from these nodes
line_from : (c : ℕ) (r : Record) (cells : List CellView) (ahead after : NodesView) → ahead ≡ nodes_for c cells → LineGoes nodes_wire r ahead after → LineGoes nodes_wire r (nodes_for c cells) after
line_from c r cells ahead after e g = subst (λ v. LineGoes nodes_wire r v after) e g

-- the play goes along the lines that an actor is led along, where its calls went as its marks say
pub lines_act : (rs : List Record) (ls : List Line) (c : ℕ) (x : Actor) (k : Kept) (p : Play) (new : NodesView) → c < length k.actors → IsActing ls c x k p → x.todo ≡ [] → IsLed x rs
    → IsMarked x.marks x.past rs → LinesGo nodes_wire rs (nodes_for c k.nodes) new → Acts ls c (actor_after x rs) k new.cells p
unfolding IsLed actor_after IsMarked LinesGo
lines_act [] ls c x k p new l h todo led marked go =
    let Q : NodesView → Type 0 = λ v. IsActing ls c x (with_cells k v.cells) p in
    (p, leads_same p, subst Q (sym go) h)
lines_act (Call node r told ∷ rs) ls c x k p new l h todo led marked go =
    let g = call_went node r told (nodes_for c k.nodes) go.after (line_from c (Call node r told) k.nodes go.ahead go.after go.readied go.went) in
    then_acts ls c k p (goes_on x (Call node r told)) (actor_after (goes_on x (Call node r told)) rs) go.after.cells new.cells
    (call_acts ls c x k p node r told go.after.cells l h (call_want (wants x) node r told led.0) marked.0 g.1)
    (λ q a. lines_act rs ls c (goes_on x (Call node r told)) (with_cells k go.after.cells) q new l a (goes_marks x (Call node r told) todo).0 led.1 (next_marked x (Call node r told) rs todo marked.1)
    (rest_goes c rs go.after new g.0 go.rest))
lines_act (Late node r ∷ rs) ls c x k p new l h todo led marked go =
    let g = copy_went node r (nodes_for c k.nodes) go.after (line_from c (Late node r) k.nodes go.ahead go.after go.readied go.went) in
    then_acts ls c k p (goes_on x (Late node r)) (actor_after (goes_on x (Late node r)) rs) go.after.cells new.cells
    (copy_acts ls c x k p node r go.after.cells l h (copy_want (wants x) node r led.0) g.1)
    (λ q a. lines_act rs ls c (goes_on x (Late node r)) (with_cells k go.after.cells) q new l a (goes_marks x (Late node r) todo).0 led.1 (next_marked x (Late node r) rs todo marked.1)
    (rest_goes c rs go.after new g.0 go.rest))
lines_act (Outcome text ∷ rs) ls c x k p new l h todo led marked go =
    let e : go.after ≡ nodes_for c k.nodes = go.went ∙ go.readied in
    then_acts ls c k p (goes_on x (Outcome text)) (actor_after (goes_on x (Outcome text)) rs) go.after.cells new.cells
    (say_acts ls c x k p text go.after.cells l h (says_want (wants x) text led.0) (ap (λ (v : NodesView). v.cells) e))
    (λ q a. lines_act rs ls c (goes_on x (Outcome text)) (with_cells k go.after.cells) q new l a (goes_marks x (Outcome text) todo).0 led.1 (next_marked x (Outcome text) rs todo marked)
    (rest_goes c rs go.after new (ap (λ (v : NodesView). v.caller) e) go.rest))
lines_act (Operator node ask done ∷ rs) ls c x k p new l h todo led marked go = absurd go.went.2

-- ## An action, from one rest to the next
pub rest_after : (ls : List Line) (c n : ℕ) (k : Kept) (b : KeptActor) (p : Play) → c < length k.actors → IsIdleActor n b → b.name ≡ (actor_of k c).name → IsActing ls c (resting b) k p
    → (q : Play) × Leads p q × IsAtRest ls (with_actor_at k c b) q
rest_after ls c n k b p l idle name h = (
  record p { turn = None },
  leads_one p (record p { turn = None }) (step_rests p c (resting b) h.turn (acting_there ls c (resting b) k p l h) (rests b None (idle_no_tail b.holds idle.holds) idle.rests)),
  record {
    stands = stands_actor k (record p { turn = None }) c b (new_actor k.named (length k.nodes) []) p.actors name
        (record {
          named = h.stands.named;
          nodes = h.stands.nodes;
          cells = h.stands.cells;
          histories = h.stands.histories;
          names = h.stands.names;
          operator = h.stands.operator;
          operated = h.stands.operated;
        });
    lines_are = h.lines_are;
    turn = refl;
    actors = h.actors ∙ sym (map-set resting k.actors c b);
  },
)
