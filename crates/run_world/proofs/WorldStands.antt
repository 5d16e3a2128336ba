-- A step doesn't depend on what was listed before, and lists after it.
use Rattle.std.proofs.Common.{◌≡◌, ℕ, List, [], ◌∷◌, ◌++◌, Bool, true, false, length, map, refl, sym, ap, ◌∙◌, subst, Option, ◌-◌, zero, suc, get_or, replicate}
use Rattle.std.specs.Prelude.{filter, ◌==◌, if◌then◌else◌}
use Rattle.std.proofs.lemmas.List.{map-append, append-nil, length-replicate}
use Rattle.journal_core.specs.declared.request.Request.{Request}
use Rattle.writer_core.specs.declared.task.Task.{Task}
use Rattle.writer_core.specs.declared.task.Begun.{Begun}
use Rattle.writer_core.specs.declared.task.Begun.TheVariants as begun
use Rattle.writer_core.specs.Views.{WriterView}
use Rattle.writer_core.specs.Writer.{is_under_way, writer_begun, next_call, writer_stopped}
use Rattle.run_safety.specs.declared.event.Fate.{Fate}
use Rattle.run_safety.specs.declared.event.Fate.TheVariants as fate
use Rattle.run_safety.specs.declared.event.Event.{Event}
use Rattle.run_safety.specs.declared.event.Event.TheVariants.{Begin, Call, Late, Kill, Restart, Arm, GiveUp, Checkpoint}
use Rattle.run_world.specs.declared.seen.Seen.{Seen}
use Rattle.journal_history.specs.declared.node_ask.NodeAsk.{NodeAsk}
use Rattle.journal_history.specs.declared.node_ask.NodeAsk.TheVariants as ask
use Rattle.journal_history.specs.Moving.{Placed}
use Rattle.journal_history.specs.Cell.{fresh_cell}
use Rattle.journal_history.specs.NodeCells.{CellView, new_cell}
use Rattle.run_world.specs.World.{World, Stepped, acting_at, node_asked, history_in, take_operation, call_reached, with_acting, with_writer}
use Rattle.run_world.specs.World.{called_by, copied_when, is_call, is_reading, task_begun, task_begins, answer_done, not_next, world_step, IsWithin}
use Rattle.run_world.specs.World.{new_world}
use Rattle.run_safety.specs.Actings.{was_made, fresh_acting}
use Rattle.run_world.specs.WorldViews.{WorldView, new_view, bare, IsStepped, StandsFor, Steps}

abbrev clear : World → World
clear w = record w { trace = [] }

-- the step s of the world w sees and does what t does, the step of w with nothing listed, and lists
-- it after what w has listed
record Traced (w : World) (s t : Stepped) : Type 0 where
  seen : s.seen ≡ t.seen
  world : clear s.world ≡ clear t.world
  trace : s.world.trace ≡ w.trace ++ t.world.trace
  nodes : s.world.nodes ≡ w.nodes
  operator : s.world.operator ≡ w.operator

undone : (w : World) → Traced w (not_next w) (not_next (clear w))
undone w = record { seen = refl; world = refl; trace = sym (append-nil w.trace); nodes = refl; operator = refl }

done_is : (w : World) → Traced w (answer_done w) (answer_done (clear w))
done_is w = record { seen = refl; world = refl; trace = sym (append-nil w.trace); nodes = refl; operator = refl }

begun_is : (b : Begun) (actor : ℕ) (v : WriterView) (w : World) → Traced w (task_begun b actor v w) (task_begun b actor v (clear w))
unfolding with_acting
begun_is begun.Going actor v w = record { seen = refl; world = refl; trace = sym (append-nil w.trace); nodes = refl; operator = refl }
begun_is begun.NotActive actor v w = undone w
begun_is (begun.TooLong number) actor v w = undone w

begins_is : (u : Bool) (actor : ℕ) (task : Task) (w : World) → Traced w (task_begins u actor task w) (task_begins u actor task (clear w))
begins_is true actor task w = undone w
begins_is false actor task w = begun_is (writer_begun (acting_at actor w).writer task).begun actor (writer_begun (acting_at actor w).writer task).writer w

called_is : (reading next : Bool) (f : Fate) (actor node : ℕ) (r : Request) (w : World) → Traced w (called_by reading next f actor node r w) (called_by reading next f actor node r (clear w))
unfolding with_acting call_reached node_asked
called_is true next fate.Heard actor node r w = record { seen = refl; world = refl; trace = refl; nodes = refl; operator = refl }
called_is true next fate.Muted actor node r w = record { seen = refl; world = refl; trace = refl; nodes = refl; operator = refl }
called_is true next fate.Dropped actor node r w = record { seen = refl; world = refl; trace = sym (append-nil w.trace); nodes = refl; operator = refl }
called_is true next (fate.Stopped keep) actor node r w = record { seen = refl; world = refl; trace = refl; nodes = refl; operator = refl }
called_is false true fate.Heard actor node r w = record { seen = refl; world = refl; trace = refl; nodes = refl; operator = refl }
called_is false true fate.Muted actor node r w = record { seen = refl; world = refl; trace = refl; nodes = refl; operator = refl }
called_is false true fate.Dropped actor node r w = record { seen = refl; world = refl; trace = sym (append-nil w.trace); nodes = refl; operator = refl }
called_is false true (fate.Stopped keep) actor node r w = record { seen = refl; world = refl; trace = refl; nodes = refl; operator = refl }
called_is false false f actor node r w = undone w

copied_is : (b : Bool) (actor node : ℕ) (r : Request) (stop : Option ℕ) (w : World) → Traced w (copied_when b actor node r stop w) (copied_when b actor node r stop (clear w))
unfolding node_asked
copied_is true actor node r stop w = record { seen = refl; world = refl; trace = refl; nodes = refl; operator = refl }
copied_is false actor node r stop w = undone w

operated_is : (node : ℕ) (a : NodeAsk) (w : World) → Traced w (take_operation node a w) (take_operation node a (clear w))
unfolding node_asked
operated_is node a w = record { seen = refl; world = refl; trace = refl; nodes = refl; operator = refl }

gave_up : (actor : ℕ) (v : WriterView) (w : World) → Traced w (answer_done (with_acting actor (with_writer v (acting_at actor w)) w))
    (answer_done (with_acting actor (with_writer v (acting_at actor w)) (clear w)))
unfolding with_acting
gave_up actor v w = record { seen = refl; world = refl; trace = sym (append-nil w.trace); nodes = refl; operator = refl }

step_is : (w : World) (e : Event) → Traced w (world_step w e) (world_step (clear w) e)
unfolding world_step
step_is w (Begin actor task) = begins_is (is_under_way (acting_at actor w).writer.phase) actor task w
step_is w (Call actor node r f) = called_is (is_reading r) (is_call node r (next_call (acting_at actor w).writer)) f actor node r w
step_is w (Late actor node r stop) = copied_is (was_made node r (acting_at actor w).calls) actor node r stop w
step_is w (Kill node) = operated_is node ask.Kill w
step_is w (Restart node) = operated_is node ask.Restart w
step_is w (Arm node calls stop) = operated_is node (ask.Arm calls stop) w
step_is w (GiveUp actor) = gave_up actor (writer_stopped (acting_at actor w).writer) w
step_is w (Checkpoint actor) = done_is w

-- ## Histories
at_node : ℕ → List Placed → List Placed
at_node node ps = filter (λ (x : Placed). x.node == node) ps

one_first : (b : Bool) (p : Placed) (xs ys : List Placed) → (if b then p ∷ (xs ++ ys) else (xs ++ ys)) ≡ (if b then p ∷ xs else xs) ++ ys
one_first true p xs ys = refl
one_first false p xs ys = refl

split_at : (node : ℕ) (a b : List Placed) → filter (λ (x : Placed). x.node == node) (a ++ b) ≡ filter (λ (x : Placed). x.node == node) a ++ filter (λ (x : Placed). x.node == node) b
split_at node [] b = refl
split_at node (p ∷ a) b =
    ap (λ z. if p.node == node then p ∷ z else z) (split_at node a b)
    ∙ one_first (p.node == node) p (filter (λ (x : Placed). x.node == node) a) (filter (λ (x : Placed). x.node == node) b)

goes_on : (node : ℕ) (u w t : World) → u.trace ≡ w.trace ++ t.trace → history_in node w ++ history_in node t ≡ history_in node u
unfolding history_in
goes_on node u w t e =
    sym (ap (λ ps. map (λ (x : Placed). x.line) (filter (λ (x : Placed). x.node == node) ps)) e ∙ ap (map (λ (x : Placed). x.line)) (split_at node w.trace t.trace)
    ∙ map-append (λ (x : Placed). x.line) (filter (λ (x : Placed). x.node == node) w.trace) (filter (λ (x : Placed). x.node == node) t.trace))

-- ## A step of what it stands for
pub steps_stand : (old new : WorldView) (e : Event) (s : Seen) → IsStepped old (world_step (bare old) e) s new → Steps old e s new
steps_stand old new e s g = λ w h.
    let k : IsStepped old (world_step (clear w) e) s new = subst (λ (x : World). IsStepped old (world_step x e) s new) h.world g in
    let t = step_is w e in
    let count : length old.cells ≡ w.nodes = ap (λ (x : World). x.nodes) h.world in
    let nodes : length new.cells ≡ (world_step w e).world.nodes = k.cells.same ∙ count ∙ sym t.nodes in
    let cells : map (λ (c : CellView). c.cell) new.cells ≡ (world_step w e).world.cells = k.cells.cells ∙ sym (ap (λ (x : World). x.cells) t.world) in
    let actors : new.actors ≡ (world_step w e).world.actors = k.actors ∙ sym (ap (λ (x : World). x.actors) t.world) in
    let operator : new.operator ≡ (world_step w e).world.operator = k.operator ∙ ap (λ (x : World). x.operator) h.world ∙ sym t.operator in
    let bare_is : bare new ≡ clear (world_step w e).world = cc in
    record {
      seen = k.seen ∙ sym t.seen;
      world = record {
        world = bare_is;
        histories = λ node m.
            let low : IsWithin w.nodes node = subst (λ n. IsWithin n node) t.nodes m in
            let within : IsWithin (length old.cells) node = subst (λ n. IsWithin n node) (sym count) low in
            k.cells.histories node within ∙ ap (λ hs. hs ++ history_in node (world_step (clear w) e).world) (h.histories node low)
            ∙ goes_on node (world_step w e).world w (world_step (clear w) e).world t.trace;
      };
    }

-- ## A new world
cells_are : (n : ℕ) → map (λ (c : CellView). c.cell) (replicate n new_cell) ≡ replicate n fresh_cell
cells_are zero = refl
cells_are (suc n) = ap (λ cs. fresh_cell ∷ cs) (cells_are n)

alike_at : (n i : ℕ) → get_or (replicate n new_cell) i new_cell ≡ new_cell
alike_at zero i = refl
alike_at (suc n) zero = refl
alike_at (suc n) (suc i) = alike_at n i

pub new_stands : (nodes actors : ℕ) → StandsFor (new_view nodes actors) (new_world nodes actors)
unfolding new_world history_in
new_stands nodes actors =
    record {
      world = ap (λ n. record {
        nodes = n;
        cells = map (λ (c : CellView). c.cell) (replicate nodes new_cell);
        actors = replicate actors (fresh_acting nodes);
        operator = actors;
        trace = [];
      }) (length-replicate nodes new_cell)
          ∙ ap (λ cs. record { nodes = nodes; cells = cs; actors = replicate actors (fresh_acting nodes); operator = actors; trace = [] }) (cells_are nodes);
      histories = λ node m. ap (λ (c : CellView). c.history) (alike_at nodes (node - 1));
    }
