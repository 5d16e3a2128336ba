-- A line is taken: an action of an actor, or an operation.
use Rattle.std.proofs.Common.{◌≡◌, ℕ, ◌-◌, ◌<◌, ◌≤◌, List, [], ◌∷◌, ◌++◌, length, false, refl, sym, ap, ◌∙◌, subst, set, get_or, arith, inl, inr}
use Rattle.std.proofs.lemmas.List.{length-set, get_or-set_same, get_or-set_other}
use Rattle.std.proofs.lemmas.Bool.Decides.{eqb_tells}
use Rattle.journal_history.specs.declared.node_ask.NodeAsk.{NodeAsk}
use Rattle.journal_history.specs.declared.record.Record.{Record}
use Rattle.journal_history.specs.declared.record.Record.TheVariants.{Operator}
use Rattle.journal_history.specs.Cell.{Cell}
use Rattle.journal_history.specs.NodeCells.{CellView}
use Rattle.mesh.specs.Marks.{IsMarked}
use Rattle.play_model.specs.Lines.{Line, Action, Acts, Operates}
use Rattle.play_model.specs.Actor.{IsLed, actor_after, hand_action}
use Rattle.play_model.specs.Plays.{Play, is_done}
use Rattle.play_model.specs.KeptActor.{KeptActor, new_actor, resting}
use Rattle.play_actor.specs.Kept.{Kept, actor_of, node_at, list_ask, answer_to, operates, with_actor_at, Stands, IsAtRest, LeadsTo}
use Rattle.caller.specs.Callers.{LinesGo}
use Rattle.play_actor.specs.NodesWire.{NodesView, nodes_wire}
use Rattle.play_actor.proofs.NodesGo.{nodes_for, lines_keep}
use Rattle.play_actor.specs.Ready.{IsIdleIn, IsIdle, TakesLine}
use Rattle.play_actor.proofs.KeptSteps.{asked_play, operated_play, step_operated}
use Rattle.play_actor.proofs.KeptTurns.{leads_one, cell_there, with_node, with_cells, stands_asked}
use Rattle.play_actor.proofs.KeptLines.{action_leads}

-- ## An action
-- the actor that took it, and the others as they were
others : (k : Kept) (c e : ℕ) (b : KeptActor) (cells : List CellView) → length cells ≡ length k.nodes → c < length k.actors → IsIdleIn k.named (length k.nodes) b
    → IsIdleIn k.named (length k.nodes) (actor_of k e) → IsIdleIn k.named (length cells) (actor_of (with_actor_at (with_cells k cells) c b) e)
others k c e b cells long l mine other =
    subst (λ m. IsIdleIn k.named m (get_or (set k.actors c b) e (new_actor k.named m []))) (sym long) (elim (eqb_tells e c) [
      | inl here ↦ subst (λ a. IsIdleIn k.named (length k.nodes) a) (sym
          (ap (λ x. get_or (set k.actors c b) x (new_actor k.named (length k.nodes) [])) here.1
          ∙ get_or-set_same k.actors c b (new_actor k.named (length k.nodes) []) l)) mine
      | inr off ↦ subst (λ a. IsIdleIn k.named (length k.nodes) a) (sym (get_or-set_other k.actors c e b (new_actor k.named (length k.nodes) []) off.1)) other
    ])

pub takes_action : (k : Kept) (c : ℕ) (d : Action) (lines : List Record) (b : KeptActor) (new : NodesView) → c < length k.actors → IsIdle k
    → IsLed (hand_action d (resting (actor_of k c))) lines → actor_after (hand_action d (resting (actor_of k c))) lines ≡ resting b → IsIdleIn k.named (length k.nodes) b
    → b.name ≡ (actor_of k c).name → IsMarked b.marks (actor_of k c).past lines → LinesGo nodes_wire lines (nodes_for c k.nodes) new
    → TakesLine (Acts c d) (length k.actors) k (with_actor_at (with_cells k new.cells) c b)
takes_action k c d lines b new l idle led after mine name marked go =
    let n : length new.cells ≡ length k.nodes = (lines_keep lines (nodes_for c k.nodes) new go).1 in
    let m : length (set k.actors c b) ≡ length k.actors = length-set k.actors c b in
    record {
      nodes = n;
      actors_are = m;
      named = refl;
      idle = record {
        some = let some = idle.some in omega (arith, n, some);
        actors = λ e h. others k c e b new.cells n l mine (idle.actors e (omega (arith, h, m)));
      };
      leads = λ ls. action_leads k ls c (length k.nodes) d lines b new l (idle.actors c l).idle led after mine.idle name marked go;
    }

-- ## An operation
operates_leads : (k : Kept) (ls : List Line) (node : ℕ) (ask : NodeAsk) → 1 ≤ node → node ≤ length k.nodes → LeadsTo (IsAtRest (Operates node ask ∷ ls) k) (IsAtRest ls (operates k node ask))
operates_leads k ls node ask low high p h =
    let v : Cell = (node_at k node).cell in
    let q : Play = operated_play p ls node ask k.operator v in
    let s : Stands (with_node k node (list_ask (node_at k node) k.operator ask)) (asked_play p node k.operator false ask v) = stands_asked k p node k.operator false ask h.stands low high in (
      q,
      leads_one p q (step_operated p ls node k.operator ask v h.turn h.lines_are h.stands.operator (cell_there k p node h.stands)),
      record {
        stands = record {
          named = s.named;
          nodes = s.nodes;
          cells = s.cells;
          histories = s.histories;
          names = s.names;
          operator = s.operator;
          operated = ap (λ os. os ++ Operator node ask (is_done (answer_to (node_at k node) ask)) ∷ []) s.operated;
        };
        lines_are = refl;
        turn = h.turn;
        actors = h.actors;
      },
    )

pub takes_operation : (old new : Kept) (node : ℕ) (ask : NodeAsk) → IsIdle old → 1 ≤ node → node ≤ length old.nodes → new ≡ operates old node ask
    → TakesLine (Operates node ask) (length old.actors) old new
takes_operation old new node ask idle low high is =
    let P : Kept → Type 0 = λ k. TakesLine (Operates node ask) (length old.actors) old k in
    let n : length (operates old node ask).nodes ≡ length old.nodes = length-set old.nodes (node - 1) (list_ask (node_at old node) old.operator ask) in
    subst P (sym is) (record {
      nodes = n;
      actors_are = refl;
      named = refl;
      idle = record {
        some = let some = idle.some in omega (arith, n, some);
        actors = λ d h. subst (λ m. IsIdleIn old.named m (get_or old.actors d (new_actor old.named m []))) (sym n) (idle.actors d h);
      };
      leads = λ ls. operates_leads old ls node ask low high;
    })
