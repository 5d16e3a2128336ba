-- What is kept of a play goes along with it: the beginning, a line taken, the end.
use Rattle.std.proofs.Common.{◌≡◌, ℕ, zero, suc, ◌+◌, ◌<◌, List, [], ◌∷◌, ◌++◌, length, map, Bool, true, false, cond, refl, sym, ap, ◌∙◌, subst, Option, Some, set, get_or, replicate, ◌&&◌}
use Rattle.std.specs.Prelude.{◌||◌, None, is_none}
use Rattle.std.proofs.lemmas.List.{map-append, get_or_default, length-replicate}
use Rattle.std.proofs.Math.ListN.{get_or-map}
use Rattle.journal_history.specs.declared.record.Record.{Record}
use Rattle.journal_history.specs.declared.history_line.HistoryLine.{HistoryLine}
use Rattle.journal_history.specs.declared.mark.Mark.{Mark}
use Rattle.journal_history.specs.Cell.{fresh_cell}
use Rattle.journal_history.specs.NodeCells.{CellView, new_cell}
use Rattle.mesh.specs.declared.whole.Mesh.{Mesh}
use Rattle.mesh.specs.Marks.{IsMarked}
use Rattle.play_model.specs.Lines.{Line, Action, Declares, Acts, count_actors}
use Rattle.play_model.specs.Actor.{Actor, wants, is_wanting, is_broken, while_wanting, take_action, settle, IsLed, actor_after, hand_action, fresh_actor}
use Rattle.play_model.specs.KeptActor.{KeptActor, new_actor, resting}
use Rattle.play_model.specs.Actions.{IsIdleActor}
use Rattle.play_model.specs.Plays.{Play, play_step, play_begins, line_taken, actor_at, histories_from, history_of, has_ended, no_lines, mesh_of, ends_from, ends_of, IsPlayed}
use Rattle.play_actor.specs.Kept.{Kept, actor_of, Stands, IsAtRest, Leads, LeadsTo, with_actor, with_actor_at, new_kept, mesh_kept, end_of, ends_kept}
use Rattle.caller.specs.Callers.{LinesGo}
use Rattle.play_actor.specs.NodesWire.{NodesView, nodes_wire}
use Rattle.play_actor.proofs.NodesGo.{nodes_for}
use Rattle.play_actor.proofs.KeptSteps.{step_line}
use Rattle.play_model.proofs.KeptActor.{idle_no_tail, rests}
use Rattle.play_actor.proofs.KeptTurns.{leads_one, leads_on, IsActing, with_cells, after_marks, lines_act, rest_after}
use Rattle.play_model.proofs.Sound.{handed_past}

-- ## A line of an actor
resting_there : (k : Kept) (p : Play) (ls : List Line) (c : ℕ) → Stands k p → p.actors ≡ map resting k.actors → actor_at (record p { lines = ls }) c ≡ resting (actor_of k c)
unfolding actor_at fresh_actor
resting_there k p ls c s e =
    ap (λ xs. get_or xs c (fresh_actor p.named p.nodes)) e
    ∙ ap (λ b. get_or (map resting k.actors) c (fresh_actor b p.nodes)) s.named
    ∙ ap (λ n. get_or (map resting k.actors) c (fresh_actor k.named n)) (sym s.nodes)
    ∙ get_or-map resting k.actors c (new_actor k.named (length k.nodes) [])

-- the play once the line was taken
abbrev pub handed_play : Play → List Line → ℕ → Actor → Play
handed_play p ls c x = record p { lines = ls; turn = Some c; actors = set p.actors c x }

pub step_handed : (k : Kept) (p : Play) (ls : List Line) (c : ℕ) (d : Action) (x : Actor) → IsAtRest (Acts c d ∷ ls) k p → hand_action d (resting (actor_of k c)) ≡ x
    → play_step p ≡ handed_play p ls c x
unfolding line_taken
step_handed k p ls c d x h e =
    step_line p (Acts c d) ls h.turn h.lines_are
    ∙ ap (λ a. handed_play p ls c (hand_action d a)) (resting_there k p ls c h.stands h.actors)
    ∙ ap (λ y. handed_play p ls c y) e

-- other lines, another turn and other actors leave a play the nodes, names and operator that are
-- kept
pub stands_same : (k : Kept) (p : Play) (ls : List Line) (turn : Option ℕ) (xs : List Actor) → Stands k p → Stands k (record p { lines = ls; turn = turn; actors = xs })
stands_same k p ls turn xs s = record { named = s.named; nodes = s.nodes; cells = s.cells; histories = s.histories; names = s.names; operator = s.operator; operated = s.operated }

-- an actor is known without the nodes
pub actor_as : (k : Kept) (cells : List CellView) (c : ℕ) → c < length k.actors → actor_of (with_cells k cells) c ≡ actor_of k c
actor_as k cells c l = get_or_default k.actors c (new_actor k.named (length cells) []) (new_actor k.named (length k.nodes) []) l

-- an idle actor leaves no action to be done
none_left : (b w : Bool) (d : Action) (x y : Actor) → w ≡ false → (cond b (record x { todo = while_wanting w (d ∷ []) }) (record y { todo = [] })).todo ≡ []
none_left true true d x y e = absurd (cc e)
none_left true false d x y e = refl
none_left false w d x y e = refl

handed_todo : (n : ℕ) (a : KeptActor) (d : Action) → IsIdleActor n a → (hand_action d (resting a)).todo ≡ []
unfolding hand_action settle is_wanting
handed_todo n a d idle =
    none_left (is_wanting (wants (resting a)) || is_broken (resting a)) (is_wanting (wants (resting a))) d (resting a) (take_action d (resting a))
    (ap is_wanting (rests a None (idle_no_tail a.holds idle.holds) idle.rests))

-- an action, from one rest to the next
pub action_leads : (k : Kept) (ls : List Line) (c n : ℕ) (d : Action) (lines : List Record) (b : KeptActor) (new : NodesView) → c < length k.actors → IsIdleActor n (actor_of k c)
    → IsLed (hand_action d (resting (actor_of k c))) lines → actor_after (hand_action d (resting (actor_of k c))) lines ≡ resting b → IsIdleActor n b → b.name ≡ (actor_of k c).name
    → IsMarked b.marks (actor_of k c).past lines → LinesGo nodes_wire lines (nodes_for c k.nodes) new → LeadsTo (IsAtRest (Acts c d ∷ ls) k) (IsAtRest ls (with_actor_at (with_cells k new.cells) c b))
action_leads k ls c n d lines b new l idle led after over name marked go p h =
    let a : KeptActor = actor_of k c in
    let x : Actor = hand_action d (resting a) in
    let todo : x.todo ≡ [] = handed_todo n a d idle in
    let marks : b.marks ≡ x.marks = sym (ap (λ y. y.marks) after) ∙ after_marks x lines todo in
    let one : Play = handed_play p ls c x in
    let acting : IsActing ls c x k one = record {
      stands = stands_same k p ls (Some c) one.actors h.stands;
      lines_are = refl;
      turn = refl;
      actors = ap (λ xs. set xs c x) h.actors;
    } in
    let own : IsMarked x.marks x.past lines =
    subst (λ (ps : List Record). IsMarked x.marks ps lines) (sym (handed_past d (resting a))) (subst (λ (ms : List Mark). IsMarked ms a.past lines) marks marked) in
    let two = lines_act lines ls c x k one new l acting todo led own go in
    let same : actor_of (with_cells k new.cells) c ≡ a = actor_as k new.cells c l in
    let three = rest_after ls c n (with_cells k new.cells) b two.0 l over (name ∙ ap (λ y. y.name) (sym same)) (subst (λ y. IsActing ls c y (with_cells k new.cells) two.0) after two.2) in
    (three.0, leads_on p one three.0 (leads_one p one (step_handed k p ls c d x h refl)) (leads_on one two.0 three.0 two.1 three.1), three.2)

-- ## A declaration
abbrev declared_play : Play → List Line → List ℕ → Play
declared_play p ls name = record p { lines = ls; names = p.names ++ name ∷ []; actors = p.actors ++ fresh_actor p.named p.nodes ∷ [] }

step_declared : (p : Play) (ls : List Line) (name : List ℕ) → p.turn ≡ None → p.lines ≡ Declares name ∷ ls → play_step p ≡ declared_play p ls name
unfolding line_taken
step_declared p ls name turn lines = step_line p (Declares name) ls turn lines

fresh_last : (k : Kept) (name : List ℕ) → map resting k.actors ++ fresh_actor k.named (length k.nodes) ∷ [] ≡ map resting (with_actor k name).actors
unfolding fresh_actor
fresh_last k name = sym (map-append resting k.actors (new_actor k.named (length k.nodes) name ∷ []))

pub declare_leads : (k : Kept) (ls : List Line) (name : List ℕ) → LeadsTo (IsAtRest (Declares name ∷ ls) k) (IsAtRest ls (with_actor k name))
declare_leads k ls name p h = (
  declared_play p ls name,
  leads_one p (declared_play p ls name) (step_declared p ls name h.turn h.lines_are),
  record {
    stands = record {
      named = h.stands.named;
      nodes = h.stands.nodes;
      cells = h.stands.cells;
      histories = h.stands.histories;
      names = ap (λ xs. xs ++ name ∷ []) h.stands.names ∙ sym (map-append (λ a. a.name) k.actors (new_actor k.named (length k.nodes) name ∷ []));
      operator = h.stands.operator;
      operated = h.stands.operated;
    };
    lines_are = refl;
    turn = h.turn;
    actors =
        ap (λ xs. xs ++ fresh_actor p.named p.nodes ∷ []) h.actors
        ∙ ap (λ b. map resting k.actors ++ fresh_actor b p.nodes ∷ []) h.stands.named
        ∙ ap (λ n. map resting k.actors ++ fresh_actor k.named n ∷ []) (sym h.stands.nodes)
        ∙ fresh_last k name;
  },
)

-- ## The beginning and the end
fresh_cells : (n : ℕ) → replicate n fresh_cell ≡ map (λ v. v.cell) (replicate n new_cell)
fresh_cells zero = refl
fresh_cells (suc n) = ap (λ xs. fresh_cell ∷ xs) (fresh_cells n)

fresh_histories : (n : ℕ) → replicate n [] ≡ map (λ v. v.history) (replicate n new_cell)
fresh_histories zero = refl
fresh_histories (suc n) = ap (λ xs. [] ∷ xs) (fresh_histories n)

no_histories : (k n : ℕ) → histories_from k n [] ≡ replicate n []
unfolding histories_from history_of
no_histories k zero = refl
no_histories k (suc n) = ap (λ xs. [] ∷ xs) (no_histories (k + 1) n)

pub begins_at_rest : (named : Bool) (n : ℕ) (ls : List Line) → IsAtRest ls (new_kept named n (count_actors ls)) (play_begins named n ls)
unfolding play_begins
begins_at_rest named n ls =
    record {
      stands = record {
        named = refl;
        nodes = length-replicate n new_cell;
        cells = fresh_cells n;
        histories = no_histories 1 n ∙ fresh_histories n;
        names = refl;
        operator = refl;
        operated = refl;
      };
      lines_are = refl;
      turn = refl;
      actors = refl;
    }

pub pasts : (xs : List KeptActor) → map (λ a. a.past) (map resting xs) ≡ map (λ a. a.past) xs
pasts [] = refl
pasts (a ∷ xs) = ap (λ ys. a.past ∷ ys) (pasts xs)

pub marks_of : (xs : List KeptActor) → map (λ a. a.marks) (map resting xs) ≡ map (λ a. a.marks) xs
marks_of [] = refl
marks_of (a ∷ xs) = ap (λ ys. a.marks ∷ ys) (marks_of xs)

abbrev mesh_with : ℕ → List (List HistoryLine) → List (List Record) → List Record → List (List Mark) → Mesh
mesh_with n hs rs os ms = record { nodes = n; histories = hs; records = rs ++ os ∷ []; plan = ms }

pub ends_are : (xs : List KeptActor) → map end_of xs ≡ ends_from (map (λ a. a.name) xs) (map resting xs)
unfolding ends_from
ends_are [] = refl
ends_are (a ∷ xs) = ap (λ ys. end_of a ∷ ys) (ends_are xs)

unfoldable pub is_played : (named : Bool) (n : ℕ) (ls : List Line) (k : Kept) (p : Play) → Leads (play_begins named n ls) p → IsAtRest [] k p → IsPlayed named n ls (mesh_kept k) (ends_kept k)
unfolding has_ended no_lines mesh_of ends_of
is_played named n ls k p leads h =
    record {
      play = p;
      plays = record { steps = leads.steps; reached = leads.reached; ended = ap (λ x. no_lines x && is_none p.turn) h.lines_are ∙ ap is_none h.turn };
      mesh =
          ap (λ m. mesh_with m (map (λ v. v.history) k.nodes) (map (λ a. a.past) k.actors) k.operated (map (λ a. a.marks) k.actors)) h.stands.nodes
          ∙ ap (λ hs. mesh_with p.nodes hs (map (λ a. a.past) k.actors) k.operated (map (λ a. a.marks) k.actors)) (sym h.stands.histories)
          ∙ ap (λ rs. mesh_with p.nodes (histories_from 1 p.nodes p.trace) rs k.operated (map (λ a. a.marks) k.actors)) (sym (ap (map (λ a. a.past)) h.actors ∙ pasts k.actors))
          ∙ ap (λ os. mesh_with p.nodes (histories_from 1 p.nodes p.trace) (map (λ a. a.past) p.actors) os (map (λ a. a.marks) k.actors)) (sym h.stands.operated)
          ∙ ap (λ ms. mesh_with p.nodes (histories_from 1 p.nodes p.trace) (map (λ a. a.past) p.actors) p.operated ms) (sym (ap (map (λ a. a.marks)) h.actors ∙ marks_of k.actors));
      ends_are = ends_are k.actors ∙ ap (λ ns. ends_from ns (map resting k.actors)) (sym h.stands.names) ∙ ap (λ xs. ends_from p.names xs) (sym h.actors);
    }
