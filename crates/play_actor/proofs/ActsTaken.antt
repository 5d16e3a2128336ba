-- A whole action of an actor in a play, and the actors with their lists after it.
use Rattle.std.proofs.Common.{◌≡◌, ◌≢◌, ◌==◌, ◌⊎◌, ℕ, zero, suc, ◌-◌, ◌<◌, List, [], ◌∷◌, ◌++◌, length, Bool, false, true, sym, ap, ◌∙◌}
use Rattle.std.proofs.Common.{subst, arith, inl, inr, set, get_or}
use Rattle.std.proofs.lemmas.List.{length-map, length-set, map-set, get_or-map, get_or-set_same, get_or-set_other, append_cancel_left}
use Rattle.std.proofs.lemmas.List.Elements.{All-append}
use Rattle.std.proofs.lemmas.Bool.Decides.{eqb_tells}
use Rattle.journal_history.specs.declared.record.Record.{Record}
use Rattle.journal_history.specs.NodeCells.{CellView}
use Rattle.mesh.specs.Marks.{IsMarked}
use Rattle.play_calls.specs.Logs.{LogView}
use Rattle.play_calls.proofs.MarkLaws.{marked_after}
use Rattle.play_script.specs.declared.script_line.ScriptLine.{ScriptLine}
use Rattle.play_actor.specs.declared.player.Player.{Player}
use Rattle.play_model.specs.Lines.{Line, Action, Acts}
use Rattle.play_model.specs.Actor.{Actor, IsLed, hand_action, actor_after}
use Rattle.play_model.specs.Actions.{ActorView, IsIdleActor, TakesAction, TakesIf, action_of, MayCome, has_names, kept_by}
use Rattle.play_model.specs.KeptActor.{KeptActor, new_actor, resting}
use Rattle.play_actor.specs.Kept.{Kept, actor_of}
use Rattle.caller.specs.Callers.{CallerView, AreLater}
use Rattle.play_actor.specs.NodesWire.{NodesView, nodes_wire}
use Rattle.play_actor.proofs.NodesGo.{nodes_for}
use Rattle.play_actor.specs.Ready.{IsIdleIn, IsIdle, TakesLine}
use Rattle.play_actor.specs.Shown.{keeps, kept, AreSeated}
use Rattle.play_actor.proofs.LineTaken.{takes_action}
use Rattle.play_model.proofs.Sound.{handed_past, led_past}

-- a caller of this number over these nodes, who listed and marked this
abbrev pub view : ℕ → List CellView → LogView → CallerView NodesView
view caller cells log = record { wire = nodes_for caller cells; log = log }

-- ## An action
module _ {A : Type 0} (seen : A → ActorView) where
  players_there : (named : Bool) (cells : List CellView) (players : List (Player A)) (o : ℕ) (os : List Record) (k : Kept) (c : ℕ)
      → kept seen named cells players o os ≡ k → c < length k.actors → c < length players
  players_there named cells players o os k c e l =
      let n : length k.actors ≡ length players = ap (λ (x : Kept). length x.actors) (sym e) ∙ length-map players (keeps seen) in omega (arith, l, n)

  actor_is : (named : Bool) (cells : List CellView) (players : List (Player A)) (o : ℕ) (os : List Record) (c : ℕ) (p : Player A) → p ≡ get_or players c p → c < length players
      → actor_of (kept seen named cells players o os) c ≡ keeps seen p
  actor_is named cells players o os c p is l = get_or-map (keeps seen) players c p (new_actor named (length cells) []) l ∙ ap (keeps seen) (sym is)

  pub log_seated : (named : Bool) (cells : List CellView) (players : List (Player A)) (o : ℕ) (os : List Record) (k : Kept) (c : ℕ) (p : Player A)
      (log : LogView) → kept seen named cells players o os ≡ k → AreSeated (length cells) players
      → p ≡ get_or players c p → c < length k.actors → log ≡ p.log → log.nodes ≡ length cells
  log_seated named cells players o os k c p log e seated is l own =
      ap (λ (x : LogView). x.nodes) own ∙ ap (λ (x : Player A). x.log.nodes) is ∙ seated c p (players_there named cells players o os k c e l)

  player_idle : (named : Bool) (cells : List CellView) (players : List (Player A)) (o : ℕ) (os : List Record) (k : Kept) (c : ℕ) (p : Player A)
      → kept seen named cells players o os ≡ k → p ≡ get_or players c p → c < length k.actors
      → IsIdle k → IsIdleIn named (length cells) (keeps seen p)
  player_idle named cells players o os k c p e is l idle =
      let there : c < length players = players_there named cells players o os k c e l in
      let j : Kept = kept seen named cells players o os in
      let still : IsIdle j = subst (λ (x : Kept). IsIdle x) (sym e) idle in
      let m : c < length j.actors = let y = length-map players (keeps seen) in omega (arith, there, y) in
      subst (λ (a : KeptActor). IsIdleIn named (length cells) a) (actor_is named cells players o os c p is there) (still.actors c m)

  pub idle_there : (named : Bool) (cells : List CellView) (players : List (Player A)) (o : ℕ) (os : List Record) (k : Kept) (c : ℕ) (p : Player A)
      (log : LogView) → kept seen named cells players o os ≡ k → AreSeated (length cells) players
      → p ≡ get_or players c p → c < length k.actors → log ≡ p.log → IsIdle k → IsIdleActor log.nodes (kept_by (seen p.actor) log)
  idle_there named cells players o os k c p log e seated is l own idle =
      let n : log.nodes ≡ length cells = log_seated named cells players o os k c p log e seated is l own in
      let i : IsIdleActor (length cells) (keeps seen p) = (player_idle named cells players o os k c p e is l idle).idle in
      subst (λ m. IsIdleActor m (kept_by (seen p.actor) log)) (sym n) (record { some = i.some; ready = i.ready; rests = i.rests; holds = i.holds })

  -- what may come in the play may come to the actor
  pub may_there : (named : Bool) (cells : List CellView) (players : List (Player A)) (o : ℕ) (os : List Record) (k : Kept) (c : ℕ) (p : Player A)
      (log : LogView) (line : ScriptLine) → kept seen named cells players o os ≡ k
      → AreSeated (length cells) players → p ≡ get_or players c p → c < length k.actors → log ≡ p.log → IsIdle k
      → MayCome k.named (length k.nodes) line → MayCome (has_names (seen p.actor)) log.nodes line
  may_there named cells players o os k c p log line e seated is l own idle may =
      let n : log.nodes ≡ length cells = log_seated named cells players o os k c p log e seated is l own in
      subst (λ m. MayCome (has_names (seen p.actor)) m line) (sym n)
      (subst (λ b. MayCome b (length cells) line) (sym (player_idle named cells players o os k c p e is l idle).holds_if) (subst (λ (x : Kept). MayCome x.named (length x.nodes) line) (sym e) may))

  pub act_takes : (named : Bool) (cells : List CellView) (players : List (Player A)) (o : ℕ) (os : List Record) (k : Kept) (c : ℕ) (p q : Player A)
      (log last : LogView) (caller : ℕ) (more : List CellView) (d : Action) (line : Line) (new : CallerView NodesView)
      → kept seen named cells players o os ≡ k → AreSeated (length cells) players → p ≡ get_or players c p → c < length k.actors → log ≡ p.log → IsIdle k → line ≡ Acts c d
      → view caller more last ≡ new → TakesIf log.nodes (action_of line) (kept_by (seen p.actor) log) (kept_by (seen q.actor) new.log)
      → has_names (seen q.actor) ≡ has_names (seen p.actor) → AreLater nodes_wire (view c cells log) new
      → IsMarked last.marks [] last.past → q.name ≡ p.name → q.log ≡ last → TakesLine (Acts c d) (length k.actors) k (kept seen named more (set players c q) o os)
  act_takes named cells players o os k c p q log last caller more d line new e seated is l own idle says back takes as_before later marked name after =
      let there : c < length players = players_there named cells players o os k c e l in
      let n : p.log.nodes ≡ length cells = ap (λ (x : Player A). x.log.nodes) is ∙ seated c p there in
      let j : Kept = kept seen named cells players o os in
      let m : c < length j.actors = let y = length-map players (keeps seen) in omega (arith, there, y) in
      let still : IsIdle j = subst (λ (x : Kept). IsIdle x) (sym e) idle in
      let a : actor_of j c ≡ keeps seen p = actor_is named cells players o os c p is there in
      let t : TakesAction p.log.nodes d (kept_by (seen p.actor) p.log) (keeps seen q) =
      subst (λ (x : LogView). TakesAction p.log.nodes d (kept_by (seen p.actor) p.log)
      (record { name = q.name; writer = (seen q.actor).writer; holds = (seen q.actor).holds; past = x.past; marks = x.marks })) (sym after)
      (renamed (subst (λ (x : CallerView NodesView). TakesAction p.log.nodes d (kept_by (seen p.actor) p.log) (kept_by (seen q.actor) x.log)) (sym back)
      (subst (λ (x : LogView). TakesAction x.nodes d (kept_by (seen p.actor) x) (kept_by (seen q.actor) new.log)) own
      (subst (λ (x : Line). TakesIf log.nodes (action_of x) (kept_by (seen p.actor) log) (kept_by (seen q.actor) new.log)) says takes)))) in
      let g : AreLater nodes_wire (view c cells p.log) (view caller more last) =
      subst (λ (x : CallerView NodesView). AreLater nodes_wire (view c cells p.log) x) (sym back) (subst (λ (x : LogView). AreLater nodes_wire (view c cells x) new) own later) in
      let x : Actor = hand_action d (resting (keeps seen p)) in
      let whole : x.past ++ t.leads.lines ≡ p.log.past ++ g.lines = sym (led_past x t.leads.lines) ∙ ap (λ (y : Actor). y.past) t.leads.after ∙ ap (λ (y : LogView). y.past) after ∙ g.past in
      let same : t.leads.lines ≡ g.lines = append_cancel_left p.log.past t.leads.lines g.lines (ap (λ ps. ps ++ t.leads.lines) (sym (handed_past d (resting (keeps seen p)))) ∙ whole) in
      let split : IsMarked last.marks [] (p.log.past ++ g.lines) = subst (λ ps. IsMarked last.marks [] ps) g.past marked in
      let own_marks : IsMarked (keeps seen q).marks p.log.past g.lines =
      subst (λ (y : LogView). IsMarked y.marks p.log.past g.lines) (sym after) (marked_after last.marks [] p.log.past g.lines split) in
      let b : KeptActor = actor_of j c in
      let taken : TakesLine (Acts c d) (length j.actors) j (record { named = named; nodes = more; actors = set j.actors c (keeps seen q); operator = o; operated = os }) =
      takes_action j c d g.lines (keeps seen q) (nodes_for caller more) m still
      (subst (λ (y : KeptActor). IsLed (hand_action d (resting y)) g.lines) (sym a) (subst (λ rs. IsLed x rs) same t.leads.led))
      (subst (λ (y : KeptActor). actor_after (hand_action d (resting y)) g.lines ≡ resting (keeps seen q)) (sym a) (subst (λ rs. actor_after x rs ≡ resting (keeps seen q)) same t.leads.after))
      (record { idle = subst (λ y. IsIdleActor y (keeps seen q)) n t.idle; holds_if = as_before ∙ (player_idle named cells players o os k c p e is l idle).holds_if })
      (name ∙ ap (λ (y : KeptActor). y.name) (sym a))
      (subst (λ (y : KeptActor). IsMarked (keeps seen q).marks y.past g.lines) (sym a) own_marks) g.went in
      subst (λ (y : Kept). TakesLine (Acts c d) (length y.actors) y (kept seen named more (set players c q) o os)) e
      (subst (λ xs. TakesLine (Acts c d) (length j.actors) j (record { named = named; nodes = more; actors = xs; operator = o; operated = os })) (sym (map-set (keeps seen) players c q)) taken)
    where
      renamed : TakesAction p.log.nodes d (kept_by (seen p.actor) p.log) (kept_by (seen q.actor) last)
          → TakesAction p.log.nodes d (kept_by (seen p.actor) p.log) (record { name = q.name; writer = (seen q.actor).writer; holds = (seen q.actor).holds; past = last.past; marks = last.marks })
      renamed h = record {
        idle = record { some = h.idle.some; ready = h.idle.ready; rests = h.idle.rests; holds = h.idle.holds };
        leads = record { lines = h.leads.lines; led = h.leads.led; after = h.leads.after };
      }

  pub still_seated : (cells : List CellView) (players : List (Player A)) (c : ℕ) (q : Player A) (log last : LogView) (caller : ℕ)
      (more : List CellView) (new : CallerView NodesView) → view caller more last ≡ new → AreLater nodes_wire (view c cells log) new
      → length more ≡ last.nodes → AreSeated (length cells) players → log.nodes ≡ length cells → q.log ≡ last → AreSeated (length more) (set players c q)
  still_seated cells players c q log last caller more new back later own seated first after k d l =
      let n : last.nodes ≡ length cells = ap (λ (x : CallerView NodesView). x.log.nodes) back ∙ later.nodes ∙ first in
      let count : length (set players c q) ≡ length players = length-set players c q in
      by (eqb_tells k c) n count
    where
      by : (((k == c) ≡ true) × (k ≡ c)) ⊎ (((k == c) ≡ false) × (k ≢ c)) → last.nodes ≡ length cells → length (set players c q) ≡ length players
          → (get_or (set players c q) k d).log.nodes ≡ length more
      by (inl same) n count =
          ap (λ i. (get_or (set players c q) i d).log.nodes) same.1
          ∙ ap (λ (x : Player A). x.log.nodes) (get_or-set_same players c q d (let e = same.1 in omega (arith, l, count, e))) ∙ ap (λ (x : LogView). x.nodes) after ∙ sym own
      by (inr other) n count = ap (λ (x : Player A). x.log.nodes) (get_or-set_other players c k q d other.1) ∙ seated k d (omega (arith, l, count)) ∙ sym n ∙ sym own

  pub seated_more : (n : ℕ) (players more : List (Player A)) (p : Player A) → more ≡ players ++ p ∷ [] → AreSeated n players → p.log.nodes ≡ n → AreSeated n more
  seated_more n players more p e seated own =
      subst (λ xs. AreSeated n xs) (sym e) (All-append (λ (x : Player A). x.log.nodes ≡ n) players (p ∷ []) seated (one p own))
    where
      one : (p : Player A) → p.log.nodes ≡ n → AreSeated n (p ∷ [])
      one p own zero d l = own
      one p own (suc k) d l = absurd (omega (arith, l))
