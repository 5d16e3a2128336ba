-- A script's lines are taken one after the other.
use Rattle.std.proofs.Common.{◌≡◌, ◌==◌, ◌⊎◌, ℕ, zero, suc, ◌+◌, ◌<◌, ◌≤◌, List, [], ◌∷◌, ◌++◌, length, map, Bool, true, false, refl, sym, ap, ◌∙◌, subst, arith, drop, get_or, inl, inr}
use Rattle.std.specs.Prelude.{◌≢◌, is_some}
use Rattle.std.proofs.lemmas.List.{length-append, get_or_append_left, length-replicate}
use Rattle.std.proofs.Math.Seq.{get_or-append_seam}
use Rattle.std.proofs.Math.Arith.{lt_of_le-ne}
use Rattle.std.proofs.lemmas.Bool.Decides.{eqb_tells}
use Rattle.edit_ops.specs.Records.{EditView}
use Rattle.writer_core.specs.declared.task.Task.TheVariants as task
use Rattle.writer_core.proofs.LiveLaws.{new_live}
use Rattle.play_script.specs.declared.script_line.ScriptLine.{ScriptLine}
use Rattle.play_script.specs.declared.script_line.ScriptLine.TheVariants as line
use Rattle.journal_history.specs.NodeCells.{new_cell}
use Rattle.play_script.specs.Scripts.{ScriptView}
use Rattle.play_model.specs.Lines.{Line, Declares, Acts, Operates, line_of, lines_of, count_actors, AreEdits, IsTask, WithNames, ArePlayable, AreInRange, IsPlayable, NumbersFit}
use Rattle.play_model.specs.Actor.{holding_if}
use Rattle.play_model.specs.KeptActor.{KeptActor, new_actor}
use Rattle.play_model.specs.Actions.{IsIdleHolding}
use Rattle.play_model.specs.Plays.{Play, play_begins, IsPlayed}
use Rattle.play_actor.specs.Kept.{Kept, actor_of, with_actor, new_kept, mesh_kept, ends_kept, IsAtRest, Leads}
use Rattle.play_actor.specs.Ready.{IsIdleIn, IsIdle, TakesLine}
use Rattle.play_actor.specs.Goal.{MayTake, actors_after, IsUnderWay}
use Rattle.run_safety.proofs.WriterRange.{new_sized}
use Rattle.play_actor.proofs.KeptLines.{declare_leads, begins_at_rest, is_played}
use Rattle.play_actor.proofs.KeptTurns.{leads_same, leads_on}
use Rattle.play_actor.proofs.LineTaken.{takes_operation}
use Rattle.play_model.proofs.PlayableActions.{names_may}
use Rattle.play_model.proofs.LinesLeft.{drop_more, none_left}

-- ## A declaration
new_holds : (named : Bool) → IsIdleHolding (holding_if named) × (is_some (holding_if named) ≡ named)
new_holds true = (refl, refl)
new_holds false = (tt, refl)

new_idle : (named : Bool) (n : ℕ) (name : List ℕ) → 1 ≤ n → IsIdleIn named n (new_actor named n name)
new_idle named n name some = record {
  idle = record { some = some; ready = record { live = new_live n some; sized = new_sized n }; rests = refl; holds = (new_holds named).0 };
  holds_if = (new_holds named).1;
}

-- an actor of the longer list: one of the shorter list, or the new one
declared_idle : (k : Kept) (name : List ℕ) → IsIdle k → IsIdle (with_actor k name)
declared_idle k name idle = record { some = idle.some; actors = each }
  where
    new : KeptActor
    new = new_actor k.named (length k.nodes) name

    none : KeptActor
    none = new_actor k.named (length k.nodes) []

    by : (d : ℕ) → d < length (with_actor k name).actors → (((d == length k.actors) ≡ true) × (d ≡ length k.actors)) ⊎ (((d == length k.actors) ≡ false) × (d ≢ length k.actors))
        → IsIdleIn k.named (length k.nodes) (get_or (k.actors ++ new ∷ []) d none)
    by d l (inl same) = subst (λ a. IsIdleIn k.named (length k.nodes) a)
        (sym (ap (λ x. get_or (k.actors ++ new ∷ []) x none) same.1 ∙ get_or-append_seam k.actors new [] none))
        (new_idle k.named (length k.nodes) name idle.some)
    by d l (inr other) =
        let m : d < length k.actors = lt_of_le-ne (let n = length-append k.actors (new ∷ []) in omega (arith, l, n)) other.1 in
        subst (λ a. IsIdleIn k.named (length k.nodes) a) (sym (get_or_append_left k.actors (new ∷ []) none d m)) (idle.actors d m)

    each : (d : ℕ) → d < length (with_actor k name).actors → IsIdleIn k.named (length k.nodes) (actor_of (with_actor k name) d)
    each d l = by d l (eqb_tells d (length k.actors))

pub takes_declared : (old new : Kept) (name : List ℕ) → IsIdle old → new ≡ with_actor old name → TakesLine (Declares name) (length old.actors + 1) old new
takes_declared old new name idle e =
    let P : Kept → Type 0 = λ k. TakesLine (Declares name) (length old.actors + 1) old k in
    subst P (sym e) (record {
      nodes = refl;
      actors_are = length-append old.actors (new_actor old.named (length old.nodes) name ∷ []);
      named = refl;
      idle = declared_idle old name idle;
      leads = λ ls. declare_leads old ls name;
    })

-- ## The lines
log_may : (named : Bool) (bodies : List (List ℕ)) → IsTask named (task.Log bodies) → (named ≡ false) × (bodies ≢ [])
log_may true bodies h = absurd h
log_may false bodies h = (refl, h)

purge_may : (named : Bool) (min : ℕ) → IsTask named (task.Purge min) → named ≡ false
purge_may true min h = absurd h
purge_may false min h = refl

edits_may : (named : Bool) (edits : List EditView) → WithNames named ((edits ≢ []) × AreEdits edits) → (named ≡ true) × (edits ≢ [])
edits_may true edits h = (refl, h.0)
edits_may false edits h = absurd h

pub line_may : (named : Bool) (nodes actors : ℕ) (l : ScriptLine) (ls : List ScriptLine) → ArePlayable named nodes actors (map line_of (l ∷ ls))
    → AreInRange nodes (l ∷ ls) → MayTake named nodes actors l
unfolding ArePlayable AreInRange
line_may named nodes actors (line.Declare name) ls h r = (tt, tt)
line_may named nodes actors (line.Takeover actor) ls h r = (h.0, tt)
line_may named nodes actors (line.Roll actor) ls h r = (h.0, tt)
line_may named nodes actors (line.Close actor) ls h r = (h.0, tt)
line_may named nodes actors (line.Log actor bodies) ls h r = (h.0, log_may named bodies h.1)
line_may named nodes actors (line.Edits actor edits) ls h r = (h.0, edits_may named edits h.1)
line_may named nodes actors (line.Purge actor min) ls h r = (h.0, purge_may named min h.1)
line_may named nodes actors (line.Trim actor extra) ls h r = (h.0, names_may named h.1)
line_may named nodes actors (line.Tail actor) ls h r = (h.0, names_may named h.1)
line_may named nodes actors (line.Checkpoint actor) ls h r = (h.0, names_may named h.1)
line_may named nodes actors (line.Reload actor) ls h r = (h.0, names_may named h.1)
line_may named nodes actors (line.Drop actor node call) ls h r = (h.0, (h.1, r.0.0, r.0.1, r.0.2))
line_may named nodes actors (line.Mute actor node call) ls h r = (h.0, (h.1, r.0.0, r.0.1, r.0.2))
line_may named nodes actors (line.Late actor node call) ls h r = (h.0, (h.1, r.0.0, r.0.1))
line_may named nodes actors (line.Kill node) ls h r = (tt, (h.0, h.1))
line_may named nodes actors (line.Restart node) ls h r = (tt, (h.0, h.1))
line_may named nodes actors (line.Arm node calls stop) ls h r = (tt, (h.0, h.1))

lines_may : (named : Bool) (nodes actors : ℕ) (l : ScriptLine) (ls : List ScriptLine) → ArePlayable named nodes actors (map line_of (l ∷ ls))
    → ArePlayable named nodes (actors_after actors l) (map line_of ls)
unfolding ArePlayable
lines_may named nodes actors (line.Declare name) ls h = h
lines_may named nodes actors (line.Takeover actor) ls h = h.2
lines_may named nodes actors (line.Roll actor) ls h = h.2
lines_may named nodes actors (line.Close actor) ls h = h.2
lines_may named nodes actors (line.Log actor bodies) ls h = h.2
lines_may named nodes actors (line.Edits actor edits) ls h = h.2
lines_may named nodes actors (line.Purge actor min) ls h = h.2
lines_may named nodes actors (line.Trim actor extra) ls h = h.2
lines_may named nodes actors (line.Tail actor) ls h = h.2
lines_may named nodes actors (line.Checkpoint actor) ls h = h.2
lines_may named nodes actors (line.Reload actor) ls h = h.2
lines_may named nodes actors (line.Drop actor node call) ls h = h.2
lines_may named nodes actors (line.Mute actor node call) ls h = h.2
lines_may named nodes actors (line.Late actor node call) ls h = h.2
lines_may named nodes actors (line.Kill node) ls h = h.3
lines_may named nodes actors (line.Restart node) ls h = h.3
lines_may named nodes actors (line.Arm node calls stop) ls h = h.3

rest_in_range : (nodes : ℕ) (l : ScriptLine) (ls : List ScriptLine) → AreInRange nodes (l ∷ ls) → AreInRange nodes ls
unfolding AreInRange
rest_in_range nodes l ls h = h.1

pub under_way_more : (named : Bool) (nodes : ℕ) (lines : List Line) (l : ScriptLine) (ls : List ScriptLine) (old new : Kept) → IsUnderWay named nodes lines (l ∷ ls) old
    → TakesLine (line_of l) (actors_after (length old.actors) l) old new → IsUnderWay named nodes lines ls new
under_way_more named nodes lines l ls old new u t =
    let step : (q : Play) × Leads u.play q × IsAtRest (map line_of ls) new q = t.leads (map line_of ls) u.play u.at_rest in
    let P : ℕ → Type 0 = λ n. ArePlayable named nodes n (map line_of ls) in
    record {
      idle = t.idle;
      same_nodes = t.nodes ∙ u.same_nodes;
      as_named = t.named ∙ u.as_named;
      in_range = rest_in_range nodes l ls u.in_range;
      playable = subst P (sym t.actors_are) (lines_may named nodes (length old.actors) l ls u.playable);
      play = step.0;
      leads = leads_on (play_begins named nodes lines) u.play step.0 u.leads step.1;
      at_rest = step.2;
    }

pub under_way_first : (s : ScriptView) (named : Bool) (n operator : ℕ) (ls : List ScriptLine) (k : Kept) → IsPlayable s → NumbersFit s → named ≡ s.named → n ≡ s.nodes → ls ≡ s.lines
    → operator ≡ count_actors (map line_of ls) → k ≡ new_kept named n operator → IsUnderWay s.named s.nodes (lines_of s) ls k
under_way_first s named n operator ls k playable fits kind same are o e =
    let P : Kept → Type 0 = λ x. IsUnderWay s.named s.nodes (lines_of s) ls x in
    let Q : List ScriptLine → Type 0 = λ xs. IsUnderWay s.named s.nodes (lines_of s) xs (new_kept s.named s.nodes (count_actors (lines_of s))) in
    let first : k ≡ new_kept s.named s.nodes (count_actors (lines_of s)) =
    e ∙ ap (λ b. new_kept b n operator) kind ∙ ap (λ m. new_kept s.named m operator) same ∙ ap (new_kept s.named s.nodes) (o ∙ ap (λ xs. count_actors (map line_of xs)) are) in
    subst P (sym first) (subst Q (sym are) (record {
      idle = record {
        some = let m = length-replicate s.nodes new_cell in let some = playable.nodes in omega (arith, some, m);
        actors = λ d l. absurd (omega (arith, l));
      };
      same_nodes = length-replicate s.nodes new_cell;
      as_named = refl;
      in_range = fits.lines;
      playable = playable.lines;
      play = play_begins s.named s.nodes (lines_of s);
      leads = leads_same (play_begins s.named s.nodes (lines_of s));
      at_rest = begins_at_rest s.named s.nodes (lines_of s);
    }))

pub under_way_last : (named : Bool) (nodes : ℕ) (lines : List Line) (k : Kept) → IsUnderWay named nodes lines [] k → IsPlayed named nodes lines (mesh_kept k) (ends_kept k)
under_way_last named nodes lines k u = is_played named nodes lines k u.play u.leads u.at_rest

pub under_way_on : (named : Bool) (nodes : ℕ) (lines : List Line) (ls : List ScriptLine) (i : ℕ) (d : ScriptLine) (old new : Kept) → i < length ls → IsUnderWay named nodes lines (drop i ls) old
    → TakesLine (line_of (get_or ls i d)) (actors_after (length old.actors) (get_or ls i d)) old new → IsUnderWay named nodes lines (drop (i + 1) ls) new
under_way_on named nodes lines ls i d old new l u t =
    let P : List ScriptLine → Type 0 = λ xs. IsUnderWay named nodes lines xs old in
    under_way_more named nodes lines (get_or ls i d) (drop (i + 1) ls) old new (subst P (drop_more ls i d l) u) t

pub may_on : (named : Bool) (nodes : ℕ) (lines : List Line) (ls : List ScriptLine) (i : ℕ) (d : ScriptLine) (k : Kept) → i < length ls → IsUnderWay named nodes lines (drop i ls) k
    → MayTake k.named (length k.nodes) (length k.actors) (get_or ls i d)
may_on named nodes lines ls i d k l u =
    let P : List ScriptLine → Type 0 = λ xs. ArePlayable named nodes (length k.actors) (map line_of xs) in
    let R : List ScriptLine → Type 0 = λ xs. AreInRange nodes xs in
    subst (λ b. MayTake b (length k.nodes) (length k.actors) (get_or ls i d)) (sym u.as_named) (subst (λ n. MayTake named n (length k.actors) (get_or ls i d)) (sym u.same_nodes)
    (line_may named nodes (length k.actors) (get_or ls i d) (drop (i + 1) ls) (subst P (drop_more ls i d l) u.playable) (subst R (drop_more ls i d l) u.in_range)))

pub idle_on : (named : Bool) (nodes : ℕ) (lines : List Line) (rest : List ScriptLine) (k : Kept) → IsUnderWay named nodes lines rest k → IsIdle k
idle_on named nodes lines rest k u = u.idle

pub under_way_end : (named : Bool) (nodes : ℕ) (lines : List Line) (ls : List ScriptLine) (k : Kept)
    → IsUnderWay named nodes lines (drop (length ls) ls) k → IsPlayed named nodes lines (mesh_kept k) (ends_kept k)
under_way_end named nodes lines ls k u =
    let P : List ScriptLine → Type 0 = λ xs. IsUnderWay named nodes lines xs k in
    under_way_last named nodes lines k (subst P (none_left ls) u)

pub ruleset takes = (takes_declared, takes_operation)

pub ruleset plays = (under_way_on, idle_on)
