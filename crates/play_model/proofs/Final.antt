-- The mesh of a play agrees, and follows its script; and the moving entries of its trace are a run.
use Rattle.std.proofs.Common.{◌≡◌, ℕ, zero, suc, ◌+◌, ◌<◌, ◌≤◌, List, [], ◌∷◌, ◌++◌, true, refl, sym, ap, ◌∙◌, subst, arith, length, get_or, map, Contains, ◌⊎◌, inl, inr}
use Rattle.std.specs.Prelude.{Option, Some, None, ◌&&◌, is_none, slice_get, Bool}
use Rattle.std.proofs.lemmas.List.{get_or_append_left, length-append, length-map}
use Rattle.std.proofs.Math.Seq.{get_or-append_seam}
use Rattle.journal_core.specs.declared.request.Request.{Request}
use Rattle.journal_history.specs.declared.history_line.HistoryLine.{HistoryLine}
use Rattle.journal_history.specs.declared.record.Record.{Record}
use Rattle.journal_history.specs.declared.mark.Mark.{Mark}
use Rattle.journal_history.specs.Cell.{fresh_cell, IsLocalRun}
use Rattle.journal_history.specs.Moving.{Placed, moving_of}
use Rattle.run_safety.specs.Run.{IsRun}
use Rattle.ns_tree.specs.declared.end.End.{End}
use Rattle.mesh.specs.Marks.{IsMarked, AreCopied}
use Rattle.mesh.specs.Makers.{IsOfChores, IsOperators}
use Rattle.mesh.specs.Matches.{reached, lines_of, AreSame, AreWithin, CallersWithin}
use Rattle.mesh.specs.Order.{placed_at, entries_at}
use Rattle.mesh.specs.Agree.{Agrees, operator_of, history_at, record_of, plan_of}
use Rattle.play_model.specs.Lines.{Line, count_actors, names_in, actions_of, operations_in, ArePlayable, HasNodes, Declares, Acts, Operates}
use Rattle.play_model.specs.Actor.{Actor, fresh_actor, wants, last_of}
use Rattle.play_model.specs.Plays.{Play, play_steps, play_begins, has_ended, no_lines, actor_at, history_of, histories_from, mesh_of, ends_from, ends_of, IsPlay}
use Rattle.play_model.specs.Follows.{Follows, AreOperations, FollowsLines}
use Rattle.mesh.proofs.Lists.{Alike, alike, append_none}
use Rattle.play_model.proofs.Wanting.{Resting, resting, rests_is}
use Rattle.play_model.proofs.ChoresMade.{chores_made}
use Rattle.play_model.proofs.Goes.{Goes, GoesBy, all_copied}
use Rattle.mesh.proofs.Tied.{Tied, callers_within}
use Rattle.mesh.specs.Traces.{InStep, IsInMesh, IsTrace}
use Rattle.mesh.proofs.InStep.{tied_of}
use Rattle.play_model.proofs.Links.{IsOf}
use Rattle.mesh.proofs.Traced.{trace_runs, trace_at_nodes}
use Rattle.play_model.proofs.Parts.{ActorOk}
use Rattle.play_model.proofs.Playing.{Holds}
use Rattle.play_model.proofs.Taking.{begins_hold, steps_hold}

-- ## The lists of a mesh
histories_length : (k n : ℕ) (t : List Placed) → length (histories_from k n t) ≡ n
unfolding histories_from
histories_length k zero t = refl
histories_length k (suc n) t = ap suc (histories_length (k + 1) n t)

histories_at : (k n i : ℕ) (t : List Placed) → i < n → get_or (histories_from k n t) i [] ≡ history_of (k + i) t
unfolding histories_from
histories_at k zero i t below = absurd (omega (arith, below))
histories_at k (suc n) zero t below = ap (λ (x : ℕ). history_of x t) (omega arith)
histories_at k (suc n) (suc i) t below = histories_at (k + 1) n i t (omega (arith, below)) ∙ ap (λ (x : ℕ). history_of x t) (omega arith)

history_is : (p : Play) (i : ℕ) → i < p.nodes → history_at (mesh_of p) i ≡ history_of (i + 1) p.trace
unfolding mesh_of
history_is p i below = histories_at 1 p.nodes i p.trace below ∙ ap (λ (x : ℕ). history_of x p.trace) (omega arith)

pasts_at : (as_ : List Actor) (c : ℕ) (d : Actor) → c < length as_ → get_or (map (λ (a : Actor). a.past) as_) c [] ≡ (get_or as_ c d).past
pasts_at [] c d below = absurd (omega (arith, below))
pasts_at (a ∷ as_) zero d below = refl
pasts_at (a ∷ as_) (suc c) d below = pasts_at as_ c d (omega (arith, below))

marks_at : (as_ : List Actor) (c : ℕ) (d : Actor) → c < length as_ → get_or (map (λ (a : Actor). a.marks) as_) c [] ≡ (get_or as_ c d).marks
marks_at [] c d below = absurd (omega (arith, below))
marks_at (a ∷ as_) zero d below = refl
marks_at (a ∷ as_) (suc c) d below = marks_at as_ c d (omega (arith, below))

pub actors_are : (p : Play) → operator_of (mesh_of p) ≡ length p.actors
unfolding mesh_of
actors_are p = length-map p.actors _

pub record_is : (p : Play) (c : ℕ) → c < length p.actors → record_of (mesh_of p) c ≡ (actor_at p c).past
unfolding mesh_of actor_at
record_is p c below =
    get_or_append_left (map (λ (a : Actor). a.past) p.actors) (p.operated ∷ []) [] c (omega (arith, below, length-map p.actors (λ (a : Actor). a.past)))
    ∙ pasts_at p.actors c (fresh_actor p.named p.nodes) below

last_is : (p : Play) (c : ℕ) → c ≡ length p.actors → record_of (mesh_of p) c ≡ p.operated
unfolding mesh_of
last_is p c e =
    ap (λ (x : ℕ). get_or (map (λ (a : Actor). a.past) p.actors ++ p.operated ∷ []) x []) (e ∙ sym (length-map p.actors (λ (a : Actor). a.past)))
    ∙ get_or-append_seam (map (λ (a : Actor). a.past) p.actors) p.operated [] []

plan_is : (p : Play) (c : ℕ) → c < length p.actors → plan_of (mesh_of p) c ≡ (actor_at p c).marks
unfolding mesh_of actor_at
plan_is p c below = marks_at p.actors c (fresh_actor p.named p.nodes) below

nodes_are : (p : Play) → (mesh_of p).nodes ≡ p.nodes
unfolding mesh_of
nodes_are p = refl

count_is : (p : Play) → length (mesh_of p).histories ≡ p.nodes
unfolding mesh_of
count_is p = histories_length 1 p.nodes p.trace

records_are : (p : Play) → length (mesh_of p).records ≡ length p.actors + 1
unfolding mesh_of
records_are p = length-append (map (λ (a : Actor). a.past) p.actors) (p.operated ∷ []) ∙ ap (λ (k : ℕ). k + 1) (length-map p.actors _)

-- ## Its end
pub ended_lines : (p : Play) → has_ended p ≡ true → p.lines ≡ []
unfolding has_ended no_lines
ended_lines p e = by p.lines e
  where
    by : (ls : List Line) → no_lines ls && is_none p.turn ≡ true → ls ≡ []
    by [] h = refl
    by (l ∷ ls) h = absurd (cc h)

pub ended_turn : (p : Play) → has_ended p ≡ true → p.turn ≡ None
unfolding has_ended no_lines
ended_turn p e = by p.lines p.turn e
  where
    by : (ls : List Line) (o : Option ℕ) → no_lines ls && is_none o ≡ true → o ≡ None
    by ls None h = refl
    by [] (Some a) h = absurd (cc h)
    by (l ∷ ls) (Some a) h = absurd (cc h)

-- ## Its ends
pub names_count : (ls : List Line) → length (names_in ls) ≡ count_actors ls
unfolding names_in count_actors
names_count [] = refl
names_count (Declares x ∷ ls) = ap suc (names_count ls)
names_count (Acts a d ∷ ls) = names_count ls
names_count (Operates k ask ∷ ls) = names_count ls

ends_names : (names : List (List ℕ)) (as_ : List Actor) → length names ≡ length as_ → map (λ (x : End). x.name) (ends_from names as_) ≡ names
unfolding ends_from
ends_names [] as_ same = refl
ends_names (x ∷ names) [] same = absurd (omega (arith, same))
ends_names (x ∷ names) (a ∷ as_) same = ap (λ (l : List (List ℕ)). x ∷ l) (ends_names names as_ (omega (arith, same)))

end_at : (names : List (List ℕ)) (as_ : List Actor) (c : ℕ) (d : Actor) (x : End) → slice_get (ends_from names as_) c ≡ Some x → x.last ≡ last_of (get_or as_ c d).holds
unfolding ends_from
end_at [] as_ c d x e = absurd (cc e)
end_at (name ∷ names) [] c d x e = absurd (cc e)
end_at (name ∷ names) (a ∷ as_) zero d x e = let same : record { name = name; last = last_of a.holds } ≡ x = cc e in sym (ap (λ (y : End). y.last) same)
end_at (name ∷ names) (a ∷ as_) (suc c) d x e = end_at names as_ c d x e

-- the calls of each actor are those of some chores
abbrev pub AreMade : Play → Type 0
AreMade p = (c : ℕ) → c < length p.actors → IsOfChores p.nodes (actor_at p c).past

module _ (named : Bool) (n : ℕ) (lines : List Line) (p : Play) (h : Holds named n lines p) (e : has_ended p ≡ true) where
  taken_is : lines ≡ h.taken
  taken_is = h.all ∙ (ap (λ (x : List Line). h.taken ++ x) (ended_lines p e) ∙ append_none h.taken)

  last_actor : p.operator ≡ length p.actors
  last_actor = h.operator ∙ (ap count_actors taken_is ∙ sym h.counted)

  below_is : (c : ℕ) → c < operator_of (mesh_of p) → c < length p.actors
  below_is c below = subst (λ (m : ℕ). c < m) (actors_are p) below

  ok_of : (c : ℕ) → c < length p.actors → ActorOk p.named p.nodes (actions_of c h.taken) (actor_at p c)
  unfolding actor_at
  ok_of c below = h.actors.each c below

  rests_of : (c : ℕ) → c < length p.actors → Resting (actor_at p c)
  rests_of c below = resting (actor_at p c) (rests_is (wants (actor_at p c)) (h.rests c below (λ (f : p.turn ≡ Some c). cc (f, ended_turn p e))))

  node_below : (i : ℕ) → i < (mesh_of p).nodes → i < p.nodes
  node_below i below = subst (λ (x : ℕ). i < x) (nodes_are p) below

  local_of : (i : ℕ) → i < (mesh_of p).nodes → IsLocalRun fresh_cell (history_at (mesh_of p) i)
  local_of i below = subst (λ (x : List HistoryLine). IsLocalRun fresh_cell x) (sym (history_is p i (node_below i below))) (h.cells.local i (node_below i below))

  made_of : AreMade p → (c : ℕ) → c < operator_of (mesh_of p) → IsOfChores (mesh_of p).nodes (record_of (mesh_of p) c)
  made_of made c below =
      let u : c < length p.actors = below_is c below in
      subst (λ (m : ℕ). IsOfChores m (record_of (mesh_of p) c)) (sym (nodes_are p)) (subst (λ (x : List Record). IsOfChores p.nodes x) (sym (record_is p c u)) (made c u))

  step_by : (c : ℕ) → c ≤ length p.actors → Alike c (length p.actors) → InStep c (record_of (mesh_of p) c) p.trace
  unfolding Alike actor_at
  step_by c v (inl f) = subst (λ (x : List Record). InStep c x p.trace) (sym (last_is p c f.1)) (subst (λ (x : ℕ). InStep x p.operated p.trace) (last_actor ∙ sym f.1) h.links.operator)
  step_by c v (inr f) =
      let w : c < length p.actors = grind (arith, f.1, v) in
      subst (λ (x : List Record). InStep c x p.trace) (sym (record_is p c w)) (h.links.actors c (λ (g : c ≡ p.operator). f.1 (g ∙ last_actor)))

  step_of : (c : ℕ) → c ≤ operator_of (mesh_of p) → InStep c (record_of (mesh_of p) c) p.trace
  step_of c v = step_by c (subst (λ (m : ℕ). c ≤ m) (actors_are p) v) (alike c (length p.actors))

  same_of : (i c : ℕ) → i < (mesh_of p).nodes → c ≤ operator_of (mesh_of p) → AreSame (reached (i + 1) (record_of (mesh_of p) c)) (lines_of c (history_at (mesh_of p) i))
  same_of i c below v = subst (λ (x : List HistoryLine). AreSame (reached (i + 1) (record_of (mesh_of p) c)) (lines_of c x)) (sym (history_is p i (node_below i below)))
      (unfold Tied in tied_of (i + 1) c (record_of (mesh_of p) c) p.trace (step_of c v))

  goes_of : (c : ℕ) → c < length p.actors → Goes (actor_at p c).marks (actor_at p c).past None
  unfolding GoesBy
  goes_of c u = subst (λ (o : Option (ℕ × Request)). Goes (actor_at p c).marks (actor_at p c).past o) (rests_of c u).copies (ok_of c u).sound.goes

  marked_of : (c : ℕ) → c < operator_of (mesh_of p) → IsMarked (plan_of (mesh_of p) c) [] (record_of (mesh_of p) c)
  marked_of c below =
      let u : c < length p.actors = below_is c below in
      subst (λ (x : List Mark). IsMarked x [] (record_of (mesh_of p) c)) (sym (plan_is p c u))
      (subst (λ (x : List Record). IsMarked (actor_at p c).marks [] x) (sym (record_is p c u)) (goes_of c u).marked)

  copied_of : (c : ℕ) → c < operator_of (mesh_of p) → AreCopied (plan_of (mesh_of p) c) (record_of (mesh_of p) c)
  copied_of c below =
      let u : c < length p.actors = below_is c below in
      subst (λ (x : List Mark). AreCopied x (record_of (mesh_of p) c)) (sym (plan_is p c u))
      (subst (λ (x : List Record). AreCopied (actor_at p c).marks x) (sym (record_is p c u))
      (all_copied (actor_at p c).marks (actor_at p c).past (goes_of c u)))

  within_by : (c : ℕ) → c ≤ length p.actors → Alike c (length p.actors) → AreWithin p.nodes (record_of (mesh_of p) c)
  unfolding Alike
  within_by c v (inl f) = subst (λ (x : List Record). AreWithin p.nodes x) (sym (last_is p c f.1)) h.operated.within
  within_by c v (inr f) =
      let w : c < length p.actors = grind (arith, f.1, v) in
      subst (λ (x : List Record). AreWithin p.nodes x) (sym (record_is p c w)) (ok_of c w).sound.within

  line_within : (x : Placed) → Contains p.trace x → IsInMesh (mesh_of p) x
  line_within x i =
      let w : IsOf p.nodes (length p.actors) p.operator x = h.links.lines x i in
      record { from_one = w.from_one; up_to_n = subst (λ (m : ℕ). x.node ≤ m) (sym (nodes_are p)) w.up_to_n; caller = subst (λ (m : ℕ). x.line.caller ≤ m) (sym (actors_are p)) (by w.caller) }
    where
      by : (x.line.caller < length p.actors) ⊎ (x.line.caller ≡ p.operator) → x.line.caller ≤ length p.actors
      by (inl l) = omega (arith, l)
      by (inr e) = omega (arith, e, last_actor)

  callers_of : (i : ℕ) → i < (mesh_of p).nodes → CallersWithin (operator_of (mesh_of p)) (history_at (mesh_of p) i)
  callers_of i below = subst (λ (x : List HistoryLine). CallersWithin (operator_of (mesh_of p)) x) (sym (history_is p i (node_below i below)))
      (callers_within (operator_of (mesh_of p)) (i + 1) p.trace (λ x j. (line_within x j).caller))

  agrees_of : AreMade p → Agrees (mesh_of p)
  agrees_of made = record {
    lists = record {
      local = local_of;
      operated = subst IsOperators (sym (last_is p (operator_of (mesh_of p)) (actors_are p))) h.operated.theirs;
      same = same_of;
      marked = marked_of;
      copied = copied_of;
      callers = callers_of;
      within = λ c v. subst (λ (m : ℕ). AreWithin m (record_of (mesh_of p) c)) (sym (nodes_are p)) (within_by c (subst (λ (m : ℕ). c ≤ m) (actors_are p) v) (alike c (length p.actors)));
    };
    made = made_of made;
    histories = count_is p ∙ sym (nodes_are p);
    records = records_are p ∙ ap (λ (x : ℕ). x + 1) (sym (actors_are p));
  }

  traced_of : IsTrace (mesh_of p) p.trace
  traced_of = record { histories = λ i below. history_is p i (node_below i below); records = step_of; lines = line_within }

  runs_of : AreMade p → IsRun n (moving_of p.trace)
  runs_of made = subst (λ (m : ℕ). IsRun m (moving_of p.trace)) (nodes_are p ∙ h.nodes) (trace_runs (mesh_of p) p.trace (agrees_of made) traced_of)

  in_order_of : AreMade p → (i : ℕ) → i < n → entries_at (i + 1) (moving_of p.trace) ≡ moving_of (placed_at (mesh_of p) i)
  in_order_of made i below = trace_at_nodes (mesh_of p) p.trace (agrees_of made) traced_of i (subst (λ (m : ℕ). i < m) (sym (nodes_are p ∙ h.nodes)) below)

  follows_of : (c : ℕ) (x : End) → c < length p.actors → slice_get (ends_of p) c ≡ Some x → Follows p.named p.nodes (actions_of c h.taken) (actor_at p c).past (actor_at p c).marks x
  unfolding ends_of actor_at
  follows_of c x u f =
      let ok : ActorOk p.named p.nodes (actions_of c h.taken) (actor_at p c) = ok_of c u in
      record {
        led = ok.led;
        ended = ap wants ok.is ∙ h.rests c u (λ (g : p.turn ≡ Some c). cc (g, ended_turn p e));
        marks = ap (λ (a : Actor). a.marks) (sym ok.is);
        end = end_at p.names p.actors c (fresh_actor p.named p.nodes) x f ∙ ap (λ (a : Actor). last_of a.holds) (sym ok.is);
      }

  each_follows : (c : ℕ) (x : End) → c < operator_of (mesh_of p) → slice_get (ends_of p) c ≡ Some x → Follows named n (actions_of c lines) (record_of (mesh_of p) c) (plan_of (mesh_of p) c) x
  each_follows c x below f =
      let u : c < length p.actors = below_is c below in
      subst (λ (b : Bool). Follows b n (actions_of c lines) (record_of (mesh_of p) c) (plan_of (mesh_of p) c) x) h.named_is
      (subst (λ (m : ℕ). Follows p.named m (actions_of c lines) (record_of (mesh_of p) c) (plan_of (mesh_of p) c) x) h.nodes
      (subst (λ (ls : List Line). Follows p.named p.nodes (actions_of c ls) (record_of (mesh_of p) c) (plan_of (mesh_of p) c) x) (sym taken_is)
      (subst (λ (y : List Record). Follows p.named p.nodes (actions_of c h.taken) y (plan_of (mesh_of p) c) x) (sym (record_is p c u))
      (subst (λ (y : List Mark). Follows p.named p.nodes (actions_of c h.taken) (actor_at p c).past y x) (sym (plan_is p c u)) (follows_of c x u f)))))

  names_of : map (λ (x : End). x.name) (ends_of p) ≡ names_in lines
  unfolding ends_of
  names_of = ends_names p.names p.actors (ap length h.names ∙ names_count h.taken ∙ sym h.counted) ∙ (h.names ∙ ap names_in (sym taken_is))

  follows_all : FollowsLines named n lines (mesh_of p) (ends_of p)
  follows_all = record {
    nodes_are = nodes_are p ∙ h.nodes;
    actors_are = actors_are p ∙ (h.counted ∙ ap count_actors (sym taken_is));
    names = names_of;
    actors = each_follows;
    operator = subst (λ (x : List Record). AreOperations (operations_in lines) x) (sym (last_is p (operator_of (mesh_of p)) (actors_are p)))
        (subst (λ (ls : List Line). AreOperations (operations_in ls) p.operated) (sym taken_is) h.operated.follows);
  }

pub holds_at : (named : Bool) (n : ℕ) (lines : List Line) (p : Play) → HasNodes named n → ArePlayable named n 0 lines → IsPlay named n lines p → Holds named n lines p
holds_at named n lines p some can h = subst (Holds named n lines) h.reached (steps_hold named h.steps n lines (play_begins named n lines) (begins_hold named n lines some can))

made_at : (named : Bool) (n : ℕ) (lines : List Line) (p : Play) → Holds named n lines p → AreMade p
unfolding actor_at
made_at named n lines p h c below =
    let ok : ActorOk p.named p.nodes (actions_of c h.taken) (get_or p.actors c (fresh_actor p.named p.nodes)) = h.actors.each c below in
    chores_made p.named p.nodes (actions_of c h.taken) (actor_at p c).past ok.actions ok.led

pub play_agrees : (named : Bool) (n : ℕ) (lines : List Line) (p : Play) → HasNodes named n → ArePlayable named n 0 lines → IsPlay named n lines p → Agrees (mesh_of p)
play_agrees named n lines p some can h =
    let g : Holds named n lines p = holds_at named n lines p some can h in agrees_of named n lines p g h.ended (made_at named n lines p g)

-- the moving entries of the trace, in its order, are a run
pub play_runs : (named : Bool) (n : ℕ) (lines : List Line) (p : Play) → HasNodes named n → ArePlayable named n 0 lines → IsPlay named n lines p → IsRun n (moving_of p.trace)
play_runs named n lines p some can h =
    let g : Holds named n lines p = holds_at named n lines p some can h in runs_of named n lines p g h.ended (made_at named n lines p g)

-- and at each node these are the node's, in its order
pub play_in_order : (named : Bool) (n : ℕ) (lines : List Line) (p : Play) → HasNodes named n → ArePlayable named n 0 lines → IsPlay named n lines p
    → (i : ℕ) → i < n → entries_at (i + 1) (moving_of p.trace) ≡ moving_of (placed_at (mesh_of p) i)
play_in_order named n lines p some can h =
    let g : Holds named n lines p = holds_at named n lines p some can h in in_order_of named n lines p g h.ended (made_at named n lines p g)

pub play_follows : (named : Bool) (n : ℕ) (lines : List Line) (p : Play) → HasNodes named n → ArePlayable named n 0 lines → IsPlay named n lines p → FollowsLines named n lines (mesh_of p) (ends_of p)
play_follows named n lines p some can h = follows_all named n lines p (holds_at named n lines p some can h) h.ended

pub local_runs : (named : Bool) (n : ℕ) (lines : List Line) (steps i : ℕ) → HasNodes named n → ArePlayable named n 0 lines → i < n
    → IsLocalRun fresh_cell (history_of (i + 1) (play_steps steps (play_begins named n lines)).trace)
local_runs named n lines steps i some can below =
    let p : Play = play_steps steps (play_begins named n lines) in
    let h : Holds named n lines p = steps_hold named steps n lines (play_begins named n lines) (begins_hold named n lines some can) in
    h.cells.local i (subst (λ (m : ℕ). i < m) (sym h.nodes) below)
