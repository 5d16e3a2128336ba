-- A script line keeps what a play keeps; and so does each step.
use Rattle.std.proofs.Common.{◌≡◌, ℕ, zero, suc, ◌+◌, ◌-◌, ◌<◌, ◌≤◌, List, [], ◌∷◌, ◌++◌, Bool, true, false, refl, sym, ap, ◌∙◌, subst, arith, length, get_or, set, inl, inr, append_assoc}
use Rattle.std.specs.Prelude.{Option, Some, None, ◌≢◌}
use Rattle.std.proofs.lemmas.List.{get_or-set_other, length-set, get_or_append_left, length-append, get_or-replicate, length-replicate}
use Rattle.std.proofs.Math.Seq.{get_or-append_seam}
use Rattle.journal_history.specs.declared.node_ask.NodeAsk.{NodeAsk}
use Rattle.journal_history.specs.declared.record.Record.{Record}
use Rattle.journal_history.specs.declared.record.Record.TheVariants.{Call, Late, Operator, Outcome}
use Rattle.journal_history.specs.Cell.{fresh_cell, IsLocalRun, cell_after}
use Rattle.mesh.specs.Makers.{IsOperation, IsOperators}
use Rattle.mesh.specs.Matches.{reaches, IsSame, AreWithin}
use Rattle.play_model.specs.Lines.{Action, Line, Declares, Acts, Operates, Operation, count_actors, names_in, operations_in, actions_of, IsAction, ArePlayable, HasNodes}
use Rattle.play_model.specs.Actor.{Actor, fresh_actor, hand_action, Rests, wants, say_first, copy_first, read_first, call_wanted}
use Rattle.play_model.specs.Plays.{Play, play_begins, actor_at, taken_at, node_asked, is_done, line_taken, next_line, take_turn, play_step, play_steps, history_of}
use Rattle.play_model.specs.Follows.{AreOperations}
use Rattle.mesh.proofs.Lists.{Alike, alike, append_none, contains_none}
use Rattle.play_model.proofs.Sound.{handed_past, within_snoc}
use Rattle.mesh.specs.Traces.{InStep, begins}
use Rattle.play_model.proofs.Parts.{actors_handed, actors_declared, actors_operated, nodes_asked}
use Rattle.play_model.proofs.Links.{links_same, links_operated, links_declared}
use Rattle.play_model.proofs.Answers.{operation_answer}
use Rattle.play_model.proofs.Playing.{Operated, Holds, asked_as, wanted_holds}

-- ## What lines declare and operate, line by line
declared_append : (ls ms : List Line) → count_actors (ls ++ ms) ≡ count_actors ls + count_actors ms
unfolding count_actors
declared_append [] ms = omega arith
declared_append (Declares x ∷ ls) ms = omega (arith, declared_append ls ms)
declared_append (Acts a d ∷ ls) ms = declared_append ls ms
declared_append (Operates k ask ∷ ls) ms = declared_append ls ms

pub names_append : (ls ms : List Line) → names_in (ls ++ ms) ≡ names_in ls ++ names_in ms
unfolding names_in
names_append [] ms = refl
names_append (Declares x ∷ ls) ms = ap (λ (l : List (List ℕ)). x ∷ l) (names_append ls ms)
names_append (Acts a d ∷ ls) ms = names_append ls ms
names_append (Operates k ask ∷ ls) ms = names_append ls ms

pub operations_append : (ls ms : List Line) → operations_in (ls ++ ms) ≡ operations_in ls ++ operations_in ms
unfolding operations_in
operations_append [] ms = refl
operations_append (Declares x ∷ ls) ms = operations_append ls ms
operations_append (Acts a d ∷ ls) ms = operations_append ls ms
operations_append (Operates k ask ∷ ls) ms = ap (λ (l : List Operation). record { node = k; ask = ask } ∷ l) (operations_append ls ms)

none_more : (k : ℕ) → k + 0 ≡ k
none_more k = omega arith

declared_declares : (ls : List Line) (x : List ℕ) → count_actors (ls ++ Declares x ∷ []) ≡ count_actors ls + 1
unfolding count_actors
declared_declares ls x = declared_append ls (Declares x ∷ [])

declared_acts : (ls : List Line) (a : ℕ) (d : Action) → count_actors (ls ++ Acts a d ∷ []) ≡ count_actors ls
unfolding count_actors
declared_acts ls a d = declared_append ls (Acts a d ∷ []) ∙ none_more (count_actors ls)

declared_operates : (ls : List Line) (k : ℕ) (ask : NodeAsk) → count_actors (ls ++ Operates k ask ∷ []) ≡ count_actors ls
unfolding count_actors
declared_operates ls k ask = declared_append ls (Operates k ask ∷ []) ∙ none_more (count_actors ls)

declared_next : (ls : List Line) (x : List ℕ) (ms : List Line) → count_actors (ls ++ Declares x ∷ ms) ≡ count_actors ls + suc (count_actors ms)
unfolding count_actors
declared_next ls x ms = declared_append ls (Declares x ∷ ms)

names_declares : (ls : List Line) (x : List ℕ) → names_in (ls ++ Declares x ∷ []) ≡ names_in ls ++ x ∷ []
unfolding names_in
names_declares ls x = names_append ls (Declares x ∷ [])

names_acts : (ls : List Line) (a : ℕ) (d : Action) → names_in (ls ++ Acts a d ∷ []) ≡ names_in ls
unfolding names_in
names_acts ls a d = names_append ls (Acts a d ∷ []) ∙ append_none (names_in ls)

names_operates : (ls : List Line) (k : ℕ) (ask : NodeAsk) → names_in (ls ++ Operates k ask ∷ []) ≡ names_in ls
unfolding names_in
names_operates ls k ask = names_append ls (Operates k ask ∷ []) ∙ append_none (names_in ls)

pub operations_snoc : (os : List Operation) (rs : List Record) (k : ℕ) (ask : NodeAsk) (d : Bool) → AreOperations os rs
    → AreOperations (os ++ record { node = k; ask = ask } ∷ []) (rs ++ Operator k ask d ∷ [])
unfolding AreOperations
operations_snoc [] [] k ask d h = (refl, refl, tt)
operations_snoc [] (r ∷ rs) k ask d h = absurd h
operations_snoc (o ∷ os) [] k ask d h = absurd h
operations_snoc (o ∷ os) (Operator i a e ∷ rs) k ask d h = (h.0, h.1, operations_snoc os rs k ask d h.2)
operations_snoc (o ∷ os) (Call i q t ∷ rs) k ask d h = absurd h
operations_snoc (o ∷ os) (Late i q ∷ rs) k ask d h = absurd h
operations_snoc (o ∷ os) (Outcome x ∷ rs) k ask d h = absurd h

pub operators_snoc : (rs : List Record) (k : ℕ) (ask : NodeAsk) (d : Bool) → IsOperators rs → IsOperation ask → IsOperators (rs ++ Operator k ask d ∷ [])
unfolding IsOperators
operators_snoc [] k ask d h is = (is, tt)
operators_snoc (Operator i a e ∷ rs) k ask d h is = (h.0, operators_snoc rs k ask d h.1 is)
operators_snoc (Call i q t ∷ rs) k ask d h is = absurd h
operators_snoc (Late i q ∷ rs) k ask d h is = absurd h
operators_snoc (Outcome x ∷ rs) k ask d h is = absurd h

operated_more : (n : ℕ) (taken : List Line) (rs : List Record) (k : ℕ) (ask : NodeAsk) (d : Bool) → IsOperation ask → (1 ≤ k) × (k ≤ n)
    → Operated n taken rs → Operated n (taken ++ Operates k ask ∷ []) (rs ++ Operator k ask d ∷ [])
unfolding operations_in
operated_more n taken rs k ask d is range h = record {
  follows = subst (λ (os : List Operation). AreOperations os (rs ++ Operator k ask d ∷ [])) (sym (operations_append taken (Operates k ask ∷ [])))
      (operations_snoc (operations_in taken) rs k ask d h.follows);
  theirs = operators_snoc rs k ask d h.theirs is;
  within = within_snoc n rs (Operator k ask d) h.within range;
}

operated_same : (n : ℕ) (taken : List Line) (rs : List Record) (l : Line) → operations_in (l ∷ []) ≡ [] → Operated n taken rs → Operated n (taken ++ l ∷ []) rs
operated_same n taken rs l e h = record {
  follows = subst (λ (os : List Operation). AreOperations os rs) (sym
      (operations_append taken (l ∷ []) ∙ (ap (λ (os : List Operation). operations_in taken ++ os) e ∙ append_none (operations_in taken)))) h.follows;
  theirs = h.theirs;
  within = h.within;
}

fresh_rests : (named : Bool) (n : ℕ) → wants (fresh_actor named n) ≡ Rests
unfolding wants fresh_actor say_first copy_first read_first call_wanted
fresh_rests true n = refl
fresh_rests false n = refl

more_lines : (lines taken : List Line) (l : Line) (ls rest : List Line) → lines ≡ taken ++ rest → rest ≡ l ∷ ls → lines ≡ (taken ++ l ∷ []) ++ ls
more_lines lines taken l ls rest all is = all ∙ (ap (λ (z : List Line). taken ++ z) is ∙ sym (append_assoc taken (l ∷ []) ls))

-- ## A declaration
declares_holds : (named : Bool) (n : ℕ) (lines : List Line) (p : Play) (x : List ℕ) (ls : List Line) → Holds named n lines p → p.turn ≡ None
    → p.lines ≡ Declares x ∷ ls → Holds named n lines (line_taken (Declares x) (record p { lines = ls }))
unfolding line_taken ArePlayable Alike operations_in actor_at
declares_holds named n lines p x ls h e is =
    let long : length (p.actors ++ fresh_actor p.named p.nodes ∷ []) ≡ length p.actors + 1 = length-append p.actors (fresh_actor p.named p.nodes ∷ []) in
    let count : count_actors (h.taken ++ Declares x ∷ []) ≡ count_actors h.taken + 1 = declared_declares h.taken x in
    let whole : count_actors lines ≡ count_actors h.taken + suc (count_actors ls) = ap count_actors (h.all ∙ ap (λ (z : List Line). h.taken ++ z) is) ∙ declared_next h.taken x ls in
    record {
      taken = h.taken ++ Declares x ∷ [];
      all = more_lines lines h.taken (Declares x) ls p.lines h.all is;
      named_is = h.named_is;
      nodes = h.nodes;
      some = h.some;
      operator = h.operator;
      actors = actors_declared p.named p.nodes h.taken p.actors x h.some h.actors;
      cells = h.cells;
      links = links_declared p.nodes p.operator (fresh_actor p.named p.nodes) p.actors p.operated p.trace (omega (arith, h.operator, h.counted, whole)) h.links;
      counted = omega (arith, long, h.counted, count);
      names = ap (λ (z : List (List ℕ)). z ++ x ∷ []) h.names ∙ sym (names_declares h.taken x);
      operated = operated_same p.nodes h.taken p.operated (Declares x) refl h.operated;
      playable = subst (λ (m : ℕ). ArePlayable p.named p.nodes m ls) (sym long) (subst (λ (z : List Line). ArePlayable p.named p.nodes (length p.actors) z) is h.playable);
      turn = λ b f. absurd (cc (e, f));
      rests = λ c below off. by c (omega (arith, long, below)) (alike c (length p.actors));
    }
  where
    by : (c : ℕ) → c < length p.actors + 1 → Alike c (length p.actors) → wants (get_or (p.actors ++ fresh_actor p.named p.nodes ∷ []) c (fresh_actor p.named p.nodes)) ≡ Rests
    by c below (inl f) = ap (λ (z : ℕ). wants (get_or (p.actors ++ fresh_actor p.named p.nodes ∷ []) z (fresh_actor p.named p.nodes))) f.1
        ∙ (ap wants (get_or-append_seam p.actors (fresh_actor p.named p.nodes) [] (fresh_actor p.named p.nodes)) ∙ fresh_rests p.named p.nodes)
    by c below (inr f) =
        let in_ : c < length p.actors = grind (arith, f.1, below) in
        let rests : wants (get_or p.actors c (fresh_actor p.named p.nodes)) ≡ Rests = h.rests c in_ (λ (g : p.turn ≡ Some c). cc (e, g)) in
        ap wants (get_or_append_left p.actors (fresh_actor p.named p.nodes ∷ []) (fresh_actor p.named p.nodes) c in_) ∙ rests

some_is : (a b : ℕ) → Some a ≡ Some b → a ≡ b
some_is a b e = cc e

-- ## An actor's line
acts_holds : (named : Bool) (n : ℕ) (lines : List Line) (p : Play) (a : ℕ) (d : Action) (ls : List Line) → Holds named n lines p → p.turn ≡ None
    → p.lines ≡ Acts a d ∷ ls → Holds named n lines (line_taken (Acts a d) (record p { lines = ls }))
unfolding line_taken ArePlayable actor_at operations_in
acts_holds named n lines p a d ls h e is =
    let can : (a < length p.actors) × IsAction p.named d × ArePlayable p.named p.nodes (length p.actors) ls =
    subst (λ (z : List Line). ArePlayable p.named p.nodes (length p.actors) z) is h.playable in
    let b : Actor = hand_action d (get_or p.actors a (fresh_actor p.named p.nodes)) in
    let long : length (set p.actors a b) ≡ length p.actors = length-set p.actors a b in
    record {
      taken = h.taken ++ Acts a d ∷ [];
      all = more_lines lines h.taken (Acts a d) ls p.lines h.all is;
      named_is = h.named_is;
      nodes = h.nodes;
      some = h.some;
      operator = h.operator;
      actors = actors_handed p.named p.nodes h.taken p.actors a d h.actors can.0 can.1;
      cells = h.cells;
      links = links_same p.nodes p.operator (fresh_actor p.named p.nodes) p.actors p.operated p.trace a b h.links can.0 (handed_past d (get_or p.actors a (fresh_actor p.named p.nodes)));
      counted = long ∙ (h.counted ∙ sym (declared_acts h.taken a d));
      names = h.names ∙ sym (names_acts h.taken a d);
      operated = operated_same p.nodes h.taken p.operated (Acts a d) refl h.operated;
      playable = subst (λ (m : ℕ). ArePlayable p.named p.nodes m ls) (sym long) can.2;
      turn = λ c f. subst (λ (z : ℕ). z < length (set p.actors a b)) (some_is a c f) (subst (λ (m : ℕ). a < m) (sym long) can.0);
      rests = λ c below off.
          let apart : c ≢ a = λ (y : c ≡ a). off (ap (λ (z : ℕ). Some z) (sym y)) in
          ap wants (get_or-set_other p.actors a c b (fresh_actor p.named p.nodes) apart) ∙ h.rests c (subst (λ (z : ℕ). c < z) long below) (λ (g : p.turn ≡ Some c). cc (e, g));
    }

-- ## The operator's line
operates_holds : (named : Bool) (n : ℕ) (lines : List Line) (p : Play) (k : ℕ) (ask : NodeAsk) (ls : List Line) → Holds named n lines p
    → p.turn ≡ None → p.lines ≡ Operates k ask ∷ ls → Holds named n lines (line_taken (Operates k ask) (record p { lines = ls }))
unfolding line_taken node_asked ArePlayable reaches IsSame actor_at
operates_holds named n lines p k ask ls h e is =
    let can : (1 ≤ k) × (k ≤ p.nodes) × IsOperation ask × ArePlayable p.named p.nodes (length p.actors) ls = subst (λ (z : List Line). ArePlayable p.named p.nodes (length p.actors) z) is h.playable in
    let d : Bool = is_done (taken_at k ask p).answer in
    record {
      taken = h.taken ++ Operates k ask ∷ [];
      all = more_lines lines h.taken (Operates k ask) ls p.lines h.all is;
      named_is = h.named_is;
      nodes = h.nodes;
      some = h.some;
      operator = h.operator;
      actors = actors_operated p.named p.nodes h.taken p.actors k ask h.actors;
      cells = nodes_asked p.nodes p.cells p.trace (asked_as k p.operator false ask p) h.cells can.0 can.1 refl;
      links = links_operated p.nodes p.operator (fresh_actor p.named p.nodes) p.actors p.operated p.trace (Operator k ask d) (asked_as k p.operator false ask p) h.links refl (can.0, can.1)
          (record { reach = λ i. refl; same = (refl, operation_answer (get_or p.cells (k - 1) fresh_cell) ask can.2); muted = refl });
      counted = h.counted ∙ sym (declared_operates h.taken k ask);
      names = h.names ∙ sym (names_operates h.taken k ask);
      operated = operated_more p.nodes h.taken p.operated k ask d can.2 (can.0, can.1) h.operated;
      playable = can.3;
      turn = λ b f. absurd (cc (e, f));
      rests = λ c below off. h.rests c below off;
    }

-- ## Any line, any step
line_holds : (named : Bool) (n : ℕ) (lines : List Line) (p : Play) (l : Line) (ls : List Line) → Holds named n lines p → p.turn ≡ None
    → p.lines ≡ l ∷ ls → Holds named n lines (line_taken l (record p { lines = ls }))
line_holds named n lines p (Declares x) ls h e is = declares_holds named n lines p x ls h e is
line_holds named n lines p (Acts a d) ls h e is = acts_holds named n lines p a d ls h e is
line_holds named n lines p (Operates k ask) ls h e is = operates_holds named n lines p k ask ls h e is

next_holds : (named : Bool) (n : ℕ) (lines : List Line) (p : Play) (ls : List Line) → Holds named n lines p → p.turn ≡ None → p.lines ≡ ls → Holds named n lines (next_line ls p)
unfolding next_line
next_holds named n lines p [] h e is = h
next_holds named n lines p (l ∷ ls) h e is = line_holds named n lines p l ls h e is

turned_holds : (named : Bool) (n : ℕ) (lines : List Line) (p : Play) (o : Option ℕ) → Holds named n lines p → p.turn ≡ o → Holds named n lines (take_turn o p)
unfolding take_turn
turned_holds named n lines p None h e = next_holds named n lines p p.lines h e refl
turned_holds named n lines p (Some a) h e = wanted_holds named n lines p a (wants (actor_at p a)) h e refl

step_holds : (named : Bool) (n : ℕ) (lines : List Line) (p : Play) → Holds named n lines p → Holds named n lines (play_step p)
unfolding play_step
step_holds named n lines p h = turned_holds named n lines p p.turn h refl

pub steps_hold : (named : Bool) (k n : ℕ) (lines : List Line) (p : Play) → Holds named n lines p → Holds named n lines (play_steps k p)
unfolding play_steps
steps_hold named zero n lines p h = h
steps_hold named (suc k) n lines p h = steps_hold named k n lines (play_step p) (step_holds named n lines p h)

-- ## The beginning
first_step : (named : Bool) (n c : ℕ) → InStep c (get_or [] c (fresh_actor named n)).past []
unfolding fresh_actor
first_step named n c = begins

pub begins_hold : (named : Bool) (n : ℕ) (lines : List Line) → HasNodes named n → ArePlayable named n 0 lines → Holds named n lines (play_begins named n lines)
unfolding play_begins history_of IsLocalRun cell_after names_in count_actors operations_in AreOperations IsOperators AreWithin actions_of actor_at
begins_hold named n lines some can = record {
  taken = [];
  all = refl;
  named_is = refl;
  nodes = refl;
  some = some;
  operator = refl;
  actors = record { each = λ c below. absurd (omega (arith, below)); none = λ c above. refl };
  cells = record { count = length-replicate n fresh_cell; local = λ i below. tt; state = λ i below. sym (get_or-replicate n i fresh_cell fresh_cell below) };
  links = record { above = omega arith; actors = λ c off. first_step named n c; operator = begins; lines = λ x i. absurd (contains_none x i) };
  counted = refl;
  names = refl;
  operated = record { follows = tt; theirs = tt; within = tt };
  playable = can;
  turn = λ a e. absurd (cc e);
  rests = λ c below off. absurd (omega (arith, below));
}
