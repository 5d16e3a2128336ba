-- One step of a play, part by part: the actors, the nodes, and what ties the two.
use Rattle.std.proofs.Common.{◌≡◌, ℕ, ◌+◌, ◌-◌, ◌<◌, ◌≤◌, List, [], ◌∷◌, ◌++◌, Bool, true, false, cond, refl, sym, ap, ◌∙◌, subst, arith, length, get_or, set, inl, inr}
use Rattle.std.specs.Prelude.{◌≢◌, ◌==◌}
use Rattle.std.proofs.lemmas.List.{get_or-set_same, get_or-set_other, length-set, get_or_append_left, length-append}
use Rattle.std.proofs.Math.Seq.{get_or-append_seam}
use Rattle.journal_history.specs.declared.history_line.HistoryLine.{HistoryLine}
use Rattle.journal_history.specs.declared.node_ask.NodeAsk.{NodeAsk}
use Rattle.journal_history.specs.declared.record.Record.{Record}
use Rattle.journal_history.specs.Cell.{Cell, fresh_cell, cell_takes, IsLocalRun, cell_after}
use Rattle.journal_history.specs.Moving.{Placed}
use Rattle.mesh.specs.Matches.{IsWithin}
use Rattle.play_model.specs.Lines.{Action, Line, Declares, Acts, Operates, actions_of, IsAction, AreActions, HasNodes}
use Rattle.play_model.specs.Actor.{Actor, fresh_actor, settle, hand_action, wants, goes_on, Fits, actor_after, IsLed}
use Rattle.play_model.specs.Plays.{history_of}
use Rattle.mesh.proofs.Lists.{cond_true, cond_false, Alike, alike, append_none}
use Rattle.play_model.proofs.Led.{led_snoc, after_snoc, settled_more, handed_after, handed_led}
use Rattle.play_model.proofs.Goes.{IsTold}
use Rattle.play_model.proofs.Sound.{Sound, actions_snoc, goes_past, goes_sound, handed_past, handed_sound, fresh_sound}
use Rattle.mesh.proofs.Tied.{history_at, history_off, local_snoc, cell_snoc}

-- ## An actor
pub record ActorOk (named : Bool) (n : ℕ) (ds : List Action) (a : Actor) : Type 0 where
  pub led : IsLed (settle ds (fresh_actor named n)) a.past
  pub is : actor_after (settle ds (fresh_actor named n)) a.past ≡ a
  pub sound : Sound named n a
  pub actions : AreActions named ds

ok_more : (named : Bool) (n : ℕ) (ds : List Action) (a : Actor) (r : Record) → ActorOk named n ds a → Fits (wants a) r → IsTold a r → IsWithin n r → ActorOk named n ds (goes_on a r)
ok_more named n ds a r ok f t w = record {
  led = subst (λ (l : List Record). IsLed (settle ds (fresh_actor named n)) l) (sym (goes_past a r))
      (led_snoc (settle ds (fresh_actor named n)) a.past r ok.led (subst (λ (b : Actor). Fits (wants b) r) (sym ok.is) f));
  is = ap (actor_after (settle ds (fresh_actor named n))) (goes_past a r) ∙ (after_snoc (settle ds (fresh_actor named n)) a.past r ∙ ap (λ (b : Actor). goes_on b r) ok.is);
  sound = goes_sound named n a r f t w ok.sound;
  actions = ok.actions;
}

ok_handed : (named : Bool) (n : ℕ) (ds : List Action) (a : Actor) (e : Action) → IsAction named e → ActorOk named n ds a → ActorOk named n (ds ++ e ∷ []) (hand_action e a)
ok_handed named n ds a e d ok =
    let same : settle (ds ++ e ∷ []) (fresh_actor named n) ≡ hand_action e (settle ds (fresh_actor named n)) = settled_more ds (fresh_actor named n) e in
    record {
      led = subst (λ (l : List Record). IsLed (settle (ds ++ e ∷ []) (fresh_actor named n)) l) (sym (handed_past e a))
          (subst (λ (b : Actor). IsLed b a.past) (sym same) (handed_led (settle ds (fresh_actor named n)) a.past e ok.led));
      is = ap (actor_after (settle (ds ++ e ∷ []) (fresh_actor named n))) (handed_past e a)
          ∙ (ap (λ (b : Actor). actor_after b a.past) same ∙ (handed_after (settle ds (fresh_actor named n)) a.past e ok.led ∙ ap (hand_action e) ok.is));
      sound = handed_sound named n e a d ok.sound;
      actions = actions_snoc named ds e ok.actions d;
    }

ok_fresh : (named : Bool) (n : ℕ) → HasNodes named n → ActorOk named n [] (fresh_actor named n)
unfolding IsLed actor_after settle fresh_actor AreActions
ok_fresh named n some = record { led = tt; is = refl; sound = fresh_sound named n some; actions = tt }

-- ## All actors
pub record Actors (named : Bool) (n : ℕ) (taken : List Line) (as_ : List Actor) : Type 0 where
  pub each : (c : ℕ) → c < length as_ → ActorOk named n (actions_of c taken) (get_or as_ c (fresh_actor named n))
  pub none : (c : ℕ) → length as_ ≤ c → actions_of c taken ≡ []

pub actors_noted : (named : Bool) (n : ℕ) (taken : List Line) (as_ : List Actor) (a : ℕ) (r : Record) → Actors named n taken as_ → a < length as_
    → Fits (wants (get_or as_ a (fresh_actor named n))) r → IsTold (get_or as_ a (fresh_actor named n)) r → IsWithin n r
    → Actors named n taken (set as_ a (goes_on (get_or as_ a (fresh_actor named n)) r))
unfolding Alike
actors_noted named n taken as_ a r h in_ f t w = record {
  each = λ c below. each c (subst (λ (x : ℕ). c < x) (length-set as_ a _) below) (alike c a);
  none = λ c above. h.none c (subst (λ (x : ℕ). x ≤ c) (length-set as_ a _) above);
}
  where
    each : (c : ℕ) → c < length as_ → Alike c a → ActorOk named n (actions_of c taken) (get_or (set as_ a (goes_on (get_or as_ a (fresh_actor named n)) r)) c (fresh_actor named n))
    each c below (inl e) = subst (λ (x : ℕ). ActorOk named n (actions_of x taken) (get_or (set as_ a (goes_on (get_or as_ a (fresh_actor named n)) r)) x (fresh_actor named n))) (sym e.1)
        (subst (λ (b : Actor). ActorOk named n (actions_of a taken) b) (sym (get_or-set_same as_ a (goes_on (get_or as_ a (fresh_actor named n)) r) (fresh_actor named n) in_))
        (ok_more named n (actions_of a taken) (get_or as_ a (fresh_actor named n)) r (h.each a in_) f t w))
    each c below (inr e) = subst (λ (b : Actor). ActorOk named n (actions_of c taken) b)
        (sym (get_or-set_other as_ a c (goes_on (get_or as_ a (fresh_actor named n)) r) (fresh_actor named n) e.1)) (h.each c below)

actions_acted : (c a : ℕ) (d : Action) (ls : List Line) → actions_of c (ls ++ Acts a d ∷ []) ≡ cond (a == c) (actions_of c ls ++ d ∷ []) (actions_of c ls)
unfolding actions_of
actions_acted c a d [] = refl
actions_acted c a d (Declares x ∷ ls) = actions_acted c a d ls
actions_acted c a d (Operates k ask ∷ ls) = actions_acted c a d ls
actions_acted c a d (Acts b e ∷ ls) = by (b == c) (a == c) (actions_acted c a d ls)
  where
    by : (x y : Bool) → actions_of c (ls ++ Acts a d ∷ []) ≡ cond y (actions_of c ls ++ d ∷ []) (actions_of c ls)
        → cond x (e ∷ actions_of c (ls ++ Acts a d ∷ [])) (actions_of c (ls ++ Acts a d ∷ [])) ≡ cond y
        (cond x (e ∷ actions_of c ls) (actions_of c ls) ++ d ∷ []) (cond x (e ∷ actions_of c ls) (actions_of c ls))
    by true true h = ap (λ (l : List Action). e ∷ l) h
    by true false h = ap (λ (l : List Action). e ∷ l) h
    by false true h = h
    by false false h = h

-- a line that is no action
pub actions_append : (c : ℕ) (ls ms : List Line) → actions_of c (ls ++ ms) ≡ actions_of c ls ++ actions_of c ms
unfolding actions_of
actions_append c [] ms = refl
actions_append c (Declares x ∷ ls) ms = actions_append c ls ms
actions_append c (Operates k ask ∷ ls) ms = actions_append c ls ms
actions_append c (Acts b e ∷ ls) ms = by (b == c) (actions_append c ls ms)
  where
    by : (z : Bool) → actions_of c (ls ++ ms) ≡ actions_of c ls ++ actions_of c ms
        → cond z (e ∷ actions_of c (ls ++ ms)) (actions_of c (ls ++ ms)) ≡ cond z (e ∷ actions_of c ls) (actions_of c ls) ++ actions_of c ms
    by true h = ap (λ (l : List Action). e ∷ l) h
    by false h = h

actions_declared : (c : ℕ) (x : List ℕ) (ls : List Line) → actions_of c (ls ++ Declares x ∷ []) ≡ actions_of c ls
unfolding actions_of
actions_declared c x ls = actions_append c ls (Declares x ∷ []) ∙ append_none (actions_of c ls)

actions_operated : (c k : ℕ) (ask : NodeAsk) (ls : List Line) → actions_of c (ls ++ Operates k ask ∷ []) ≡ actions_of c ls
unfolding actions_of
actions_operated c k ask ls = actions_append c ls (Operates k ask ∷ []) ∙ append_none (actions_of c ls)

pub actors_handed : (named : Bool) (n : ℕ) (taken : List Line) (as_ : List Actor) (a : ℕ) (d : Action) → Actors named n taken as_ → a < length as_ → IsAction named d
    → Actors named n (taken ++ Acts a d ∷ []) (set as_ a (hand_action d (get_or as_ a (fresh_actor named n))))
unfolding Alike
actors_handed named n taken as_ a d h in_ is = record {
  each = λ c below. each c (subst (λ (x : ℕ). c < x) (length-set as_ a _) below) (alike a c);
  none = λ c above. none c (subst (λ (x : ℕ). x ≤ c) (length-set as_ a _) above) (alike a c);
}
  where
    each : (c : ℕ) → c < length as_ → Alike a c → ActorOk named n (actions_of c (taken ++ Acts a d ∷ []))
        (get_or (set as_ a (hand_action d (get_or as_ a (fresh_actor named n)))) c (fresh_actor named n))
    each c below (inl e) = subst (λ (x : ℕ). ActorOk named n (actions_of x (taken ++ Acts a d ∷ []))
        (get_or (set as_ a (hand_action d (get_or as_ a (fresh_actor named n)))) x (fresh_actor named n))) e.1
        (subst (λ (ds : List Action). ActorOk named n ds (get_or (set as_ a (hand_action d (get_or as_ a (fresh_actor named n)))) a
        (fresh_actor named n))) (sym (actions_acted a a d taken ∙ cond_true (a == a) _ _ (subst (λ (x : ℕ). (a == x) ≡ true) (sym e.1) e.0)))
        (subst (λ (b : Actor). ActorOk named n (actions_of a taken ++ d ∷ []) b) (sym (get_or-set_same as_ a (hand_action d (get_or as_ a (fresh_actor named n))) (fresh_actor named n) in_))
        (ok_handed named n (actions_of a taken) (get_or as_ a (fresh_actor named n)) d is (h.each a in_))))
    each c below (inr e) = subst (λ (ds : List Action). ActorOk named n ds
        (get_or (set as_ a (hand_action d (get_or as_ a (fresh_actor named n)))) c (fresh_actor named n)))
        (sym (actions_acted c a d taken ∙ cond_false (a == c) _ _ e.0))
        (subst (λ (b : Actor). ActorOk named n (actions_of c taken) b)
        (sym (get_or-set_other as_ a c (hand_action d (get_or as_ a (fresh_actor named n))) (fresh_actor named n) (λ (x : c ≡ a). e.1 (sym x))))
        (h.each c below))

    none : (c : ℕ) → length as_ ≤ c → Alike a c → actions_of c (taken ++ Acts a d ∷ []) ≡ []
    none c above (inl e) = absurd (omega (arith, e.1, in_, above))
    none c above (inr e) = actions_acted c a d taken ∙ (cond_false (a == c) _ _ e.0 ∙ h.none c above)

pub actors_declared : (named : Bool) (n : ℕ) (taken : List Line) (as_ : List Actor) (x : List ℕ) → HasNodes named n → Actors named n taken as_
    → Actors named n (taken ++ Declares x ∷ []) (as_ ++ fresh_actor named n ∷ [])
unfolding Alike
actors_declared named n taken as_ x some h = record {
  each = λ c below. subst (λ (ds : List Action). ActorOk named n ds (get_or (as_ ++ fresh_actor named n ∷ []) c (fresh_actor named n)))
      (sym (actions_declared c x taken)) (each c (alike c (length as_)) (omega (arith, length-append as_ (fresh_actor named n ∷ []), below)));
  none = λ c above. actions_declared c x taken ∙ h.none c (omega (arith, length-append as_ (fresh_actor named n ∷ []), above));
}
  where
    each : (c : ℕ) → Alike c (length as_) → c < length as_ + 1 → ActorOk named n (actions_of c taken) (get_or (as_ ++ fresh_actor named n ∷ []) c (fresh_actor named n))
    each c (inl e) below = subst (λ (ds : List Action). ActorOk named n ds (get_or (as_ ++ fresh_actor named n ∷ []) c (fresh_actor named n))) (sym (h.none c (omega (arith, e.1))))
        (subst (λ (b : Actor). ActorOk named n [] b) (sym (ap (λ (k : ℕ). get_or (as_ ++ fresh_actor named n ∷ []) k (fresh_actor named n)) e.1
        ∙ get_or-append_seam as_ (fresh_actor named n) [] (fresh_actor named n))) (ok_fresh named n some))
    each c (inr e) below =
        let in_ : c < length as_ = grind (arith, e.1, below) in
        subst (λ (b : Actor). ActorOk named n (actions_of c taken) b) (sym (get_or_append_left as_ (fresh_actor named n ∷ []) (fresh_actor named n) c in_)) (h.each c in_)

pub actors_operated : (named : Bool) (n : ℕ) (taken : List Line) (as_ : List Actor) (k : ℕ) (ask : NodeAsk) → Actors named n taken as_ → Actors named n (taken ++ Operates k ask ∷ []) as_
actors_operated named n taken as_ k ask h = record {
  each = λ c below. subst (λ (ds : List Action). ActorOk named n ds (get_or as_ c (fresh_actor named n))) (sym (actions_operated c k ask taken)) (h.each c below);
  none = λ c above. actions_operated c k ask taken ∙ h.none c above;
}

-- ## The nodes
pub record Nodes (n : ℕ) (cells : List Cell) (t : List Placed) : Type 0 where
  pub count : length cells ≡ n
  pub local : (i : ℕ) → i < n → IsLocalRun fresh_cell (history_of (i + 1) t)
  pub state : (i : ℕ) → i < n → cell_after fresh_cell (history_of (i + 1) t) ≡ get_or cells i fresh_cell

pub nodes_asked : (n : ℕ) (cells : List Cell) (t : List Placed) (x : Placed) → Nodes n cells t → 1 ≤ x.node → x.node ≤ n
    → x.line.answer ≡ (cell_takes (get_or cells (x.node - 1) fresh_cell) x.line.ask).answer
    → Nodes n (set cells (x.node - 1) (cell_takes (get_or cells (x.node - 1) fresh_cell) x.line.ask).cell) (t ++ x ∷ [])
unfolding Alike
nodes_asked n cells t x h low high is = record {
  count = length-set cells (x.node - 1) _ ∙ h.count;
  local = λ j below. local j below (alike j (x.node - 1));
  state = λ j below. state j below (alike j (x.node - 1));
}
  where
    here : (j : ℕ) → j ≡ x.node - 1 → x.node ≡ j + 1
    here j e = omega (arith, e, low)

    off : (j : ℕ) → j ≢ x.node - 1 → x.node ≢ j + 1
    off j e f = e (omega (arith, f))

    local : (j : ℕ) → j < n → Alike j (x.node - 1) → IsLocalRun fresh_cell (history_of (j + 1) (t ++ x ∷ []))
    local j below (inl e) = subst (λ (l : List HistoryLine). IsLocalRun fresh_cell l) (sym (history_at (j + 1) t x (here j e.1)))
        (local_snoc fresh_cell (history_of (j + 1) t) x.line (h.local j below)
        (is ∙ ap (λ (c : Cell). (cell_takes c x.line.ask).answer) (ap (λ (y : ℕ). get_or cells y fresh_cell) (sym e.1) ∙ sym (h.state j below))))
    local j below (inr e) = subst (λ (l : List HistoryLine). IsLocalRun fresh_cell l) (sym (history_off (j + 1) t x (off j e.1))) (h.local j below)

    state : (j : ℕ) → j < n → Alike j (x.node - 1) → cell_after fresh_cell (history_of (j + 1) (t ++ x ∷ [])) ≡ get_or
        (set cells (x.node - 1) (cell_takes (get_or cells (x.node - 1) fresh_cell) x.line.ask).cell) j fresh_cell
    state j below (inl e) = ap (cell_after fresh_cell) (history_at (j + 1) t x (here j e.1))
        ∙ (cell_snoc fresh_cell (history_of (j + 1) t) x.line
        ∙ (ap (λ (c : Cell). (cell_takes c x.line.ask).cell) (h.state j below ∙ ap (λ (y : ℕ). get_or cells y fresh_cell) e.1)
        ∙ (sym (get_or-set_same cells (x.node - 1) _ fresh_cell (omega (arith, h.count, low, high)))
        ∙ ap (λ (y : ℕ). get_or (set cells (x.node - 1) (cell_takes (get_or cells (x.node - 1) fresh_cell) x.line.ask).cell) y fresh_cell) (sym e.1))))
    state j below (inr e) = ap (cell_after fresh_cell) (history_off (j + 1) t x (off j e.1)) ∙ (h.state j below ∙ sym (get_or-set_other cells (x.node - 1) j _ fresh_cell e.1))
