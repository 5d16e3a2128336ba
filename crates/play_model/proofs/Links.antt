-- What ties the records of a play's actors and of its operator to its trace.
use Rattle.std.proofs.Common.{◌≡◌, ℕ, zero, suc, ◌+◌, ◌<◌, ◌≤◌, List, [], ◌∷◌, ◌++◌, false, refl, sym, ◌∙◌, subst, arith, length, get_or, set, Contains, ◌⊎◌, inl, inr}
use Rattle.std.specs.Prelude.{◌≢◌}
use Rattle.std.proofs.lemmas.List.{get_or-set_same, get_or-set_other, length-set, length-append}
use Rattle.std.proofs.lemmas.List.Elements.{Contains-push_cases}
use Rattle.journal_history.specs.declared.record.Record.{Record}
use Rattle.journal_history.specs.Moving.{Placed}
use Rattle.mesh.specs.Matches.{reaches}
use Rattle.play_model.specs.Actor.{Actor}
use Rattle.mesh.proofs.Lists.{Alike, alike}
use Rattle.mesh.specs.Traces.{IsEvent, InStep, notes, waits, goes}

-- a line of one of so many nodes, by one of so many actors or by the operator
pub record IsOf (n actors op : ℕ) (x : Placed) : Type 0 where
  pub from_one : 1 ≤ x.node
  pub up_to_n : x.node ≤ n
  pub caller : (x.line.caller < actors) ⊎ (x.line.caller ≡ op)

-- of so many nodes; the operator's number is above those of all actors
pub record Links (n op : ℕ) (d : Actor) (as_ : List Actor) (operated : List Record) (t : List Placed) : Type 0 where
  pub above : length as_ ≤ op
  -- the trace has each caller's lines in the order of its record; an actor that isn't declared has
  -- none
  pub actors : (c : ℕ) → c ≢ op → InStep c (get_or as_ c d).past t
  pub operator : InStep op operated t
  pub lines : (x : Placed) → Contains t x → IsOf n (length as_) op x

-- one more line of the trace
lines_more : (n actors op : ℕ) (t : List Placed) (y : Placed) → ((x : Placed) → Contains t x → IsOf n actors op x) → IsOf n actors op y → (x : Placed) → Contains (t ++ y ∷ []) x → IsOf n actors op x
lines_more n actors op t y h is x i = by (Contains-push_cases t y x i)
  where
    by : Contains t x ⊎ (y ≡ x) → IsOf n actors op x
    by (inl j) = h x j
    by (inr e) = subst (IsOf n actors op) e is

-- the record of each actor, where one of them is changed
set_steps : (as_ : List Actor) (d : Actor) (a op : ℕ) (b : Actor) (t : List Placed) → a < length as_ → InStep a b.past t → ((c : ℕ) → c ≢ a → c ≢ op → InStep c (get_or as_ c d).past t)
    → (c : ℕ) → c ≢ op → InStep c (get_or (set as_ a b) c d).past t
unfolding Alike
set_steps as_ d a op b t in_ its h c off = by (alike c a)
  where
    by : Alike c a → InStep c (get_or (set as_ a b) c d).past t
    by (inl e) = subst (λ (k : ℕ). InStep k (get_or (set as_ a b) k d).past t) (sym e.1) (subst (λ (x : Actor). InStep a x.past t) (sym (get_or-set_same as_ a b d in_)) its)
    by (inr e) = subst (λ (x : Actor). InStep c x.past t) (sym (get_or-set_other as_ a c b d e.1)) (h c e.1 off)

-- an actor isn't the operator
apart : (op a : ℕ) (as_ : List Actor) → length as_ ≤ op → a < length as_ → a ≢ op
apart op a as_ above in_ e = omega (arith, e, above, in_)

-- an actor whose record is the same
pub links_same : (n op : ℕ) (d : Actor) (as_ : List Actor) (operated : List Record) (t : List Placed) (a : ℕ) (b : Actor) → Links n op d as_ operated t
    → a < length as_ → b.past ≡ (get_or as_ a d).past → Links n op d (set as_ a b) operated t
links_same n op d as_ operated t a b h in_ same = record {
  above = subst (λ (m : ℕ). m ≤ op) (sym (length-set as_ a b)) h.above;
  actors = set_steps as_ d a op b t in_ (subst (λ (l : List Record). InStep a l t) (sym same) (h.actors a (apart op a as_ h.above in_))) (λ c e off. h.actors c off);
  operator = h.operator;
  lines = subst (λ (m : ℕ). (x : Placed) → Contains t x → IsOf n m op x) (sym (length-set as_ a b)) h.lines;
}

-- an actor notes a line that reached no node
pub links_quiet : (n op : ℕ) (d : Actor) (as_ : List Actor) (operated : List Record) (t : List Placed) (a : ℕ) (b : Actor) (r : Record) → Links n op d as_ operated t
    → a < length as_ → b.past ≡ (get_or as_ a d).past ++ r ∷ [] → ((k : ℕ) → reaches k r ≡ false) → Links n op d (set as_ a b) operated t
links_quiet n op d as_ operated t a b r h in_ same off = record {
  above = subst (λ (m : ℕ). m ≤ op) (sym (length-set as_ a b)) h.above;
  actors = set_steps as_ d a op b t in_ (notes (get_or as_ a d).past b.past t r same off (h.actors a (apart op a as_ h.above in_))) (λ c e away. h.actors c away);
  operator = h.operator;
  lines = subst (λ (m : ℕ). (x : Placed) → Contains t x → IsOf n m op x) (sym (length-set as_ a b)) h.lines;
}

-- an actor notes a line that reached a node, and so does the node
pub links_loud : (n op : ℕ) (d : Actor) (as_ : List Actor) (operated : List Record) (t : List Placed) (a : ℕ) (b : Actor) (r : Record) (x : Placed) → Links n op d as_ operated t
    → a < length as_ → b.past ≡ (get_or as_ a d).past ++ r ∷ [] → x.line.caller ≡ a → (1 ≤ x.node) × (x.node ≤ n) → IsEvent r x → Links n op d (set as_ a b) operated (t ++ x ∷ [])
links_loud n op d as_ operated t a b r x h in_ same by_a range event = record {
  above = subst (λ (m : ℕ). m ≤ op) (sym (length-set as_ a b)) h.above;
  actors = set_steps as_ d a op b (t ++ x ∷ []) in_ (goes (get_or as_ a d).past b.past t (t ++ x ∷ []) r x same refl by_a event (h.actors a (apart op a as_ h.above in_)))
      (λ c e away. waits (get_or as_ c d).past t (t ++ x ∷ []) x refl (λ (f : x.line.caller ≡ c). e (sym f ∙ by_a)) (h.actors c away));
  operator = waits operated t (t ++ x ∷ []) x refl (λ (e : x.line.caller ≡ op). omega (arith, e, by_a, in_, h.above)) h.operator;
  lines = subst (λ (m : ℕ). (y : Placed) → Contains (t ++ x ∷ []) y → IsOf n m op y) (sym (length-set as_ a b))
      (lines_more n (length as_) op t x h.lines (record { from_one = range.0; up_to_n = range.1; caller = inl (omega (arith, by_a, in_)) }));
}

-- the operator notes a line
pub links_operated : (n op : ℕ) (d : Actor) (as_ : List Actor) (operated : List Record) (t : List Placed) (r : Record) (x : Placed) → Links n op d as_ operated t
    → x.line.caller ≡ op → (1 ≤ x.node) × (x.node ≤ n) → IsEvent r x → Links n op d as_ (operated ++ r ∷ []) (t ++ x ∷ [])
links_operated n op d as_ operated t r x h by_op range event = record {
  above = h.above;
  actors = λ c away. waits (get_or as_ c d).past t (t ++ x ∷ []) x refl (λ (e : x.line.caller ≡ c). away (sym e ∙ by_op)) (h.actors c away);
  operator = goes operated (operated ++ r ∷ []) t (t ++ x ∷ []) r x refl refl by_op event h.operator;
  lines = lines_more n (length as_) op t x h.lines (record { from_one = range.0; up_to_n = range.1; caller = inr by_op });
}

-- a new actor is as one that isn't there
get_push : (as_ : List Actor) (c : ℕ) (d : Actor) → get_or (as_ ++ d ∷ []) c d ≡ get_or as_ c d
get_push [] zero d = refl
get_push [] (suc c) d = refl
get_push (a ∷ as_) zero d = refl
get_push (a ∷ as_) (suc c) d = get_push as_ c d

of_more : (n actors op : ℕ) (x : Placed) → IsOf n actors op x → IsOf n (actors + 1) op x
of_more n actors op x h = record { from_one = h.from_one; up_to_n = h.up_to_n; caller = by h.caller }
  where
    by : (x.line.caller < actors) ⊎ (x.line.caller ≡ op) → (x.line.caller < actors + 1) ⊎ (x.line.caller ≡ op)
    by (inl l) = inl (omega (arith, l))
    by (inr e) = inr e

-- an actor is declared, and there is room for the operator after it
pub links_declared : (n op : ℕ) (d : Actor) (as_ : List Actor) (operated : List Record) (t : List Placed) → length as_ < op → Links n op d as_ operated t → Links n op d (as_ ++ d ∷ []) operated t
links_declared n op d as_ operated t room h = record {
  above = omega (arith, length-append as_ (d ∷ []), room);
  actors = λ c off. subst (λ (y : Actor). InStep c y.past t) (sym (get_push as_ c d)) (h.actors c off);
  operator = h.operator;
  lines = λ x i. subst (λ (m : ℕ). IsOf n m op x) (sym (length-append as_ (d ∷ []))) (of_more n (length as_) op x (h.lines x i));
}
